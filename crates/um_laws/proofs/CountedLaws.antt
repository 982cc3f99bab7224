-- Which records count beside a snapshot, by the format: unread sectors don't change them, and a generation above all in the log has none.
use Rattle.std.specs.Prelude.{◌≡◌, ◌⊎◌, ◌+◌, ◌^◌, ◌<◌, ◌≤◌, ℕ, List, [], ◌++◌, length, refl}
use Rattle.std.proofs.Common.{sym, ◌∙◌, ap, subst, inl, inr, ⊎_elim, arith, append_assoc}
use Rattle.std.proofs.lemmas.List.{append-nil}
use Rattle.um_model.specs.Disk.{Image}
use Rattle.um_model.specs.declared.layout.Format.{Format}
use Rattle.um_model.specs.declared.layout.Format.TheVariants.{One, Two}
use Rattle.um_model.specs.declared.layout.Layout.{Layout}
use Rattle.um_model.specs.declared.layout.Slot.{Slot}
use Rattle.um_model.specs.Store.{current, first_log_sector, area_sectors, area_start, area_end, store_sectors, superblock, top, Counts, records_of, all_records, sectors_of, log_start, log_end, stops, IsLogEnd, IsNoneAbove, IsOf, IsFree, IsLogRead, IsNewest, IsStore}
use Rattle.um_laws.proofs.ImageLaws.{records_are, only_records}
use Rattle.um_laws.proofs.LogLaws.{unread_records}
use Rattle.um_laws.proofs.StoreLaws.{areas, area_within, none_above, same_records, same_above, read_from_one, unread_newest}

-- ---- one generation

module _ (format : Format) (layout : Layout) (generation : ℕ) (a b : Image) where
  -- images that agree in all sectors that the reading looks at have the same records
  pub unread_log : ((j : ℕ) → IsLogRead format layout generation a 0 (area_start format layout generation) j → b j ≡ a j) → records_of format layout generation b ≡ records_of format layout generation a
  unread_log same = only_records format layout generation b (records_of format layout generation a)
      (unread_records format layout generation a b 0 (area_start format layout generation) (records_of format layout generation a) same (records_are format layout generation a))

  -- and so do those that agree in the generation's place
  pub same_area : ((j : ℕ) → area_start format layout generation ≤ j → j < area_end format layout generation → b j ≡ a j) → records_of format layout generation b ≡ records_of format layout generation a
  same_area same = only_records format layout generation b (records_of format layout generation a)
      (same_records 0 (area_start format layout generation) (records_of format layout generation a) same (records_are format layout generation a))

  -- or in the whole log
  pub same_log : ((j : ℕ) → first_log_sector layout ≤ j → j < store_sectors layout → b j ≡ a j) → records_of format layout generation b ≡ records_of format layout generation a
  same_log same =
      let within = area_within format layout generation in
      same_area (λ j low high. same j (omega (arith, low, within.0)) (omega (arith, high, within.1)))

-- a generation above all that stand in the log has none
pub no_records : (format : Format) (layout : Layout) (generation last : ℕ) (image : Image) → last < generation → IsNoneAbove layout image last
    → records_of format layout generation image ≡ []
no_records format layout generation last image above none = only_records format layout generation image [] (none_above format layout generation last image above none)

-- and so has one that no sector can hold
pub never_recorded : (format : Format) (layout : Layout) (generation : ℕ) (image : Image) → 2 ^ 64 ≤ generation → records_of format layout generation image ≡ []
never_recorded format layout generation image past = only_records format layout generation image [] (stops (λ bytes is. let last = is.last in omega (arith, past, last)))

-- ---- all that count

pub unread_all : (format : Format) (layout : Layout) (newest : ℕ) (a b : Image)
    → ((generation j : ℕ) → Counts format newest generation → IsLogRead format layout generation a 0 (area_start format layout generation) j → b j ≡ a j)
    → all_records format layout newest b ≡ all_records format layout newest a
unread_all One layout newest a b same = unread_log One layout newest a b (λ j. same newest j refl)
unread_all Two layout newest a b same =
    let here = unread_log Two layout newest a b (λ j. same newest j (inl refl)) in
    let behind = unread_log Two layout (newest + 1) a b (λ j. same (newest + 1) j (inr refl)) in
    λ k. here k ++ behind k

pub same_all : (format : Format) (layout : Layout) (newest : ℕ) (a b : Image) → ((j : ℕ) → first_log_sector layout ≤ j → j < store_sectors layout → b j ≡ a j)
    → all_records format layout newest b ≡ all_records format layout newest a
same_all One layout newest a b same = same_log One layout newest a b same
same_all Two layout newest a b same =
    let here = same_log Two layout newest a b same in
    let behind = same_log Two layout (newest + 1) a b same in
    λ k. here k ++ behind k

-- if none of these generations stands in the log, no record counts
pub none_counts : (format : Format) (layout : Layout) (newest last : ℕ) (image : Image) → last < newest → IsNoneAbove layout image last
    → all_records format layout newest image ≡ []
none_counts One layout newest last image above none = no_records One layout newest last image above none
none_counts Two layout newest last image above none =
    let here = no_records Two layout newest last image above none in
    let behind = no_records Two layout (newest + 1) last image (omega (arith, above)) none in
    λ k. here k ++ behind k

-- if the next generation doesn't stand there, those of the snapshot's own are all
pub own_records : (format : Format) (layout : Layout) (newest : ℕ) (image : Image) → IsNoneAbove layout image newest → all_records format layout newest image ≡ records_of format layout newest image
own_records One layout newest image none = refl
own_records Two layout newest image none =
    ap (λ (l : List (List ℕ)). records_of Two layout newest image ++ l) (no_records Two layout (newest + 1) newest image (omega arith) none)
    ∙ append-nil (records_of Two layout newest image)

-- the newest snapshot's own generation is none above the greatest that counts
pub below_top : (format : Format) (newest : ℕ) → newest ≤ top format newest
below_top One newest = omega arith
below_top Two newest = omega arith

pub counts_top : (format : Format) (newest generation : ℕ) → Counts format newest generation → generation ≤ top format newest
counts_top One newest generation counts = omega (arith, counts)
counts_top Two newest generation (inl own) = omega (arith, own)
counts_top Two newest generation (inr next) = omega (arith, next)

-- a later snapshot has a later one
pub top_later : (format : Format) (a b : ℕ) → a ≤ b → top format a ≤ top format b
top_later One a b low = low
top_later Two a b low = omega (arith, low)

-- a log in which none is above one generation has none above a later one
pub above_later : (layout : Layout) {image : Image} {generation later : ℕ} → generation ≤ later → IsNoneAbove layout image generation → IsNoneAbove layout image later
above_later layout low none theirs j a b is = let below = none theirs j a b is in omega (arith, below, low)

-- With sector 0 a new snapshot is a store without records.
pub made_store : {layout : Layout} {old image : Image} {slot : Slot} {generation last : ℕ} {body : List ℕ} → IsNewest layout old slot generation body
    → last < generation → IsNoneAbove layout old last → ((j : ℕ) → 1 ≤ j → image j ≡ old j) → image 0 ≡ superblock current layout
    → IsStore current layout image slot generation body []
made_store {layout} {old} {image} {slot} {generation} {last} newest above none same first =
    let kept : IsNoneAbove layout image last = same_above layout (λ j low high. same j (omega (arith, low))) none in
    record {
      first = first;
      newest = unread_newest layout old image (λ j read. same j (read_from_one layout old j read)) newest;
      records_are = sym (none_counts current layout generation last image above kept);
      none_later = above_later layout (let low = below_top current generation in omega (arith, low, above)) kept;
    }

-- ---- where the log begins

-- records of a snapshot's own generation count beside it
pub counts_own : (format : Format) (newest : ℕ) → Counts format newest newest
counts_own One newest = refl
counts_own Two newest = inl refl

-- The log of a generation above all that stand there is free from its first sector on, and goes on there.
pub free_above : (layout : Layout) (generation last : ℕ) (image : Image) → last < generation → IsNoneAbove layout image last → IsFree layout generation image (log_start layout generation)
free_above layout generation last image above none theirs j low high is =
    let within = area_within current layout generation in
    let below = none theirs j (omega (arith, low, within.0)) (omega (arith, high, within.1)) is in
    omega (arith, below, above)

pub log_anew : (layout : Layout) (generation last : ℕ) (image : Image) → last < generation → IsNoneAbove layout image last
    → IsLogEnd layout generation image (records_of current layout generation image) 0 (log_start layout generation)
log_anew layout generation last image above none =
    let nothing = no_records current layout generation last image above none in
    record {
      count = ap (λ (l : List (List ℕ)). length l) (sym nothing);
      place = omega (arith, ap (λ (l : List (List ℕ)). sectors_of l) nothing);
      within = omega arith;
      free = free_above layout generation last image above none;
    }

-- ---- the log's generation, and the one before it that counts

-- the records that count before those of the log's generation: while a snapshot is under way those of the newest snapshot's own
abbrev pub front : (layout : Layout) (newest generation : ℕ) → Counts current newest generation → Image → List (List ℕ)
front layout newest generation (inl own) image = []
front layout newest generation (inr next) image = records_of current layout newest image

-- Where none is above the log's generation, all that count are those before it and its own.
pub split : (layout : Layout) (newest generation : ℕ) (image : Image) (counts : Counts current newest generation) → IsNoneAbove layout image generation
    → all_records current layout newest image ≡ front layout newest generation counts image ++ records_of current layout generation image
split layout newest generation image (inl own) none =
    own_records current layout newest image (subst (λ (n : ℕ). IsNoneAbove layout image n) own none) ∙ ap (λ (n : ℕ). records_of current layout n image) (sym own)
split layout newest generation image (inr next) none = ap (λ (n : ℕ). records_of current layout newest image ++ records_of current layout n image) (sym next)

-- the place of the generation before lies outside that of the log's
pub beside : (layout : Layout) (newest j : ℕ) → log_start layout newest ≤ j → j < log_end layout newest → (j < log_start layout (newest + 1)) ⊎ (log_end layout (newest + 1) ≤ j)
beside layout newest j low high = ⊎_elim {C = (j < log_start layout (newest + 1)) ⊎ (log_end layout (newest + 1) ≤ j)}
    (λ one. inl (omega (arith, one.0, one.1, high))) (λ two. inr (omega (arith, two.0, two.1, low))) (areas layout newest)

-- a change in the log's place alone leaves those before
pub front_same : (layout : Layout) (newest generation : ℕ) (a b : Image) (counts : Counts current newest generation)
    → ((j : ℕ) → first_log_sector layout ≤ j → (j < log_start layout generation) ⊎ (log_end layout generation ≤ j) → b j ≡ a j)
    → front layout newest generation counts b ≡ front layout newest generation counts a
front_same layout newest generation a b (inl own) same = refl
front_same layout newest generation a b (inr next) same =
    let within = area_within current layout newest in
    same_area current layout newest a b (λ j low high. same j (omega (arith, low, within.0))
    (subst (λ (n : ℕ). (j < log_start layout n) ⊎ (log_end layout n ≤ j)) (sym next) (beside layout newest j low high)))

-- So if the log's own records have more after them, all that count have.
pub all_more : (layout : Layout) (newest generation : ℕ) (a b : Image) → Counts current newest generation → IsNoneAbove layout a generation → IsNoneAbove layout b generation
    → ((j : ℕ) → first_log_sector layout ≤ j → (j < log_start layout generation) ⊎ (log_end layout generation ≤ j) → b j ≡ a j) → (x : List (List ℕ))
    → records_of current layout generation b ≡ records_of current layout generation a ++ x → all_records current layout newest b ≡ all_records current layout newest a ++ x
all_more layout newest generation a b counts none_a none_b same x more =
    split layout newest generation b counts none_b
    ∙ (λ k. front_same layout newest generation a b counts same k ++ more k)
    ∙ sym (append_assoc (front layout newest generation counts a) (records_of current layout generation a) x)
    ∙ ap (λ (l : List (List ℕ)). l ++ x) (sym (split layout newest generation a counts none_a))
