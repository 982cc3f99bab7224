-- The store that an opening makes of the one it reads.
use Rattle.std.proofs.Common.{◌≡◌, ◌⊎◌, ◌∙◌, inl, inr, ⊎_elim, ℕ, ◌+◌, ◌-◌, ◌^◌, ◌<◌, ◌≤◌, Bool, true, false, List, [], ◌∷◌, ◌++◌, length, take, refl, sym, ap, subst, Option, Some, None, arith}
use Rattle.std.specs.Prelude.{Result, Ok, Err}
use Rattle.std.proofs.lemmas.Bool.{cases_Bool, false≢true}
use Rattle.std.proofs.lemmas.Option.{none-some, same_Some}
use Rattle.std.proofs.lemmas.Slice.Eq.{bytes_eq-Decides}
use Rattle.std.specs.Str.{bytes_eq}
use Rattle.um_model.specs.Bytes.{◌>>=◌, nothing_left}
use Rattle.um_model.specs.Disk.{Image, Past, Sector, Images, IsImage, During, Synced, IsSettled, seen, after, synced}
use Rattle.um_model.specs.Machine.{State, Input, Run, rests, goes}
use Rattle.um_model.specs.Servable.{IsServable}
use Rattle.um_model.specs.InputSpellings.{input_at}
use Rattle.um_model.specs.StateSpellings.{state_at, state_spelling, FitState}
use Rattle.um_model.specs.Stands.{Contents, contents_of, inputs_of, StandsFor, IsStoreOf}
use Rattle.um_model.specs.Store.{current, store_name, format_name, superblock, body_limit, log_start, first_log_sector, area_start, store_sectors, top, filled, other, part_count, placed, records_of, all_records, IsNoneAbove, GoesOn}
use Rattle.um_log.specs.Greatest.{IsTold, IsGreatest}
use Rattle.um_slot.specs.Snapshots.{HasNewest, EitherNewest}
use Rattle.um_model.specs.Store as sectors
use Rattle.um_model.specs.declared.layout.Format.{Format}
use Rattle.um_model.specs.declared.layout.Format.TheVariants.{One, Two}
use Rattle.um_model.specs.declared.layout.Layout.{Layout}
use Rattle.um_model.specs.declared.layout.Slot.{Slot}
use Rattle.um_laws.proofs.DiskLaws.{started, weaker, followed, during_sync, settled_after_sync}
use Rattle.um_laws.proofs.CountedLaws.{same_all, none_counts, below_top, above_later, counts_own, log_anew}
use Rattle.um_laws.proofs.ImageLaws.{newest_some, newest_none}
use Rattle.um_laws.proofs.StandsLaws.{ComesTo, contents, one_contents, has_contents, state_back, anew, comes_anew, one_layout, bound}
use Rattle.um_laws.proofs.SplitLaws.{inputs_split}
use Rattle.um_laws.proofs.StoreLaws.{superblock_name, one_format, same_newest, same_above, unread_newest, read_from_one}
use Rattle.um_sector.specs.Runs.{IsLaid, MaybeLaid, AfterRun}
use Rattle.um_sector.specs.Refused.{IsLost}
use Rattle.um_wire.specs.declared.refusal.Refusal.{Refusal}
use Rattle.um_wire.specs.declared.refusal.Refusal.TheVariants.{Damaged, NotFormatted, GenerationsSpent, OtherLayout}
use Rattle.um_keeper.specs.Keeping.{Keeps}
use Rattle.um_keeper.proofs.Kept.{packed}
use Rattle.um_keeper.specs.Opening.{HasLayout, all_placed, Replays, no_more, and_then, IsNoInput, here, later, IsUnread, no_sector, no_store, other_format, no_layout, no_header, no_state, no_input, IsSpent, IsUntaken, unread, spent, IsNextOf, IsTakenUp, IsFound, IsSomeStore, IsStill, IsAsBefore, StaysFor, StaysForOne, WasOrStores, HasNewestIn, IsUnwritten}

-- ---- sector 0

-- texts that don't differ are the same
not_other : (xs ys : List ℕ) → ¬ ¬ (xs ≡ ys) → xs ≡ ys
not_other xs ys twice = ⊎_elim
    (λ same. (bytes_eq-Decides xs ys).0 same)
    (λ differ. absurd (twice (λ is. false≢true (sym differ ∙ (bytes_eq-Decides xs ys).1 is))))
    (cases_Bool (bytes_eq xs ys))

same_error : (r : Result (Format × Layout) Refusal) (x y : Refusal) → r ≡ Err x → r ≡ Err y → x ≡ y
same_error r x y p q = cc

-- a text that isn't no format's name is that of one
some_format : (name : List ℕ) → ¬ ((format : Format) → ¬ (name ≡ format_name format)) → (format : Format) × (name ≡ format_name format)
some_format name none = ⊎_elim {C = (format : Format) × (name ≡ format_name format)}
    (λ one. (One, (bytes_eq-Decides name (format_name One)).0 one))
    (λ other. (Two, not_other name (format_name Two) (λ differs. none (by (λ is. false≢true (sym other ∙ (bytes_eq-Decides name (format_name One)).1 is)) differs))))
    (cases_Bool (bytes_eq name (format_name One)))
  where
    by : ¬ (name ≡ format_name One) → ¬ (name ≡ format_name Two) → (format : Format) → ¬ (name ≡ format_name format)
    by one two One = one
    by one two Two = two

-- why sector 0 isn't read
pub first_unread : (count : ℕ) (image : Image) (sector : Sector) (result : Result (Format × Layout) Refusal) (e : Refusal) → result ≡ Err e → sector ≡ image 0 → 0 < count
    → ((e ≡ NotFormatted) ⊎ (e ≡ OtherLayout)) ⊎ ((e ≡ Damaged 0) × ((format : Format) (layout : Layout) → ¬ (sector ≡ superblock format layout)))
    → ((result ≡ Err NotFormatted) → ¬ (take 6 sector ≡ store_name))
    → ((result ≡ Err OtherLayout) → (take 6 sector ≡ store_name) × ((format : Format) → ¬ (take 8 sector ≡ format_name format)))
    → (¬ (take 6 sector ≡ store_name) → result ≡ Err NotFormatted)
    → ((take 6 sector ≡ store_name) × ((format : Format) → ¬ (take 8 sector ≡ format_name format)) → result ≡ Err OtherLayout)
    → IsUnread count image e
first_unread count image sector result e is same some (inl (inl none)) says_none says_other none_says other_says =
    subst (IsUnread count image) (sym none) (no_store some (subst (λ (s : Sector). ¬ (take 6 s ≡ store_name)) same (says_none (is ∙ ap Err none))))
first_unread count image sector result e is same some (inl (inr other)) says_none says_other none_says other_says =
    let says = says_other (is ∙ ap Err other) in
    subst (IsUnread count image) (sym other)
    (other_format some (subst (λ (s : Sector). take 6 s ≡ store_name) same says.0) (subst (λ (s : Sector). (format : Format) → ¬ (take 8 s ≡ format_name format)) same says.1))
first_unread count image sector result e is same some (inr (damaged, none)) says_none says_other none_says other_says =
    subst (IsUnread count image) (sym damaged)
    (no_layout format.0 some (subst (λ (s : Sector). take 8 s ≡ format_name format.0) same format.1) (λ layout h. none h.format layout (same ∙ h.first)))
  where
    not_none : NotFormatted ≡ Damaged 0 → ⊥
    not_none c = absurd (cc)

    not_format : OtherLayout ≡ Damaged 0 → ⊥
    not_format c = absurd (cc)

    err_of : {x y : Refusal} → result ≡ Err x → result ≡ Err y → x ≡ y
    err_of a b = same_error result _ _ a b

    name : take 6 sector ≡ store_name
    name = not_other (take 6 sector) store_name (λ differs. not_none (err_of (none_says differs) (is ∙ ap Err damaged)))

    format : (format : Format) × (take 8 sector ≡ format_name format)
    format = some_format (take 8 sector) (λ differs. not_format (err_of (other_says (name, differs)) (is ∙ ap Err damaged)))

-- where the disk is too small
pub too_small : (count : ℕ) (image : Image) (format : Format) (layout : Layout) → 0 < count → image 0 ≡ superblock format layout → count < store_sectors layout
    → IsUnread count image (Damaged 0)
too_small count image format layout some first small =
    no_layout format some (ap (λ (s : Sector). take 8 s) first ∙ superblock_name format layout)
    (λ other h. let same = one_layout format h.format layout other image first h.first in let room = subst (λ (l : Layout). store_sectors l ≤ count) (sym same) h.room in omega (arith, room, small))

-- ---- the records

pub replayed : {size : ℕ} {records : List (List ℕ)} {s t : State} → Replays size records s t → (inputs : List Input) × (inputs_of records ≡ Some inputs) × Run size s inputs t
replayed no_more = ([], refl, rests)
replayed (and_then {records = records} {input = input} is leads more) =
    let (inputs, are, run) = replayed more in
    (input ∷ inputs, (λ k. is k >>= λ i. are k >>= λ more. Some (i ∷ more)), goes leads.reply leads.actions leads.step run)

-- ---- the store that is taken up

-- the state that it leads to
pub taken_comes : {count : ℕ} {image : Image} {layout : Layout} {slot : Slot} {generation : ℕ} {s : State} (t : IsTakenUp count image layout slot generation s)
    → (inputs : List Input) × ComesTo (body_limit layout) t.body (all_records t.has.format layout generation image) t.start inputs s
taken_comes t = let (inputs, are, run) = replayed t.replays in (inputs, record { start_is = t.starts.read; inputs_are = are; servable = t.starts.servable; run = run })

-- the content of the newest slot and of the records beside it
contents_told : (format : Format) (layout : Layout) (image : Image) {slot : Slot} {generation : ℕ} {body : List ℕ} {start s : State} {inputs : List Input}
    → sectors.newest_of layout image ≡ Some (record { slot = slot; generation = generation; body = body })
    → ComesTo (body_limit layout) body (all_records format layout generation image) start inputs s → contents_of format layout image ≡ Some (contents slot generation start inputs)
contents_told format layout image {slot} {generation} {start = start} newest comes =
    (λ k. newest k >>= λ n. nothing_left (state_at n.body) >>= λ x. inputs_of (all_records format layout n.generation image) >>= λ xs. Some (contents n.slot n.generation x xs))
    ∙ (λ k. comes.start_is k >>= λ x. inputs_of (all_records format layout generation image) >>= λ xs. Some (contents slot generation x xs))
    ∙ (λ k. comes.inputs_are k >>= λ xs. Some (contents slot generation start xs))

-- the state that was taken up of an image is the one it stands for
pub taken_stands : {count : ℕ} {image : Image} {layout : Layout} {slot : Slot} {generation : ℕ} {s : State} → IsTakenUp count image layout slot generation s → StandsFor layout image s
taken_stands {image = image} {layout = layout} {slot = slot} {generation = generation} t =
    let (inputs, comes) = taken_comes t in
    record {
      format = t.has.format;
      first = t.has.first;
      contents = contents slot generation t.start inputs;
      holds = contents_told t.has.format layout image ((newest_some layout image _).1 t.newest) comes;
      servable = comes.servable;
      run = comes.run;
    }

module _ {count : ℕ} {layout : Layout} {slot : Slot} {generation : ℕ} {s : State} (from image : Image) (taken : IsTakenUp count from layout slot generation s)
    (first : image 0 ≡ superblock taken.has.format layout) (newest : sectors.IsNewest layout image slot generation taken.body)
    (log : (j : ℕ) → first_log_sector layout ≤ j → image j ≡ from j) where
  -- an image with its log has the same records
  same_log : all_records taken.has.format layout generation image ≡ all_records taken.has.format layout generation from
  same_log = same_all taken.has.format layout generation from image (λ j low high. log j low)

  -- and with its newest snapshot too it stands for the same state
  still_was : IsStill layout from s image
  still_was =
      let format = taken.has.format in
      let (inputs, comes) = taken_comes taken in
      let here = contents_told format layout image ((newest_some layout image _).1 newest) (subst (λ r. ComesTo (body_limit layout) taken.body r taken.start inputs s) (sym same_log) comes) in
      let there = contents_told format layout from ((newest_some layout from _).1 taken.newest) comes in
      record {
        stands = record { format = format; first = first; contents = contents slot generation taken.start inputs; holds = here; servable = comes.servable; run = comes.run };
        store = λ is. record {
          stands = record { format = format; first = first; contents = contents slot generation taken.start inputs; holds = here; servable = comes.servable; run = comes.run };
          none_later =
              let of = one_format is.stands.format format layout layout (sym is.stands.first ∙ taken.has.first) in
              let holds : contents_of format layout from ≡ Some is.stands.contents = subst (λ (f : Format). contents_of f layout from ≡ Some is.stands.contents) of is.stands.holds in
              let same = ap (λ (c : Contents). c.generation) (one_contents format layout from is.stands.contents (contents slot generation taken.start inputs) holds there) in
              subst (λ (n : ℕ). IsNoneAbove layout image (top format n)) same
              (subst (λ (f : Format). IsNoneAbove layout image (top f is.stands.contents.generation)) of (same_above layout (λ j low high. log j low) is.none_later));
        };
      }

-- where nothing is written yet
pub still_here : {count : ℕ} {layout : Layout} {slot : Slot} {generation : ℕ} {s : State} (past : Past) → IsSettled past → IsTakenUp count (seen past) layout slot generation s
    → Images past (IsStill layout (seen past) s)
still_here {layout = layout} {s = s} past settled taken image at =
    subst (IsStill layout (seen past) s) (sym (settled image at)) (record { stands = taken_stands taken; store = λ is. is })

-- an image has one greatest generation at most
pub one_greatest : (layout : Layout) (image : Image) (newest a b : ℕ) → IsGreatest layout image newest a → IsGreatest layout image newest b → a ≡ b
one_greatest layout image newest a b one two =
    let low = most one.stands two in
    let high = most two.stands one in
    omega (arith, low, high)
  where
    most : {x y : ℕ} → (x ≡ newest) ⊎ IsTold layout image x → IsGreatest layout image newest y → x ≤ y
    most (inl same) top = let least = top.least in omega (arith, same, least)
    most {x} (inr told) top = top.none_later x told.place told.low told.high told.is

-- ---- the next generation

-- of the newest snapshot, with none of a generation above an earlier one in the log, it is a store of its state
pub anew_stores : {format : Format} {layout : Layout} {slot : Slot} {newest last : ℕ} {body : List ℕ} {image : Image} {s : State} → last < newest → HasNewest format layout slot newest body last image
    → body ≡ state_spelling s → FitState s → IsServable (body_limit layout) s → IsStoreOf layout image s
anew_stores {format} {layout} {slot} {newest} {last} {body} {image} {s} above has is fits may =
    anew (subst (λ b. sectors.IsStore format layout image slot newest b []) is (record {
      first = has.first;
      newest = has.snapshot;
      records_are = sym (none_counts format layout newest last image above has.none_later);
      none_later = above_later layout (let low = below_top format newest in omega (arith, low, above)) has.none_later;
    })) (state_back s fits) may

-- and the invariant of a keeper
pub keeps_anew : {past : Past} {count : ℕ} {layout : Layout} {slot : Slot} {newest last : ℕ} {body : List ℕ} {s : State} → IsImage past (seen past) → last < newest
    → Images past (HasNewest current layout slot newest body last) → body ≡ state_spelling s → FitState s → IsServable (body_limit layout) s → store_sectors layout ≤ count
    → Keeps past count layout slot newest [] 0 newest 0 (log_start layout newest) s
keeps_anew {past} {count} {layout} {slot} {newest} {last} {body} {s} at_once above all is fits may room =
    packed at_once (omega arith) (record {
      counts = counts_own current newest;
      store = λ image at.
          let has = all image at in
          subst (λ b. sectors.IsStore current layout image slot newest b []) is (record {
            first = has.first;
            newest = has.snapshot;
            records_are = sym (none_counts current layout newest last image above has.none_later);
            none_later = above_later layout (let low = below_top current newest in omega (arith, low, above)) has.none_later;
          });
      above = λ image at. above_later layout (omega (arith, above)) (all image at).none_later;
      end = λ image at. log_anew layout newest last image above (all image at).none_later;
    }) (comes_anew (state_back s fits) may) room (λ sure. absurd (false≢true sure)) (λ i below. absurd (omega (arith, below)))

-- ---- sector 0 is rewritten

module _ {format : Format} {layout : Layout} {slot : Slot} {newest last : ℕ} {body : List ℕ} {from : Image} (has : HasNewest format layout slot newest body last from) where
  rewritten : (by : Format) (image : Image) → image 0 ≡ superblock by layout → ((j : ℕ) → 1 ≤ j → image j ≡ from j) → HasNewest by layout slot newest body last image
  rewritten by image first same = record {
    first = first;
    snapshot = unread_newest layout from image (λ j read. same j (read_from_one layout from j read)) has.snapshot;
    none_later = same_above layout (λ j low high. same j (omega (arith, low))) has.none_later;
  }

  maybe_rewritten : (image : Image) → MaybeLaid from 0 (superblock current layout ∷ []) image → HasNewestIn layout slot newest body last image
  maybe_rewritten image maybe = ⊎_elim {C = HasNewestIn layout slot newest body last image}
      (λ old. record { format = format; has = rewritten format image (old ∙ has.first) (λ j above. maybe.outside j (inr above)) })
      (λ new. record { format = current; has = rewritten current image new (λ j above. maybe.outside j (inr above)) })
      (maybe.inside 0 (omega arith))

module _ {format : Format} {layout : Layout} (past new : Past) {slot : Slot} {newest last : ℕ} {body : List ℕ} (all : Images past (HasNewest format layout slot newest body last)) where
  pub rewrite_during : During past new (AfterRun past 0 (superblock current layout ∷ [])) → During past new (HasNewestIn layout slot newest body last)
  rewrite_during run = weaker past new _ _ (λ image m. maybe_rewritten (all m.from m.was) image m.laid) run

  pub rewrite_ok : IsImage past (seen past) → IsLaid (seen past) 0 (superblock current layout ∷ []) (seen new) → IsSettled new → Images new (HasNewest current layout slot newest body last)
  rewrite_ok at_once laid settled image at = subst (HasNewest current layout slot newest body last) (sym (settled image at))
      (rewritten (all (seen past) at_once) current (seen new) (laid.inside 0 (omega arith)) (λ j above. laid.outside j (inr above)))

  -- where nothing is written
  pub rewrite_still : During past past (HasNewestIn layout slot newest body last)
  rewrite_still = started past _ (λ image at. record { format = format; has = all image at })

-- ---- the state is written as the next generation

module _ {layout : Layout} {slot : Slot} {newest last : ℕ} {body : List ℕ} {s : State} (above : last < newest) (is : body ≡ state_spelling s) (fits : FitState s)
    (may : IsServable (body_limit layout) s) where
  -- while sector 0 is rewritten
  pub newest_stores : {past new : Past} → During past new (HasNewestIn layout slot newest body last) → During past new (λ image. IsStoreOf layout image s)
  newest_stores {past} {new} run = weaker past new _ _ (λ image h. anew_stores above h.has is fits may) run

module _ {format : Format} {layout : Layout} {past : Past} {slot : Slot} {newest : ℕ} (last : ℕ) {before body : List ℕ} {s : State} (is : body ≡ state_spelling s) (fits : FitState s)
    (may : IsServable (body_limit layout) s) where
  either_stores : (image : Image) → EitherNewest format layout past slot newest before last body image → WasOrStores format layout past slot newest before s image
  either_stores image (inl was) = inl was
  either_stores image (inr new) = inr (anew (subst (λ b. sectors.IsStore format layout image (other slot) (last + 1) b []) is new) (state_back s fits) may)

  -- while the snapshot is written
  pub during_stores : {new : Past} → During past new (EitherNewest format layout past slot newest before last body) → During past new (WasOrStores format layout past slot newest before s)
  during_stores {new} run = weaker past new _ _ either_stores run

  -- and then sector 0
  pub then_stores : {mid new : Past} → During past mid (EitherNewest format layout past slot newest before last body) → During mid new (λ image. IsStoreOf layout image s)
      → During past new (WasOrStores format layout past slot newest before s)
  then_stores {mid} {new} first second = followed past mid new _ (during_stores first) (weaker mid new _ _ (λ image store. inr store) second)

module _ (past : Past) (count : ℕ) (format : Format) (layout : Layout) (slot : Slot) (generation greatest : ℕ) (s : State) (settled : IsSettled past)
    (found : IsFound count (seen past) format layout slot generation (Some greatest) s) where
  abbrev taken : IsTakenUp count (seen past) layout slot generation s
  taken = found.taken

  -- each image has the snapshot that was taken up
  pub have_newest : Images past (HasNewest format layout slot generation taken.body greatest)
  have_newest image at = subst (HasNewest format layout slot generation taken.body greatest) (sym (settled image at))
      (record { first = subst (λ (f : Format). seen past 0 ≡ superblock f layout) found.format_is taken.has.first; snapshot = taken.newest; none_later = found.greatest_is.none_later })

  -- the greatest generation is none below the newest
  pub least_greatest : generation ≤ greatest
  least_greatest = let low = below_top format generation in let least = found.greatest_is.least in omega (arith, low, least)

  still_either : (image : Image) → WasOrStores format layout past slot generation taken.body s image → IsStill layout (seen past) s image
  still_either image (inl was) =
      let same : was.from ≡ seen past = settled was.from was.was in
      still_was (seen past) image taken (subst (λ (f : Format). image 0 ≡ superblock f layout) (sym found.format_is) was.first) was.snapshot (λ j low. was.log j low ∙ ap (λ (i : Image). i j) same)
  still_either image (inr store) = record { stands = store.stands; store = λ is. store }

  -- while its state is written as the next generation, the image stands for it
  pub renewed : (new : Past) → During past new (WasOrStores format layout past slot generation taken.body s) → During past new (IsStill layout (seen past) s)
  renewed new run = weaker past new _ _ still_either run

-- ---- images that a crash leaves of an opening

-- an image of before is as before
as_before : (layout : Layout) (past : Past) → Images past (IsSomeStore layout) → Images past (IsAsBefore layout past)
as_before layout past all image at =
    let s = all image at in record { from = image; was = at; state = s.state; before = s.stands; now = record { stands = s.stands; store = λ is. is } }

module _ (layout : Layout) (old : Past) (all : Images old (IsSomeStore layout)) (is : IsImage old (seen old)) where
  -- the first sync
  sync_before : During old (after synced old) (IsAsBefore layout old)
  sync_before = by (Ok tt) refl
    where
      by : (result : Result (Unit {0}) (Unit {0})) → Synced result old (after synced old) → During old (after synced old) (IsAsBefore layout old)
      by result sync = during_sync result old (after synced old) (IsAsBefore layout old) sync (as_before layout old all (seen old) is) (as_before layout old all)

  unwritten_before : (new : Past) → IsUnwritten old new → During old new (IsAsBefore layout old)
  unwritten_before new (inl same) = subst (λ p. During old p (IsAsBefore layout old)) (sym same) (started old (IsAsBefore layout old) (as_before layout old all))
  unwritten_before new (inr sync) = subst (λ p. During old p (IsAsBefore layout old)) (sym sync) sync_before

  -- and all images after it
  pub stays_before : (found : Layout) (s : State) (new : Past) → StaysFor found s old new → During old new (IsAsBefore layout old)
  stays_before found s new stays =
      let one : found ≡ layout = one_layout stays.stands.format (all (seen old) is).stands.format found layout (seen old) stays.stands.first (all (seen old) is).stands.first in
      followed old (after synced old) new (IsAsBefore layout old) sync_before
      (weaker (after synced old) new (IsStill found (seen old) s) (IsAsBefore layout old)
      (λ image m. record {
        from = seen old;
        was = is;
        state = s;
        before = subst (λ l. StandsFor l (seen old) s) one stays.stands;
        now = subst (λ l. IsStill l (seen old) s image) one m;
      })
      stays.during)

  pub refused_before : (e : Refusal) (new : Past) → IsUnwritten old new ⊎ (IsLost e × StaysForOne old new) → During old new (IsAsBefore layout old)
  refused_before e new (inl unwritten) = unwritten_before new unwritten
  refused_before e new (inr (lost, one)) = stays_before one.layout one.state new one.stays

-- a sync writes nothing
pub sync_unwritten : {T E : Type 0} (result : Result T E) (old new : Past) → Synced result old new → IsUnwritten old new
sync_unwritten (Ok x) old new is = inr is
sync_unwritten (Err e) old new is = inl is

-- from the first sync on
pub stays_of : (count : ℕ) (format : Format) (layout : Layout) (slot : Slot) (generation : ℕ) (greatest : Option ℕ) (s : State) (old mid new : Past) → mid ≡ after synced old
    → IsFound count (seen old) format layout slot generation greatest s
    → (IsSettled mid → IsFound count (seen mid) format layout slot generation greatest s → During mid new (IsStill layout (seen mid) s)) → StaysFor layout s old new
stays_of count format layout slot generation greatest s old mid new sync found more = record {
  stands = taken_stands found.taken;
  during = subst (λ p. During p new (IsStill layout (seen p) s)) sync
      (more (subst IsSettled (sym sync) (settled_after_sync old)) (subst (λ p. IsFound count (seen p) format layout slot generation greatest s) (sym sync) found));
}

-- ---- why it isn't taken up

-- the newest slot of a disk that reads left as it was
pub newest_there : (old new : Past) (layout : Layout) (slot : Slot) (generation : ℕ) (body : List ℕ) → new ≡ old → sectors.IsNewest layout (seen new) slot generation body
    → sectors.newest_of layout (seen old) ≡ Some (record { slot = slot; generation = generation; body = body })
newest_there old new layout slot generation body same newest =
    (newest_some layout (seen old) _).1 (subst (λ (p : Past). sectors.IsNewest layout (seen p) slot generation body) same newest)

pub header_unread : (count : ℕ) (old new : Past) (layout : Layout) (e : Refusal) → HasLayout count (seen old) layout → new ≡ old → e ≡ Damaged 1 → sectors.HasNoHeader layout (seen new)
    → IsUnread count (seen old) e
header_unread count old new layout e has same is none =
    subst (IsUnread count (seen old)) (sym is) (no_header has ((newest_none layout (seen old)).1 (subst (λ (p : Past). sectors.HasNoHeader layout (seen p)) same none)))

-- ---- a store is taken up

name_six : (format : Format) (layout : Layout) → take 6 (superblock format layout) ≡ store_name
unfolding superblock filled
name_six One layout = refl
name_six Two layout = refl

-- the first of such places, and the rest
abbrev first_bytes : List (ℕ × List ℕ) → List ℕ
first_bytes [] = []
first_bytes (p ∷ ps) = p.1

abbrev behind_first : List (ℕ × List ℕ) → List (ℕ × List ℕ)
behind_first [] = []
behind_first (p ∷ ps) = ps

abbrev first_there : List (ℕ × List ℕ) → Bool
first_there [] = false
first_there (p ∷ ps) = true

-- of records that spell inputs none spells none
no_input_none : {places : List (ℕ × List ℕ)} {e : Refusal} → IsNoInput places e → (at : ℕ) (records : List (List ℕ)) (inputs : List Input) → places ≡ placed at records → inputs_of records ≡ Some inputs → ⊥
no_input_none (here is) at [] inputs same are = absurd (false≢true (sym (ap first_there same)))
no_input_none (here {bytes = b} is) at (bytes ∷ records) inputs same are =
    let b_is : b ≡ bytes = ap first_bytes same in
    let (i, some, more) = bound (nothing_left (input_at bytes)) _ inputs are in
    none-some i (sym is ∙ ap (λ (l : List ℕ). nothing_left (input_at l)) b_is ∙ some)
no_input_none (later is fails) at [] inputs same are = absurd (false≢true (sym (ap first_there same)))
no_input_none (later {places = places} is fails) at (bytes ∷ records) inputs same are =
    let rest : places ≡ placed (at + part_count (length bytes)) records = ap behind_first same in
    let (i, some, more) = bound (nothing_left (input_at bytes)) _ inputs are in
    let (others, all, last) = bound (inputs_of records) _ inputs more in
    no_input_none fails (at + part_count (length bytes)) records others rest all

-- of several lists the first that has one
no_input_parts : {e : Refusal} (a b : List (ℕ × List ℕ)) → IsNoInput (a ++ b) e → IsNoInput a e ⊎ IsNoInput b e
no_input_parts [] b fails = inr fails
no_input_parts (x ∷ a) b (here is) = inl (here is)
no_input_parts (x ∷ a) b (later is fails) = ⊎_elim {C = _ ⊎ _} (λ first. inl (later is first)) (λ second. inr second) (no_input_parts a b fails)

-- of all that count none spells none
none_placed : (format : Format) (layout : Layout) (newest : ℕ) (image : Image) {e : Refusal} {inputs : List Input} → inputs_of (all_records format layout newest image) ≡ Some inputs
    → IsNoInput (all_placed format layout newest image) e → ⊥
none_placed One layout newest image {inputs = inputs} are fails = no_input_none fails (area_start One layout newest) (records_of One layout newest image) inputs refl are
none_placed Two layout newest image {inputs = inputs} are fails =
    let p = inputs_split (records_of Two layout newest image) (records_of Two layout (newest + 1) image) inputs are in
    ⊎_elim (λ first. no_input_none first (area_start Two layout newest) (records_of Two layout newest image) p.front refl p.front_are)
    (λ second. no_input_none second (area_start Two layout (newest + 1)) (records_of Two layout (newest + 1) image) p.behind refl p.behind_are)
    (no_input_parts (placed (area_start Two layout newest) (records_of Two layout newest image)) (placed (area_start Two layout (newest + 1)) (records_of Two layout (newest + 1) image)) fails)

module _ (count : ℕ) (format : Format) (layout : Layout) (image : Image) (room : store_sectors layout ≤ count) (slot : Slot) (generation : ℕ) (body : List ℕ) (start s : State) (inputs : List Input)
    (first : image 0 ≡ superblock format layout) (newest : sectors.IsNewest layout image slot generation body)
    (comes : ComesTo (body_limit layout) body (all_records format layout generation image) start inputs s) where
  there : sectors.newest_of layout image ≡ Some (record { slot = slot; generation = generation; body = body })
  there = (newest_some layout image _).1 newest

  -- whatever store the image is, it is this one
  this : (by : Format) (other : Layout) (n : sectors.Newest) → image 0 ≡ superblock by other → sectors.newest_of other image ≡ Some n
      → (other ≡ layout) × (n.generation ≡ generation) × (n.body ≡ body)
  this by other n zero held =
      let one = one_layout by format other layout image zero first in
      let same = same_Some n _ (sym (subst (λ l. sectors.newest_of l image ≡ Some n) one held) ∙ there) in
      (one, ap (λ (m : sectors.Newest). m.generation) same, ap (λ (m : sectors.Newest). m.body) same)

  of_format : (by : Format) (other : Layout) → image 0 ≡ superblock by other → by ≡ format
  of_format by other zero = one_format by format other layout (sym zero ∙ first)

  -- only where its greatest generation is the last one it is refused by E20
  store_spent : (greatest : ℕ) → IsGreatest layout image (top format generation) greatest → IsSpent count image → 2 ^ 64 - 1 ≤ greatest
  store_spent greatest most h =
      let same = this h.taken.has.format h.layout (record { slot = h.slot; generation = h.generation; body = h.taken.body }) h.taken.has.first ((newest_some h.layout image _).1 h.taken.newest) in
      let by = of_format h.taken.has.format h.layout h.taken.has.first in
      let tops : top h.taken.has.format h.generation ≡ top format generation = λ k. top (by k) (same.1 k) in
      let least = most.least in
      ⊎_elim
      (λ past. omega (arith, past, tops, least))
      (λ last. let one = one_greatest layout image (top format generation) greatest (2 ^ 64 - 1) most
      (subst (λ n. IsGreatest layout image n (2 ^ 64 - 1)) tops (subst (λ l. IsGreatest l image (top h.taken.has.format h.generation) (2 ^ 64 - 1)) same.0 last)) in
      omega (arith, one))
      h.last

  -- and never for a cause of its reading
  store_unread : {e : Refusal} → ¬ IsUnread count image e
  store_unread (no_sector none) = absurd (omega (arith, none, room))
  store_unread (no_store some differs) = absurd (differs (ap (λ (x : Sector). take 6 x) first ∙ name_six format layout))
  store_unread (other_format some name differs) = absurd (differs format (ap (λ (x : Sector). take 8 x) first ∙ superblock_name format layout))
  store_unread (no_layout by some name none) = absurd (none layout (record { format = format; first = first; room = room }))
  store_unread (no_header {layout = other} has none) =
      absurd (none-some _ (sym (subst (λ l. sectors.newest_of l image ≡ None) (one_layout has.format format other layout image has.first first) none) ∙ there))
  store_unread (no_state {layout = other} {n = n} has held none) =
      let same = this has.format other n has.first held in
      absurd (none start (record {
        read = ap (λ (b : List ℕ). nothing_left (state_at b)) same.2 ∙ comes.start_is;
        servable = subst (λ l. IsServable (body_limit l) start) (sym same.0) comes.servable;
      }))
  store_unread (no_input {layout = other} {n = n} has held starts fails) =
      let same = this has.format other n has.first held in
      let by = of_format has.format other has.first in
      let are : all_records has.format other n.generation image ≡ all_records format layout generation image = λ k. all_records (by k) (same.0 k) (same.1 k) image in
      absurd (none_placed has.format other n.generation image (ap inputs_of are ∙ comes.inputs_are) fails)

-- as laws of the refusals of a disk
pub a_store_unread : (count : ℕ) (layout : Layout) (image : Image) (s : State) (e : Refusal) → store_sectors layout ≤ count → StandsFor layout image s → ¬ IsUnread count image e
a_store_unread count layout image s e room is fails =
    let c = is.contents in
    let h = has_contents is.format layout image c is.holds in
    store_unread count is.format layout image room c.slot c.generation h.body c.start s c.inputs is.first h.newest
    (record { start_is = h.start_is; inputs_are = h.inputs_are; servable = is.servable; run = is.run }) fails

pub a_store_untaken : (count : ℕ) (layout : Layout) (image : Image) (s : State) (e : Refusal) → store_sectors layout ≤ count → StandsFor layout image s → IsUntaken count image e
    → e ≡ GenerationsSpent
a_store_untaken count layout image s e room is (unread fails) = absurd (a_store_unread count layout image s e room is fails)
a_store_untaken count layout image s e room is (spent last) = refl

pub a_taken_read : (count : ℕ) (layout : Layout) (image : Image) (slot : Slot) (generation greatest : ℕ) (s : State) (e : Refusal) (taken : IsTakenUp count image layout slot generation s)
    → IsGreatest layout image (top taken.has.format generation) greatest → greatest < 2 ^ 64 - 1 → ¬ IsUntaken count image e
a_taken_read count layout image slot generation greatest s e t most early (unread fails) =
    let (inputs, comes) = taken_comes t in
    store_unread count t.has.format layout image t.has.room slot generation t.body t.start s inputs t.has.first t.newest comes fails
a_taken_read count layout image slot generation greatest s e t most early (spent is) =
    let (inputs, comes) = taken_comes t in
    let last = store_spent count t.has.format layout image t.has.room slot generation t.body t.start s inputs t.has.first t.newest comes greatest most is in
    omega (arith, last, early)

-- the state that was taken up, one generation after the greatest
pub next_of : (count : ℕ) (image : Image) (format : Format) (from layout : Layout) (before slot : Slot) (earlier greatest generation : ℕ) (s t : State) → t ≡ s → layout ≡ from → slot ≡ other before
    → generation ≡ greatest + 1 → IsFound count image format from before earlier (Some greatest) s → IsNextOf count image layout slot generation t
next_of count image format from layout before slot earlier greatest generation s t state one turned next found =
    let there : IsFound count image format layout before earlier (Some greatest) t =
    subst (λ l. IsFound count image format l before earlier (Some greatest) t) (sym one) (subst (IsFound count image format from before earlier (Some greatest)) (sym state) found) in
    record {
      before = before;
      earlier = earlier;
      greatest = greatest;
      turned = turned;
      taken = there.taken;
      is_greatest = subst (λ (f : Format). IsGreatest layout image (top f earlier) greatest) (sym there.format_is) there.greatest_is;
      next = next;
    }

-- of a store no sector of the log is of a generation above those that count
pub one_up : (count : ℕ) (layout : Layout) (image : Image) (slot : Slot) (generation : ℕ) (s : State) (next : IsNextOf count image layout slot generation s) → IsStoreOf layout image s
    → generation ≡ top next.taken.has.format next.earlier + 1
one_up count layout image slot generation s next is = by next.is_greatest.stands
  where
    same : is.stands.contents.generation ≡ next.earlier
    same = (same_newest (has_contents is.stands.format layout image is.stands.contents is.stands.holds).newest next.taken.newest).1

    none_later : IsNoneAbove layout image (top next.taken.has.format next.earlier)
    none_later =
        subst (λ (n : ℕ). IsNoneAbove layout image (top next.taken.has.format n)) same
        (subst (λ (f : Format). IsNoneAbove layout image (top f is.stands.contents.generation)) (one_format is.stands.format next.taken.has.format layout layout (sym is.stands.first ∙ next.taken.has.first)) is.none_later)

    by : (next.greatest ≡ top next.taken.has.format next.earlier) ⊎ IsTold layout image next.greatest → generation ≡ top next.taken.has.format next.earlier + 1
    by (inl first) = next.next ∙ ap (λ (n : ℕ). n + 1) first
    by (inr told) =
        let below = none_later next.greatest told.place told.low told.high told.is in
        omega (arith, next.next, next.is_greatest.least, below)
