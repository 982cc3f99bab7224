-- The sectors of a store: each header, body and record has one reading, and unread sectors don't count.
use Rattle.std.specs.Prelude.{◌≡◌, ◌⊎◌, ◌+◌, ◌-◌, ◌*◌, ◌%◌, ◌^◌, ◌<◌, ◌≤◌, ℕ, zero, suc, List, [], ◌∷◌, ◌++◌, length, take, drop, replicate, slice_index_or, codes, refl}
use Rattle.std.proofs.Common.{sym, ◌∙◌, ap, subst, inl, inr, ⊎_elim, arith, append_assoc}
use Rattle.std.proofs.Math.Seq.{take-append_seam}
use Rattle.std.proofs.lemmas.List.{append-nil}
use Rattle.byteorder.specs.Endian.{big_number, big_bytes}
use Rattle.byteorder.specs.Numbers.{big_number-reads_back}
use Rattle.um_model.specs.Disk.{Sector, Image}
use Rattle.um_model.specs.declared.layout.Format.{Format}
use Rattle.um_model.specs.declared.layout.Format.TheVariants.{One, Two}
use Rattle.um_model.specs.declared.layout.Layout.{Layout}
use Rattle.um_model.specs.declared.layout.Slot.{Slot}
use Rattle.um_model.specs.declared.layout.Slot.TheVariants.{A, B}
use Rattle.um_model.specs.Store.{current, first_log_sector, area_sectors, area_start, area_end, store_sectors, longest, IsRecord, AreRecords, HasRecords, stops, goes_on, IsOf, IsNoneAbove, IsFree, filled, format_name, superblock, slot_start, other, body_limit, header_sector, IsHeader, sector_count, joined, body_at, IsNewest, HasNoHeader, IsSlotRead, head, behind, log_sector, part_count, part_of}

-- ---- the places of a format

-- of two successive generations one is even
sides : (generation : ℕ) → ((generation % 2 ≡ 0) × ((generation + 1) % 2 ≡ 1)) ⊎ ((generation % 2 ≡ 1) × ((generation + 1) % 2 ≡ 0))
sides zero = inl (refl, refl)
sides (suc generation) = ⊎_elim (λ even. inr (subst (λ n. n % 2 ≡ 1) next even.1, omega (arith, even.0))) (λ odd. inl (subst (λ n. n % 2 ≡ 0) next odd.1, omega (arith, odd.0))) (sides generation)
  where
    next : generation + 1 ≡ suc generation
    next = omega arith

even_start : (layout : Layout) (generation : ℕ) → generation % 2 ≡ 0 → area_start Two layout generation ≡ first_log_sector layout
even_start layout generation even =
    let none : first_log_sector layout + 0 * area_sectors Two layout ≡ first_log_sector layout = omega arith in
    ap (λ (n : ℕ). first_log_sector layout + n * area_sectors Two layout) even ∙ none

odd_start : (layout : Layout) (generation : ℕ) → generation % 2 ≡ 1 → area_start Two layout generation ≡ first_log_sector layout + area_sectors Two layout
odd_start layout generation odd =
    let one : first_log_sector layout + 1 * area_sectors Two layout ≡ first_log_sector layout + area_sectors Two layout = omega arith in
    ap (λ (n : ℕ). first_log_sector layout + n * area_sectors Two layout) odd ∙ one

-- two successive generations have the two areas
pub areas : (layout : Layout) (generation : ℕ)
    → ((area_start Two layout generation ≡ first_log_sector layout) × (area_start Two layout (generation + 1) ≡ first_log_sector layout + area_sectors Two layout))
    ⊎ ((area_start Two layout generation ≡ first_log_sector layout + area_sectors Two layout) × (area_start Two layout (generation + 1) ≡ first_log_sector layout))
areas layout generation = ⊎_elim
    (λ even. inl (even_start layout generation even.0, odd_start layout (generation + 1) even.1))
    (λ odd. inr (odd_start layout generation odd.0, even_start layout (generation + 1) odd.1))
    (sides generation)

-- each area lies in the log
pub area_within : (format : Format) (layout : Layout) (generation : ℕ) → (first_log_sector layout ≤ area_start format layout generation) × (area_end format layout generation ≤ store_sectors layout)
area_within One layout generation = (omega arith, omega arith)
area_within Two layout generation = ⊎_elim {C = (first_log_sector layout ≤ area_start Two layout generation) × (area_end Two layout generation ≤ store_sectors layout)}
    (λ one. (omega (arith, one.0), omega (arith, one.0))) (λ two. (omega (arith, two.0), omega (arith, two.0))) (areas layout generation)

pub area_few : (format : Format) (layout : Layout) → area_sectors format layout ≤ layout.log_sectors
area_few One layout = omega arith
area_few Two layout = omega arith

-- the longest record is far below the last value of its field
pub longest_few : (format : Format) → longest format ≤ 131072
longest_few One = omega arith
longest_few Two = omega arith

-- ---- headers

-- a header holds its generation
pub header_generation : (generation size : ℕ) → generation < 2 ^ 64 → big_number 8 (drop 8 (header_sector generation size)) ≡ generation
unfolding header_sector filled
header_generation generation size fits = big_number-reads_back 8 generation (big_bytes 8 size ++ replicate 488 0) fits

-- and its length
pub header_size : (generation size : ℕ) → size < 2 ^ 64 → big_number 8 (drop 16 (header_sector generation size)) ≡ size
unfolding header_sector filled
header_size generation size fits = big_number-reads_back 8 size (replicate 488 0) fits

-- a length that fits is far below the last value of its field
size_fits : {layout : Layout} {sector : Sector} {generation size : ℕ} → IsHeader layout sector generation size → size < 2 ^ 64
size_fits {layout} h = omega (arith, h.fits, layout.slot_most)

-- the fields of a well-formed header are read from it
pub header_says : {layout : Layout} {sector : Sector} {generation size : ℕ} → IsHeader layout sector generation size
    → (big_number 8 (drop 8 sector) ≡ generation) × (big_number 8 (drop 16 sector) ≡ size)
header_says {generation} {size} h = (
  ap (λ (s : Sector). big_number 8 (drop 8 s)) h.is ∙ header_generation generation size h.last,
  ap (λ (s : Sector). big_number 8 (drop 16 s)) h.is ∙ header_size generation size (size_fits h),
)

-- a sector is one header at most
pub same_header : {layout : Layout} {sector : Sector} {g n h m : ℕ} → IsHeader layout sector g n → IsHeader layout sector h m → (g ≡ h) × (n ≡ m)
same_header one two = let a = header_says one in let b = header_says two in (sym a.0 ∙ b.0, sym a.1 ∙ b.1)

-- the newest of two slots is one
same_slot : {layout : Layout} {image : Image} {s t : Slot} {g h : ℕ} {x y : List ℕ} → IsNewest layout image s g x → IsNewest layout image t h y → s ≡ t
same_slot {s = A} {t = A} one two = refl
same_slot {s = B} {t = B} one two = refl
same_slot {s = A} {t = B} {g} {h} one two = let a : h ≤ g = one.newer h two.size two.header in let b : g < h = two.newer g one.size one.header in absurd (omega (arith, a, b))
same_slot {s = B} {t = A} {g} {h} one two = let a : h < g = one.newer h two.size two.header in let b : g ≤ h = two.newer g one.size one.header in absurd (omega (arith, a, b))

-- An image has one newest body at most.
pub same_newest : {layout : Layout} {image : Image} {s t : Slot} {g h : ℕ} {x y : List ℕ} → IsNewest layout image s g x → IsNewest layout image t h y
    → (s ≡ t) × (g ≡ h) × (x ≡ y)
same_newest {layout} {image} {s} {t} {g} {h} {x} {y} one two =
    let slot = same_slot one two in
    let both = same_header (subst (λ (k : Slot). IsHeader layout (image (slot_start layout k)) g one.size) slot one.header) two.header in
    (slot, both.0, one.body_is ∙ (λ i. body_at layout image (slot i) (both.1 i)) ∙ sym two.body_is)

-- and none if there is no header
pub no_newest : {layout : Layout} {image : Image} {s : Slot} {g : ℕ} {x : List ℕ} → IsNewest layout image s g x → HasNoHeader layout image → ⊥
no_newest {s} {g} one none = none s g one.size one.header

-- ---- bodies

-- sectors that agree are the same joined
pub same_joined : (n : ℕ) (a b : Image) (at : ℕ) → ((i : ℕ) → i < n → b (at + i) ≡ a (at + i)) → joined n b at ≡ joined n a at
same_joined zero a b at same = refl
same_joined (suc n) a b at same =
    let here : at + 0 ≡ at = omega arith in
    let first : b at ≡ a at = sym (ap b here) ∙ same 0 (omega arith) ∙ ap a here in
    let rest : joined n b (suc at) ≡ joined n a (suc at) = same_joined n a b (suc at)
    (λ i below. let moved : suc at + i ≡ at + suc i = omega arith in ap b moved ∙ same (suc i) (omega (arith, below)) ∙ ap a (sym moved)) in
    λ k. first k ++ rest k

-- a whole sector is filled with no zeros
pub filled_whole : (front : List ℕ) → length front ≡ 512 → filled front ≡ front
unfolding filled
filled_whole front is = let none : 512 - length front ≡ 0 = omega (arith, is) in ap (λ (n : ℕ). front ++ replicate n 0) none ∙ append-nil front

-- the bytes that a sector is filled from are read back from its front
pub take-filled : (front rest : List ℕ) → take (length front) (filled front ++ rest) ≡ front
unfolding filled
take-filled front rest = ap (take (length front)) (append_assoc front (replicate (512 - length front) 0) rest) ∙ take-append_seam front (replicate (512 - length front) 0 ++ rest)

-- ---- sectors that the reading of the newest body doesn't look at

module _ (layout : Layout) (a b : Image) (same : (j : ℕ) → IsSlotRead layout a j → b j ≡ a j) where
  -- Images that agree in all sectors that the reading looks at have the same newest body.
  pub unread_newest : {slot : Slot} {generation : ℕ} {body : List ℕ} → IsNewest layout a slot generation body → IsNewest layout b slot generation body
  unread_newest {slot} {generation} newest = record {
    size = newest.size;
    header = subst (λ (s : Sector). IsHeader layout s generation newest.size) (sym (same _ (head slot))) newest.header;
    newer = λ theirs size header. newest.newer theirs size (subst (λ (s : Sector). IsHeader layout s theirs size) (same _ (head (other slot))) header);
    body_is = newest.body_is ∙ ap (take newest.size) (sym (same_joined (sector_count newest.size) a b (slot_start layout slot + 1) (λ i below. same _ (behind newest i below))));
  }

  -- or none
  pub unread_none : HasNoHeader layout a → HasNoHeader layout b
  unread_none none slot generation size header = none slot generation size (subst (λ (s : Sector). IsHeader layout s generation size) (same _ (head slot)) header)

-- sector 0 isn't one of them
pub read_from_one : (layout : Layout) (image : Image) (j : ℕ) → IsSlotRead layout image j → 1 ≤ j
read_from_one layout image j (head A) = omega arith
read_from_one layout image j (head B) = omega arith
read_from_one layout image j (behind newest i below) = omega arith

-- ---- log sectors

-- the zeros after a part's bytes
abbrev zeros_behind : List ℕ → List ℕ
zeros_behind payload = replicate (512 - length (replicate 32 0 ++ payload)) 0

-- a sector of the log holds its generation
pub log_generation : (generation number part size : ℕ) (payload : List ℕ) → generation < 2 ^ 64 → big_number 8 (drop 4 (log_sector generation number part size payload)) ≡ generation
unfolding log_sector filled
log_generation generation number part size payload fits =
    big_number-reads_back 8 generation (big_bytes 8 number ++ (big_bytes 4 part ++ (big_bytes 4 (part_count size) ++ (big_bytes 4 size ++ (payload ++ zeros_behind payload))))) fits

-- and the record's length
pub log_size : (generation number part size : ℕ) (payload : List ℕ) → size < 2 ^ 32 → big_number 4 (drop 28 (log_sector generation number part size payload)) ≡ size
unfolding log_sector filled
log_size generation number part size payload fits = big_number-reads_back 4 size (payload ++ zeros_behind payload) fits

-- it says that it is of the log
pub log_name : (generation number part size : ℕ) (payload : List ℕ) → take 4 (log_sector generation number part size payload) ≡ codes "UMLG"
unfolding log_sector filled
log_name generation number part size payload = refl

-- and it has that part's bytes
pub log_payload : (generation number part size : ℕ) (payload : List ℕ) → take (length payload) (drop 32 (log_sector generation number part size payload)) ≡ payload
unfolding log_sector filled
log_payload generation number part size payload = take-append_seam payload (zeros_behind payload)

-- ---- a snapshot into the other slot

-- a slot's sectors are none of the other's
pub apart : (layout : Layout) (slot : Slot) (j : ℕ) → slot_start layout slot ≤ j → j < slot_start layout slot + layout.slot_sectors
    → (j < slot_start layout (other slot)) ⊎ (slot_start layout (other slot) + layout.slot_sectors ≤ j)
apart layout A j low high = inl (omega (arith, high))
apart layout B j low high = inr (omega (arith, low))

-- the log lies past both
pub behind_slot : (layout : Layout) (slot : Slot) (j : ℕ) → first_log_sector layout ≤ j → slot_start layout slot + layout.slot_sectors ≤ j
behind_slot layout A j low = omega (arith, low)
behind_slot layout B j low = omega (arith, low)

-- sector 0 lies before both
pub before_slot : (layout : Layout) (slot : Slot) → 0 < slot_start layout slot
before_slot layout A = omega arith
before_slot layout B = omega arith

-- a body that fits ends within its slot
pub body_within : (layout : Layout) (size i : ℕ) → size ≤ body_limit layout → i < sector_count size → 1 + i < layout.slot_sectors
body_within layout size i fits below = omega (arith, fits, below, layout.slot_least)

module _ {layout : Layout} {old image : Image} {slot : Slot} {generation : ℕ} {before : List ℕ} (newest : IsNewest layout old slot generation before)
    (outside : (j : ℕ) → (j < slot_start layout (other slot)) ⊎ (slot_start layout (other slot) + layout.slot_sectors ≤ j) → image j ≡ old j) where
  pub home_same : image (slot_start layout slot) ≡ old (slot_start layout slot)
  home_same = outside _ (apart layout slot (slot_start layout slot) (omega arith) (omega (arith, layout.slot_least)))

  -- a change in the other slot after its header isn't read
  pub kept_newest : image (slot_start layout (other slot)) ≡ old (slot_start layout (other slot)) → IsNewest layout image slot generation before
  kept_newest same = record {
    size = newest.size;
    header = subst (λ (s : Sector). IsHeader layout s generation newest.size) (sym home_same) newest.header;
    newer = λ theirs size header. newest.newer theirs size (subst (λ (s : Sector). IsHeader layout s theirs size) same header);
    body_is = newest.body_is ∙ ap (take newest.size) (sym (same_joined (sector_count newest.size) old image (slot_start layout slot + 1)
        (λ i below. let inside = body_within layout newest.size i newest.header.fits below in outside _ (apart layout slot (slot_start layout slot + 1 + i) (omega arith) (omega (arith, inside))))));
  }

-- ---- records

-- a sector of a record is of its generation
pub is_of : (generation number part size : ℕ) (payload : List ℕ) → generation < 2 ^ 64 → IsOf generation (log_sector generation number part size payload)
is_of generation number part size payload last = record { name = log_name generation number part size payload; generation_is = log_generation generation number part size payload last }

-- if no sector is of a generation, no record of it begins
none_from : {format : Format} {layout : Layout} {generation : ℕ} {image : Image} {next : ℕ}
    → ((j : ℕ) → next ≤ j → j < area_end format layout generation → IsOf generation (image j) → ⊥)
    → (number at : ℕ) (bytes : List ℕ) → next ≤ at → IsRecord format layout generation image number at bytes → ⊥
none_from {generation} {image} none number at bytes low is =
    let some = is.some in
    let last = is.last in
    let within = is.within in
    let first = is.parts 0 (omega (arith, some)) in
    none (at + 0) (omega (arith, low)) (omega (arith, some, within)) (subst (IsOf generation) (sym first) (is_of generation number 0 (length bytes) (part_of bytes 0) last))

pub none_of : {layout : Layout} {generation : ℕ} {image : Image} {next : ℕ} → IsFree layout generation image next
    → (number at : ℕ) (bytes : List ℕ) → next ≤ at → IsRecord current layout generation image number at bytes → ⊥
none_of {generation} free = none_from (λ j low high is. let below : generation < generation = free generation j low high is in omega (arith, below))

-- and a generation above all that stand in the log has no record
pub none_above : (format : Format) (layout : Layout) (generation last : ℕ) (image : Image) → last < generation → IsNoneAbove layout image last
    → HasRecords format layout generation image []
none_above format layout generation last image above none =
    let within = area_within format layout generation in
    stops (λ bytes. none_from {next = area_start format layout generation}
    (λ j low high is. let below : generation ≤ last = none generation j (omega (arith, low, within.0)) (omega (arith, high, within.1)) is in omega (arith, below, above))
    0 (area_start format layout generation) bytes (omega arith))

-- an image that agrees on a record's sectors has the record
pub same_record : {format : Format} {layout : Layout} {generation number at : ℕ} {bytes : List ℕ} {a b : Image} → IsRecord format layout generation a number at bytes
    → ((i : ℕ) → i < part_count (length bytes) → b (at + i) ≡ a (at + i)) → IsRecord format layout generation b number at bytes
same_record is same = record { last = is.last; some = is.some; short = is.short; within = is.within; parts = λ part below. same part below ∙ is.parts part below }

-- an image that agrees from a place on has the same records
pub same_records : {format : Format} {layout : Layout} {generation : ℕ} {a b : Image} (number at : ℕ) (records : List (List ℕ))
    → ((j : ℕ) → at ≤ j → j < area_end format layout generation → b j ≡ a j)
    → AreRecords format layout generation a number at records → AreRecords format layout generation b number at records
same_records number at [] same (stops nothing) =
    stops (λ bytes is. nothing bytes (same_record is (λ i below. let within = is.within in sym (same (at + i) (omega arith) (omega (arith, within, below))))))
same_records number at (bytes ∷ records) same (goes_on is rest) =
    goes_on (same_record is (λ i below. let within = is.within in same (at + i) (omega arith) (omega (arith, within, below))))
    (same_records (suc number) (at + part_count (length bytes)) records (λ j low high. same j (omega (arith, low)) high) rest)

-- a log in which no sector changes stays without a later generation
pub same_above : (layout : Layout) {a b : Image} {generation : ℕ} → ((j : ℕ) → first_log_sector layout ≤ j → j < store_sectors layout → b j ≡ a j)
    → IsNoneAbove layout a generation → IsNoneAbove layout b generation
same_above layout same none theirs j low high is = none theirs j low high (subst (IsOf theirs) (same j low high) is)

-- ---- the first snapshot of a store

-- a sector of zeros is no header
pub blank_header : (layout : Layout) (generation size : ℕ) → IsHeader layout (replicate 512 0) generation size → ⊥
blank_header layout generation size is = let says = header_says is in let first = is.first in let zero_is : 0 ≡ generation = says.0 in omega (arith, first, zero_is)

-- and none of the log
pub blank_log : (generation : ℕ) → IsOf generation (replicate 512 0) → ⊥
blank_log generation is = no_name is.name
  where
    no_name : 0 ∷ 0 ∷ 0 ∷ 0 ∷ [] ≡ codes "UMLG" → ⊥
    no_name e = absurd (cc)

-- ---- sector 0

-- sector 0 holds the layout's sizes
pub superblock_says : (format : Format) (layout : Layout) → (big_number 4 (drop 8 (superblock format layout)) ≡ layout.slot_sectors) × (big_number 4 (drop 12 (superblock format layout)) ≡ layout.log_sectors)
unfolding superblock filled
superblock_says One layout = (
  big_number-reads_back 4 layout.slot_sectors (big_bytes 4 layout.log_sectors ++ replicate 496 0) (omega (arith, layout.slot_most)),
  big_number-reads_back 4 layout.log_sectors (replicate 496 0) (omega (arith, layout.log_most)),
)
superblock_says Two layout = (
  big_number-reads_back 4 layout.slot_sectors (big_bytes 4 layout.log_sectors ++ replicate 496 0) (omega (arith, layout.slot_most)),
  big_number-reads_back 4 layout.log_sectors (replicate 496 0) (omega (arith, layout.log_most)),
)

-- layouts of the same sizes have the same sector 0
pub same_superblock : (format : Format) (a b : Layout) → a.slot_sectors ≡ b.slot_sectors → a.log_sectors ≡ b.log_sectors → superblock format a ≡ superblock format b
unfolding superblock
same_superblock format a b slots log = λ i. filled (format_name format ++ (big_bytes 4 (slots i) ++ big_bytes 4 (log i)))

-- it begins with its name
pub superblock_name : (format : Format) (layout : Layout) → take 8 (superblock format layout) ≡ format_name format
unfolding superblock filled
superblock_name One layout = refl
superblock_name Two layout = refl

-- and the names of the formats differ
names_differ : codes "UMDISK01" ≡ codes "UMDISK02" → ⊥
names_differ e = let d : 49 ≡ 50 = ap (λ (l : List ℕ). slice_index_or l 7 0) e in absurd (omega (arith, d))

pub same_name : (f g : Format) → format_name f ≡ format_name g → f ≡ g
same_name One One same = refl
same_name Two Two same = refl
same_name One Two same = absurd (names_differ same)
same_name Two One same = absurd (names_differ (sym same))

pub one_format : (f g : Format) (l m : Layout) → superblock f l ≡ superblock g m → f ≡ g
one_format f g l m same = same_name f g (sym (superblock_name f l) ∙ ap (λ (s : Sector). take 8 s) same ∙ superblock_name g m)
