-- The log: its records have one reading, unread sectors don't count, and a record that is being written is there whole or not at all.
use Rattle.std.specs.Prelude.{◌≡◌, ◌⊎◌, ◌+◌, ◌-◌, ◌*◌, ◌<◌, ◌≤◌, min, ℕ, zero, suc, List, [], ◌∷◌, ◌++◌, length, take, drop, refl}
use Rattle.std.proofs.Common.{sym, ◌∙◌, ap, subst, inl, inr, ⊎_elim, arith}
use Rattle.std.proofs.lemmas.Bool.{cases_eq}
use Rattle.std.proofs.lemmas.List.{take-append-drop, length-drop, length-take, nil_from_length, drop-drop}
use Rattle.byteorder.specs.Endian.{big_number}
use Rattle.um_model.specs.Disk.{Sector, Image}
use Rattle.um_model.specs.declared.layout.Format.{Format}
use Rattle.um_model.specs.declared.layout.Layout.{Layout}
use Rattle.um_model.specs.declared.layout.Slot.TheVariants.{A, B}
use Rattle.um_model.specs.Store.{first_log_sector, part_count, part_of, IsRecord, AreRecords, stops, goes_on, sectors_of, placed, IsPart, IsLogRead, begins, part_behind, record_behind, IsSlotRead, head, behind}
use Rattle.um_laws.proofs.StoreLaws.{log_size, log_payload, longest_few, same_record, body_within}

-- ---- one reading

-- a part is as long as the record's length says
pub length-part : (bytes : List ℕ) (part : ℕ) → length (part_of bytes part) ≡ min 480 (length bytes - 480 * part)
length-part bytes part = omega (arith, length-take 480 (drop (480 * part) bytes), length-drop (480 * part) bytes)

-- part n + 1 of the bytes is part n of those past the first part
pub next_part : (bytes : List ℕ) (part : ℕ) → part_of bytes (suc part) ≡ part_of (drop 480 bytes) part
next_part bytes part =
    let moved : 480 * suc part ≡ 480 + 480 * part = omega arith in
    ap (take 480) (ap (λ (n : ℕ). drop n bytes) moved ∙ sym (drop-drop (480 * part) 480 bytes))

-- the parts determine the bytes
same_parts : (n : ℕ) (x y : List ℕ) → length x ≤ 480 * n → length y ≤ 480 * n → ((part : ℕ) → part < n → part_of x part ≡ part_of y part) → x ≡ y
same_parts zero x y fx fy same = nil_from_length x (omega (arith, fx)) ∙ sym (nil_from_length y (omega (arith, fy)))
same_parts (suc n) x y fx fy same =
    let front : take 480 x ≡ take 480 y = same 0 (omega arith) in
    let rest : drop 480 x ≡ drop 480 y = same_parts n (drop 480 x) (drop 480 y) (omega (arith, fx, length-drop 480 x)) (omega (arith, fy, length-drop 480 y))
    (λ part below. sym (next_part x part) ∙ same (suc part) (omega (arith, below)) ∙ next_part y part) in
    sym (take-append-drop 480 x) ∙ (λ i. front i ++ rest i) ∙ take-append-drop 480 y

-- a record's first sector holds its length
pub record_size : {format : Format} {layout : Layout} {generation number at : ℕ} {image : Image} {bytes : List ℕ} → IsRecord format layout generation image number at bytes → big_number 4 (drop 28 (image at)) ≡ length bytes
record_size {format} {generation} {number} {at} {image} {bytes} is =
    let here : at ≡ at + 0 = omega arith in
    let some = is.some in
    let short = is.short in
    ap (λ (s : Sector). big_number 4 (drop 28 s)) (ap image here ∙ is.parts 0 (omega (arith, some))) ∙ log_size generation number 0 (length bytes) (part_of bytes 0) (omega (arith, short, longest_few format))

-- a part's sector holds its bytes
pub part_bytes : {format : Format} {layout : Layout} {generation number at : ℕ} {image : Image} {bytes : List ℕ} → IsRecord format layout generation image number at bytes
    → (part n : ℕ) → part < part_count (length bytes) → min 480 (length bytes - 480 * part) ≡ n → take n (drop 32 (image (at + part))) ≡ part_of bytes part
part_bytes {generation} {number} {at} {image} {bytes} is part n below long =
    let size : n ≡ length (part_of bytes part) = sym long ∙ sym (length-part bytes part) in
    (λ i. take (size i) (drop 32 (is.parts part below i))) ∙ log_payload generation number part (length bytes) (part_of bytes part)

-- one record at most stands at a place
pub one_record : {format : Format} {layout : Layout} {generation number at : ℕ} {image : Image} {x y : List ℕ} → IsRecord format layout generation image number at x → IsRecord format layout generation image number at y → x ≡ y
one_record {x} {y} a b =
    let size : length x ≡ length y = sym (record_size a) ∙ record_size b in
    same_parts (part_count (length x)) x y (omega arith) (omega (arith, size))
    (λ part below. sym (part_bytes a part (min 480 (length x - 480 * part)) below refl)
    ∙ part_bytes b part (min 480 (length x - 480 * part)) (omega (arith, below, size)) (ap (λ (n : ℕ). min 480 (n - 480 * part)) (sym size)))

-- The records from a place on have one reading.
pub same_list : {format : Format} {layout : Layout} {generation : ℕ} {image : Image} (number at : ℕ) (xs ys : List (List ℕ)) → AreRecords format layout generation image number at xs → AreRecords format layout generation image number at ys → xs ≡ ys
same_list number at [] [] (stops nothing) (stops more) = refl
same_list number at [] (y ∷ ys) (stops nothing) (goes_on is rest) = absurd (nothing y is)
same_list number at (x ∷ xs) [] (goes_on is rest) (stops nothing) = absurd (nothing x is)
same_list {format} {layout} {generation} {image} number at (x ∷ xs) (y ∷ ys) (goes_on is rest) (goes_on there behind_it) =
    let same = one_record is there in
    let tail = same_list (suc number) (at + part_count (length x)) xs ys rest (subst (λ (b : List ℕ). AreRecords format layout generation image (suc number) (at + part_count (length b)) ys) (sym same) behind_it) in
    λ i. same i ∷ tail i

-- ---- sectors that the reading of the records doesn't look at

-- a record's sector is one of its parts
is_part : {format : Format} {layout : Layout} {generation number at : ℕ} {image : Image} {bytes : List ℕ} → IsRecord format layout generation image number at bytes → (part : ℕ) → part < part_count (length bytes)
    → IsPart generation number part (length bytes) (image (at + part))
is_part {bytes} is part below = record { payload = part_of bytes part; long = length-part bytes part; is = is.parts part below }

module _ (format : Format) (layout : Layout) (generation : ℕ) (a b : Image) where
  -- all sectors of a record are read
  record_read : {number at : ℕ} {bytes : List ℕ} → IsRecord format layout generation a number at bytes → ((j : ℕ) → IsLogRead format layout generation a number at j → b j ≡ a j)
      → (part : ℕ) → part < part_count (length bytes) → b (at + part) ≡ a (at + part)
  record_read {number} {at} {bytes} is same zero below =
      let here : at + 0 ≡ at = omega arith in
      let within = is.within in
      ap b here ∙ same at (begins (omega (arith, within, below))) ∙ sym (ap a here)
  record_read {number} {at} {bytes} is same (suc part) below =
      same (at + suc part) (part_behind (length bytes) part is.short below is.within (λ i low. is_part is i (omega (arith, low, below))))

  -- and if the other image has a record, it was read to its end
  read_along : {number at : ℕ} {bytes : List ℕ} → IsRecord format layout generation b number at bytes → ((j : ℕ) → IsLogRead format layout generation a number at j → b j ≡ a j)
      → (most part : ℕ) → part ≤ most → part < part_count (length bytes) → a (at + part) ≡ b (at + part)
  read_along {number} {at} {bytes} is same most zero low below =
      let here : at + 0 ≡ at = omega arith in
      let within = is.within in
      ap a here ∙ sym (same at (begins (omega (arith, within, below)))) ∙ sym (ap b here)
  read_along {number} {at} {bytes} is same zero (suc part) low below = absurd (omega (arith, low))
  read_along {number} {at} {bytes} is same (suc most) (suc part) low below =
      sym (same (at + suc part) (part_behind (length bytes) part is.short below is.within
      (λ i small. subst (IsPart generation number i (length bytes)) (sym (read_along is same most i (omega (arith, small, low)) (omega (arith, small, below)))) (is_part is i (omega (arith, small, below))))))

  -- Images that agree in all sectors that the reading looks at have the same records.
  pub unread_records : (number at : ℕ) (records : List (List ℕ)) → ((j : ℕ) → IsLogRead format layout generation a number at j → b j ≡ a j)
      → AreRecords format layout generation a number at records → AreRecords format layout generation b number at records
  unread_records number at [] same (stops nothing) =
      stops (λ bytes is. nothing bytes (same_record is (λ part below. read_along is same part part (omega arith) below)))
  unread_records number at (bytes ∷ records) same (goes_on is rest) =
      goes_on (same_record is (record_read is same)) (unread_records (suc number) (at + part_count (length bytes)) records (λ j read. same j (record_behind is read)) rest)

-- ---- a record more

-- the slots lie before the log
pub read_below : (layout : Layout) (image : Image) (j : ℕ) → IsSlotRead layout image j → j < first_log_sector layout
read_below layout image j (head A) = omega (arith, layout.slot_least)
read_below layout image j (head B) = omega (arith, layout.slot_least)
read_below layout image j (behind {slot = A} newest i below) = let inside = body_within layout newest.size i newest.header.fits below in omega (arith, inside)
read_below layout image j (behind {slot = B} newest i below) = let inside = body_within layout newest.size i newest.header.fits below in omega (arith, inside)

-- all of them, or one that isn't
pub all_or_one : (n : ℕ) (P Q : ℕ → Type 0) → ((i : ℕ) → i < n → P i ⊎ Q i) → ((i : ℕ) → i < n → P i) ⊎ ((i : ℕ) × (i < n) × Q i)
all_or_one zero P Q each = inl (λ i below. absurd (omega (arith, below)))
all_or_one (suc n) P Q each = ⊎_elim
    (λ before. ⊎_elim
    (λ here. inl (λ i below. ⊎_elim (λ same. subst P (sym same) here) (λ less. before i (omega (arith, below, less))) (cases_eq i n)))
    (λ other. inr (n, omega arith, other))
    (each n (omega arith)))
    (λ found. inr (found.0, omega (arith, found.1), found.2))
    (all_or_one n P Q (λ i below. each i (omega (arith, below))))

-- an image that agrees up to the end of records has them, and after them the records that it has there
pub records_front : {format : Format} {layout : Layout} {generation : ℕ} {a b : Image} (number at : ℕ) (records : List (List ℕ)) (more : List (List ℕ)) (count next : ℕ) → AreRecords format layout generation a number at records
    → ((j : ℕ) → at ≤ j → j < at + sectors_of records → b j ≡ a j) → count ≡ number + length records → next ≡ at + sectors_of records
    → AreRecords format layout generation b count next more → AreRecords format layout generation b number at (records ++ more)
records_front {format} {layout} {generation} {a} {b} number at [] more count next (stops nothing) same counts place behind_it =
    let k : count ≡ number = omega (arith, counts) in
    let m : next ≡ at = omega (arith, place) in
    subst (λ (n : ℕ). AreRecords format layout generation b n at more) k (subst (λ (n : ℕ). AreRecords format layout generation b count n more) m behind_it)
records_front number at (bytes ∷ records) more count next (goes_on is rest) same counts place behind_it =
    goes_on (same_record is (λ part below. same (at + part) (omega arith) (omega (arith, below))))
    (records_front (suc number) (at + part_count (length bytes)) records more count next rest (λ j low high. same j (omega (arith, low)) (omega (arith, high))) (omega (arith, counts)) (omega (arith, place)) behind_it)

pub sectors_push : (records : List (List ℕ)) (bytes : List ℕ) → sectors_of (records ++ bytes ∷ []) ≡ sectors_of records + part_count (length bytes)
sectors_push [] bytes = omega arith
sectors_push (x ∷ records) bytes = omega (arith, sectors_push records bytes)

-- one record more has its place after the others
pub placed_push : (at : ℕ) (records : List (List ℕ)) (bytes : List ℕ) → placed at (records ++ bytes ∷ []) ≡ placed at records ++ (at + sectors_of records, bytes) ∷ []
placed_push at [] bytes = let here : at ≡ at + 0 = omega arith in ap (λ (n : ℕ). (n, bytes) ∷ []) here
placed_push at (x ∷ records) bytes =
    let moved : at + part_count (length x) + sectors_of records ≡ at + (part_count (length x) + sectors_of records) = omega arith in
    ap (λ (l : List (ℕ × List ℕ)). (at, x) ∷ l)
    (placed_push (at + part_count (length x)) records bytes ∙ ap (λ (n : ℕ). placed (at + part_count (length x)) records ++ (n, bytes) ∷ []) moved)
