-- The newest slot and the records as functions of an image say the same as the relations.
use Rattle.std.specs.Prelude.{◌≡◌, ◌↔◌, ◌+◌, ◌*◌, ◌^◌, ◌<◌, ◌≤◌, ℕ, zero, suc, true, false, nat_le, List, [], ◌∷◌, ◌++◌, length, take, drop, Option, Some, None, refl}
use Rattle.std.proofs.Common.{sym, ◌∙◌, ap, subst, ⊎_elim, arith}
use Rattle.std.proofs.Math.Seq.{take-append-add}
use Rattle.std.proofs.lemmas.Bool.{cases_Bool, cases_lt, cases_eq, cond-true, cond-false, and_parts, and_from, false≢true, ltb-true, lt-ltb, leb-true, le-leb, leb-false}
use Rattle.std.proofs.lemmas.Slice.Eq.{bytes_eq-Decides}
use Rattle.std.proofs.lemmas.List.{take-append-drop, take-append-le, take-take, length-take, length-drop, nil_from_length, take_all}
use Rattle.byteorder.specs.Endian.{big_number}
use Rattle.um_model.specs.Disk.{Sector, Image}
use Rattle.um_model.specs.declared.layout.Format.{Format}
use Rattle.um_model.specs.declared.layout.Layout.{Layout}
use Rattle.um_model.specs.declared.layout.Slot.{Slot}
use Rattle.um_model.specs.declared.layout.Slot.TheVariants.{A, B}
use Rattle.um_model.specs.Store.{area_start, area_end, longest, slot_start, other, body_limit, IsHeader, IsOlder, IsNewest, HasNoHeader, header_sector, is_header, header_of, Newest, held_by, newer_held, newest_of, part_count, part_of, log_sector, IsRecord, AreRecords, stops, goes_on, HasRecords, payloads, bytes_from, parts_stand, is_record, records_from, records_of}
use Rattle.um_laws.proofs.StoreLaws.{area_few, header_says, same_newest, no_newest}
use Rattle.um_laws.proofs.LogLaws.{length-part, next_part, record_size, part_bytes, same_list}

-- ---- headers

-- a header that the test finds is one
header_found : (layout : Layout) (sector : Sector) (generation size : ℕ) → is_header layout sector generation size ≡ true → IsHeader layout sector generation size
header_found layout sector generation size is =
    let one = and_parts _ _ is in
    let two = and_parts _ _ one.1 in
    let three = and_parts _ _ two.1 in
    record {
      first = leb-true 1 generation one.0;
      last = ltb-true generation (2 ^ 64) two.0;
      fits = leb-true size (body_limit layout) three.0;
      is = (bytes_eq-Decides sector (header_sector generation size)).0 three.1;
    }

-- and the test finds each header
header_tested : (layout : Layout) (sector : Sector) (generation size : ℕ) → IsHeader layout sector generation size → is_header layout sector generation size ≡ true
header_tested layout sector generation size h =
    and_from _ _ (le-leb 1 generation h.first) (and_from _ _ (lt-ltb generation (2 ^ 64) h.last)
    (and_from _ _ (le-leb size (body_limit layout) h.fits) ((bytes_eq-Decides sector (header_sector generation size)).1 h.is)))

-- the result for a sector agrees with its header, or with there being none
abbrev HeaderSays : Layout → Sector → Option (ℕ × ℕ) → Type 0
HeaderSays layout sector None = (generation size : ℕ) → IsHeader layout sector generation size → ⊥
HeaderSays layout sector (Some h) = IsHeader layout sector h.0 h.1

module _ (layout : Layout) (sector : Sector) where
  abbrev generation : ℕ
  generation = big_number 8 (drop 8 sector)

  abbrev size : ℕ
  size = big_number 8 (drop 16 sector)

  no_header : is_header layout sector generation size ≡ false → (g s : ℕ) → IsHeader layout sector g s → ⊥
  no_header fails g s h =
      let says = header_says h in
      let moved : IsHeader layout sector generation size = subst (λ (n : ℕ). IsHeader layout sector n size) (sym says.0) (subst (λ (n : ℕ). IsHeader layout sector g n) (sym says.1) h) in
      false≢true (sym fails ∙ header_tested layout sector generation size moved)

  header_told : HeaderSays layout sector (header_of layout sector)
  header_told = ⊎_elim
      (λ yes. subst (HeaderSays layout sector) (sym (cond-true _ (Some (generation, size)) None yes)) (header_found layout sector generation size yes))
      (λ no. subst (HeaderSays layout sector) (sym (cond-false _ (Some (generation, size)) None no)) (no_header no))
      (cases_Bool (is_header layout sector generation size))

-- ---- the newest slot

-- the result for an image agrees with its newest slot, or with there being none
abbrev NewestSays : Layout → Image → Option Newest → Type 0
NewestSays layout image None = HasNoHeader layout image
NewestSays layout image (Some n) = IsNewest layout image n.slot n.generation n.body

-- a slot that holds the newest
held : (layout : Layout) (image : Image) (slot : Slot) (h : ℕ × ℕ) → IsHeader layout (image (slot_start layout slot)) h.0 h.1
    → ((theirs size : ℕ) → IsHeader layout (image (slot_start layout (other slot))) theirs size → IsOlder slot h.0 theirs)
    → NewestSays layout image (Some (held_by layout image slot h))
held layout image slot h is newer = record { size = h.1; header = is; newer = newer; body_is = refl }

-- of two headers
of_two : (layout : Layout) (image : Image) (a b : Option (ℕ × ℕ)) → HeaderSays layout (image (slot_start layout A)) a → HeaderSays layout (image (slot_start layout B)) b
    → NewestSays layout image (newer_held layout image a b)
of_two layout image None None none_a none_b = neither
  where
    neither : HasNoHeader layout image
    neither A = none_a
    neither B = none_b
of_two layout image (Some a) None is none = held layout image A a is (λ theirs size h. absurd (none theirs size h))
of_two layout image None (Some b) none is = held layout image B b is (λ theirs size h. absurd (none theirs size h))
of_two layout image (Some a) (Some b) is_a is_b = ⊎_elim
    (λ yes. subst (NewestSays layout image) (sym (cond-true _ (Some (held_by layout image A a)) (Some (held_by layout image B b)) yes))
    (held layout image A a is_a (λ theirs size h. let says = (header_says h).0 in let ours = (header_says is_b).0 in let le = leb-true b.0 a.0 yes in omega (arith, says, ours, le))))
    (λ no. subst (NewestSays layout image) (sym (cond-false _ (Some (held_by layout image A a)) (Some (held_by layout image B b)) no))
    (held layout image B b is_b (λ theirs size h. let says = (header_says h).0 in let ours = (header_says is_a).0 in let lt = leb-false b.0 a.0 no in omega (arith, says, ours, lt))))
    (cases_Bool (nat_le b.0 a.0))

newest_told : (layout : Layout) (image : Image) → NewestSays layout image (newest_of layout image)
unfolding newest_of
newest_told layout image = of_two layout image _ _ (header_told layout (image (slot_start layout A))) (header_told layout (image (slot_start layout B)))

-- the newest slot by the relation is the one in the result
only_newest : (layout : Layout) (image : Image) (o : Option Newest) (n : Newest) → NewestSays layout image o → IsNewest layout image n.slot n.generation n.body → o ≡ Some n
only_newest layout image None n none is = absurd (no_newest is none)
only_newest layout image (Some m) n one is = let same = same_newest one is in λ i. Some (record { slot = same.0 i; generation = same.1 i; body = same.2 i })

only_none : (layout : Layout) (image : Image) (o : Option Newest) → NewestSays layout image o → HasNoHeader layout image → o ≡ None
only_none layout image None none is = refl
only_none layout image (Some m) one is = absurd (no_newest one is)

-- The function returns a newest slot exactly if the relation holds of it,
pub newest_some : (layout : Layout) (image : Image) (n : Newest) → (newest_of layout image ≡ Some n) ↔ IsNewest layout image n.slot n.generation n.body
newest_some layout image n = (
  λ is. subst (NewestSays layout image) is (newest_told layout image),
  λ newest. only_newest layout image (newest_of layout image) n (newest_told layout image) newest,
)

-- and none exactly if there is no header.
pub newest_none : (layout : Layout) (image : Image) → (newest_of layout image ≡ None) ↔ HasNoHeader layout image
newest_none layout image = (
  λ is. subst (NewestSays layout image) is (newest_told layout image),
  λ none. only_none layout image (newest_of layout image) (newest_told layout image) none,
)

-- ---- records

-- the first parts stand if the test says so
parts_told : (generation : ℕ) (image : Image) (number at : ℕ) (bytes : List ℕ) (n : ℕ) → parts_stand generation image number at bytes n ≡ true
    → (part : ℕ) → part < n → image (at + part) ≡ log_sector generation number part (length bytes) (part_of bytes part)
parts_told generation image number at bytes zero is part below = absurd (omega (arith, below))
parts_told generation image number at bytes (suc n) is part below =
    let both = and_parts _ _ is in
    ⊎_elim
    (λ same. subst (λ (k : ℕ). image (at + k) ≡ log_sector generation number k (length bytes) (part_of bytes k)) (sym same) ((bytes_eq-Decides _ _).0 both.1))
    (λ other. parts_told generation image number at bytes n both.0 part (omega (arith, below, other)))
    (cases_eq part n)

-- and the test says so if they stand
parts_tested : (generation : ℕ) (image : Image) (number at : ℕ) (bytes : List ℕ) (n : ℕ)
    → ((part : ℕ) → part < n → image (at + part) ≡ log_sector generation number part (length bytes) (part_of bytes part)) → parts_stand generation image number at bytes n ≡ true
parts_tested generation image number at bytes zero stand = refl
parts_tested generation image number at bytes (suc n) stand =
    and_from _ _ (parts_tested generation image number at bytes n (λ part below. stand part (omega (arith, below)))) ((bytes_eq-Decides _ _).1 (stand n (omega arith)))

record_told : (format : Format) (layout : Layout) (generation : ℕ) (image : Image) (number at : ℕ) (bytes : List ℕ) → is_record format layout generation image number at bytes ≡ true
    → IsRecord format layout generation image number at bytes
record_told format layout generation image number at bytes is =
    let one = and_parts _ _ is in
    let two = and_parts _ _ one.1 in
    let three = and_parts _ _ two.1 in
    let four = and_parts _ _ three.1 in
    record {
      last = ltb-true generation (2 ^ 64) one.0;
      some = ltb-true 0 (length bytes) two.0;
      short = leb-true (length bytes) (longest format) three.0;
      within = leb-true (at + part_count (length bytes)) (area_end format layout generation) four.0;
      parts = parts_told generation image number at bytes (part_count (length bytes)) four.1;
    }

record_tested : (format : Format) (layout : Layout) (generation : ℕ) (image : Image) (number at : ℕ) (bytes : List ℕ) → IsRecord format layout generation image number at bytes
    → is_record format layout generation image number at bytes ≡ true
record_tested format layout generation image number at bytes is =
    and_from _ _ (lt-ltb generation (2 ^ 64) is.last) (and_from _ _ (lt-ltb 0 (length bytes) is.some) (and_from _ _ (le-leb (length bytes) (longest format) is.short)
    (and_from _ _ (le-leb (at + part_count (length bytes)) (area_end format layout generation) is.within)
    (parts_tested generation image number at bytes (part_count (length bytes)) is.parts))))

-- a part's bytes, and then the rest
part_step : (bytes behind rest : List ℕ) → take (length (take 480 bytes)) behind ≡ take 480 bytes → take (length (drop 480 bytes)) rest ≡ drop 480 bytes
    → take (length bytes) (take 480 behind ++ rest) ≡ bytes
part_step bytes behind rest part back = ⊎_elim long short (cases_lt 480 (length bytes))
  where
    long : 480 < length bytes → take (length bytes) (take 480 behind ++ rest) ≡ bytes
    long more =
        let size : length (take 480 bytes) ≡ 480 = omega (arith, length-take 480 bytes, more) in
        let whole : take 480 behind ≡ take 480 bytes = ap (λ (n : ℕ). take n behind) (sym size) ∙ part in
        let count : length bytes ≡ length (take 480 bytes) + length (drop 480 bytes) = omega (arith, size, length-drop 480 bytes, more) in
        (λ k. take (count k) (whole k ++ rest))
        ∙ take-append-add (take 480 bytes) rest (length (drop 480 bytes))
        ∙ ap (λ (l : List ℕ). take 480 bytes ++ l) back ∙ take-append-drop 480 bytes

    short : length bytes ≤ 480 → take (length bytes) (take 480 behind ++ rest) ≡ bytes
    short few =
        let all : take 480 bytes ≡ bytes = take_all 480 bytes few in
        let front : take (length bytes) behind ≡ bytes = ap (λ (l : List ℕ). take (length l) behind) (sym all) ∙ part ∙ all in
        let long_enough : length bytes ≤ length behind = omega (arith, ap (λ (l : List ℕ). length l) front, length-take (length bytes) behind) in
        take-append-le (length bytes) (take 480 behind) rest (omega (arith, long_enough, few, length-take 480 behind))
        ∙ take-take (length bytes) 480 behind few ∙ front

-- A record's bytes are those of its parts.
parts_back : (n : ℕ) (bytes : List ℕ) (image : Image) (at : ℕ) → length bytes ≤ 480 * n
    → ((i : ℕ) → i < n → take (length (part_of bytes i)) (drop 32 (image (at + i))) ≡ part_of bytes i) → take (length bytes) (payloads n image at) ≡ bytes
parts_back zero bytes image at fits stands =
    let none : bytes ≡ [] = nil_from_length bytes (omega (arith, fits)) in ap (λ (l : List ℕ). take (length l) []) none ∙ sym none
parts_back (suc n) bytes image at fits stands =
    let here : at + 0 ≡ at = omega arith in
    part_step bytes (drop 32 (image at)) (payloads n image (suc at))
    (subst (λ (k : ℕ). take (length (take 480 bytes)) (drop 32 (image k)) ≡ take 480 bytes) here (stands 0 (omega arith)))
    (parts_back n (drop 480 bytes) image (suc at) (omega (arith, fits, length-drop 480 bytes))
    (λ i below. let moved : at + suc i ≡ suc at + i = omega arith in
    subst (λ (k : ℕ). take (length (part_of (drop 480 bytes) i)) (drop 32 (image k)) ≡ part_of (drop 480 bytes) i) moved
    (subst (λ (l : List ℕ). take (length l) (drop 32 (image (at + suc i))) ≡ l) (next_part bytes i) (stands (suc i) (omega (arith, below))))))

-- so the record that stands there is read
record_back : {format : Format} {layout : Layout} {generation : ℕ} {image : Image} {number at : ℕ} {bytes : List ℕ} → IsRecord format layout generation image number at bytes → bytes_from image at ≡ bytes
record_back {image} {at} {bytes} is =
    let size = record_size is in
    (λ i. take (size i) (payloads (part_count (size i)) image at))
    ∙ parts_back (part_count (length bytes)) bytes image at (omega arith) (λ i below. part_bytes is i (length (part_of bytes i)) below (sym (length-part bytes i)))

module _ (format : Format) (layout : Layout) (generation : ℕ) (image : Image) (number at turns : ℕ) where
  abbrev bytes : List ℕ
  bytes = bytes_from image at

  abbrev rest : List (List ℕ)
  rest = records_from turns format layout generation image (suc number) (at + part_count (length bytes))

  -- one record more, or none
  one_more_record : (0 < length bytes → AreRecords format layout generation image (suc number) (at + part_count (length bytes)) rest)
      → AreRecords format layout generation image number at (records_from (suc turns) format layout generation image number at)
  one_more_record behind_it = ⊎_elim
      (λ yes. let is = record_told format layout generation image number at bytes yes in
      subst (AreRecords format layout generation image number at) (sym (cond-true _ (bytes ∷ rest) [] yes)) (goes_on is (behind_it is.some)))
      (λ no. subst (AreRecords format layout generation image number at) (sym (cond-false _ (bytes ∷ rest) [] no))
      (stops (λ x is. false≢true (sym no ∙ record_tested format layout generation image number at bytes (subst (IsRecord format layout generation image number at) (sym (record_back is)) is)))))
      (cases_Bool (is_record format layout generation image number at bytes))

-- the records from a place on, if there are turns enough
records_told : (turns : ℕ) (format : Format) (layout : Layout) (generation : ℕ) (image : Image) (number at : ℕ) → area_end format layout generation ≤ at + turns
    → AreRecords format layout generation image number at (records_from turns format layout generation image number at)
records_told zero format layout generation image number at enough = stops (λ bytes is. let some = is.some in let within = is.within in omega (arith, enough, some, within))
records_told (suc turns) format layout generation image number at enough =
    one_more_record format layout generation image number at turns
    (λ some. records_told turns format layout generation image (suc number) (at + part_count (length (bytes_from image at))) (omega (arith, enough, some)))

-- The function returns records of which the relation holds.
pub records_are : (format : Format) (layout : Layout) (generation : ℕ) (image : Image) → HasRecords format layout generation image (records_of format layout generation image)
unfolding records_of
records_are format layout generation image = records_told layout.log_sectors format layout generation image 0 (area_start format layout generation) (let few = area_few format layout in omega (arith, few))

-- And it holds of no others.
pub only_records : (format : Format) (layout : Layout) (generation : ℕ) (image : Image) (records : List (List ℕ)) → HasRecords format layout generation image records → records_of format layout generation image ≡ records
only_records format layout generation image records are = same_list 0 (area_start format layout generation) (records_of format layout generation image) records (records_are format layout generation image) are
