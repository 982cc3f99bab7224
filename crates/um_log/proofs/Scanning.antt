-- Steps of the loops that read the log.
use Rattle.std.specs.Cmp.Lexicographic.{pointwise, same_text, other_text}
use Rattle.std.specs.Prelude.{Bool, true, false, not, nat_eq, ◌≡◌, ◌≢◌, ◌+◌, ◌-◌, ◌*◌, ◌<◌, ◌≤◌, min, ℕ, List, ◌++◌, ◌∷◌, [], suc, length, take, drop}
use Rattle.std.proofs.Common.{refl, sym, ◌∙◌, ap, subst, ⊎_elim, arith, append_assoc}
use Rattle.std.proofs.lemmas.Bool.{cases_eq, true≢false}
use Rattle.std.proofs.lemmas.List.{length-append, length-drop, take-append-le, drop-append-le, drop_at, take_all, append-nil, map-append}
use Rattle.byteorder.specs.Endian.{big_number}
use Rattle.um_model.specs.Disk.{Sector, Image}
use Rattle.um_model.specs.declared.layout.Format.{Format}
use Rattle.um_model.specs.declared.layout.Layout.{Layout}
use Rattle.um_model.specs.Store.{log_sector, part_count, part_of, area_end, sectors_of, placed, IsRecord, AreRecords, stops, goes_on, HasRecords}
use Rattle.um_laws.proofs.LogLaws.{record_size, part_bytes, sectors_push, placed_push}
use Rattle.um_log.specs.declared.read.Record.{Record}
use Rattle.um_log.specs.Reading.{FitsIn, bytes_of, places_of}

-- the result of a test that two texts differ
pub differ : (xs ys : List ℕ) (r : Bool) → r ≡ not (pointwise nat_eq xs ys) → r ≡ true → xs ≢ ys
differ xs ys r is told same = true≢false (sym told ∙ is ∙ ap not (sym (by_case (pointwise nat_eq xs ys) refl)))
  where
    by_case : (b : Bool) → b ≡ pointwise nat_eq xs ys → true ≡ pointwise nat_eq xs ys
    by_case true e = e
    by_case false e = absurd (other_text xs ys e same)

pub agree : (xs ys : List ℕ) (r : Bool) → r ≡ not (pointwise nat_eq xs ys) → r ≡ false → xs ≡ ys
agree xs ys r is told = same_text xs ys (by_case (pointwise nat_eq xs ys) refl)
  where
    by_case : (b : Bool) → b ≡ pointwise nat_eq xs ys → true ≡ pointwise nat_eq xs ys
    by_case true e = e
    by_case false e = absurd (true≢false (ap not e ∙ sym is ∙ told))

-- a first sector that names an impossible length begins no record
pub none_fits : (format : Format) (layout : Layout) (generation number at size : ℕ) (image : Image) → size ≡ big_number 4 (drop 28 (image at)) → (FitsIn format layout generation at size → ⊥) → (x : List ℕ) → IsRecord format layout generation image number at x → ⊥
none_fits format layout generation number at size image told no_room x is =
    let long : length x ≡ size = sym (record_size is) ∙ sym told in
    let a = is.some in let b = is.short in let w = is.within in
    no_room (record { some = omega (arith, a, long); short = omega (arith, b, long); within = omega (arith, w, long) })

-- nor does one whose next part isn't in its place
pub none_part : (format : Format) (layout : Layout) (generation number at size part : ℕ) (image : Image) (sector payload : List ℕ) → size ≡ big_number 4 (drop 28 (image at)) → part < part_count size → sector ≡ image (at + part)
    → payload ≡ take (min 480 (size - 480 * part)) (drop 32 sector) → sector ≢ log_sector generation number part size payload → (x : List ℕ) → IsRecord format layout generation image number at x → ⊥
none_part format layout generation number at size part image sector payload told below is cut differs x whole =
    let long : length x ≡ size = sym (record_size whole) ∙ sym told in
    let low : part < part_count (length x) = omega (arith, below, long) in
    let bytes : payload ≡ part_of x part = cut ∙ ap (λ (s : Sector). take (min 480 (size - 480 * part)) (drop 32 s)) is
    ∙ part_bytes whole part (min 480 (size - 480 * part)) low (ap (λ (n : ℕ). min 480 (n - 480 * part)) long) in
    differs (is ∙ whole.parts part low ∙ (λ i. log_sector generation number part (long i) (sym bytes i)))

-- the number of bytes that were read
pub long_more : (bytes payload more : List ℕ) (part size : ℕ) → part < part_count size → length bytes ≡ min (480 * part) size → length payload ≡ min 480 (size - 480 * part) → more ≡ bytes ++ payload
    → length more ≡ min (480 * (part + 1)) size
long_more bytes payload more part size below long last grown = omega (arith, ap length grown, length-append bytes payload, long, last, below)

-- one part more
pub parts_more : (sector_of : ℕ → List ℕ → Sector) (image : Image) (at part size : ℕ) (bytes payload more : List ℕ) → part < part_count size → length bytes ≡ min (480 * part) size → length payload ≡ min 480 (size - 480 * part)
    → more ≡ bytes ++ payload → ((i : ℕ) → i < part → image (at + i) ≡ sector_of i (part_of bytes i)) → image (at + part) ≡ sector_of part payload
    → (i : ℕ) → i < part + 1 → image (at + i) ≡ sector_of i (part_of more i)
parts_more sector_of image at part size bytes payload more below long last grown before here i low = ⊎_elim
    (λ same. (λ k. image (at + same k)) ∙ here ∙ (λ k. sector_of (sym same k) (sym (newest same) k)))
    (λ less. before i (omega (arith, low, less)) ∙ ap (sector_of i) (sym (older (omega (arith, low, less)))))
    (cases_eq i part)
  where
    full : length bytes ≡ 480 * part
    full = omega (arith, long, below)

    newest : i ≡ part → part_of more i ≡ payload
    newest same =
        let moved : 480 * i ≡ 480 * part = omega (arith, same) in
        (λ k. take 480 (drop (moved k) (grown k))) ∙ ap (take 480) (drop_at bytes payload (480 * part) full) ∙ take_all 480 payload (omega (arith, last))

    older : i < part → part_of more i ≡ part_of bytes i
    older less =
        ap (λ (l : List ℕ). part_of l i) grown ∙ ap (take 480) (drop-append-le (480 * i) bytes payload (omega (arith, full, less)))
        ∙ take-append-le 480 (drop (480 * i) bytes) payload (omega (arith, length-drop (480 * i) bytes, full, less))

-- ---- the records in order

-- no record begins past the log
pub none_behind : (format : Format) (layout : Layout) (generation number at : ℕ) (image : Image) → area_end format layout generation ≤ at → AreRecords format layout generation image number at []
none_behind format layout generation number at image high = stops (λ bytes is. let some = is.some in let within = is.within in omega (arith, some, within, high))

-- one record more: whatever serves the rest serves the whole
pub serves_more : (format : Format) (layout : Layout) (generation number at next : ℕ) (image : Image) (bytes : List ℕ) (before grown : List (List ℕ)) → IsRecord format layout generation image number at bytes
    → ((more : List (List ℕ)) → AreRecords format layout generation image number at more → HasRecords format layout generation image (before ++ more))
    → next ≡ at + part_count (length bytes) → grown ≡ before ++ bytes ∷ []
    → (more : List (List ℕ)) → AreRecords format layout generation image (number + 1) next more → HasRecords format layout generation image (grown ++ more)
serves_more format layout generation number at next image bytes before grown is serves place all more rest =
    let one : number + 1 ≡ suc number = omega arith in
    let tail = subst (λ (n : ℕ). AreRecords format layout generation image n (at + part_count (length bytes)) more) one (subst (λ (m : ℕ). AreRecords format layout generation image (number + 1) m more) place rest) in
    subst (HasRecords format layout generation image) (sym (append_assoc before (bytes ∷ []) more) ∙ ap (λ (l : List (List ℕ)). l ++ more) (sym all)) (serves (bytes ∷ more) (goes_on is tail))

-- nothing is left
pub serves_all : (format : Format) (layout : Layout) (generation number at : ℕ) (image : Image) (all : List (List ℕ)) → ((more : List (List ℕ)) → AreRecords format layout generation image number at more → HasRecords format layout generation image (all ++ more))
    → AreRecords format layout generation image number at [] → HasRecords format layout generation image all
serves_all format layout generation number at image all serves nothing = subst (HasRecords format layout generation image) (append-nil all) (serves [] nothing)

-- the records that were read, with one more
pub records_grown : (before grown : List Record) (one : Record) → grown ≡ before ++ one ∷ []
    → (bytes_of grown ≡ bytes_of before ++ one.bytes.items ∷ []) × (places_of grown ≡ places_of before ++ (one.first, one.bytes.items) ∷ [])
records_grown before grown one is = (
  ap bytes_of is ∙ map-append (λ (r : Record). r.bytes.items) before (one ∷ []),
  ap places_of is ∙ map-append (λ (r : Record). (r.first, r.bytes.items)) before (one ∷ []),
)

-- each stands where those before it end
pub places_more : (start at : ℕ) (bytes : List ℕ) (before grown : List (List ℕ)) (places more : List (ℕ × List ℕ)) → at ≡ start + sectors_of before → grown ≡ before ++ bytes ∷ []
    → places ≡ placed start before → more ≡ places ++ (at, bytes) ∷ [] → more ≡ placed start grown
places_more start at bytes before grown places more here all so_far told =
    told ∙ (λ i. so_far i ++ (here i, bytes) ∷ []) ∙ sym (placed_push start before bytes) ∙ ap (placed start) (sym all)

pub place_more : (start at next : ℕ) (bytes : List ℕ) (before grown : List (List ℕ)) → at ≡ start + sectors_of before → grown ≡ before ++ bytes ∷ [] → next ≡ at + part_count (length bytes)
    → next ≡ start + sectors_of grown
place_more start at next bytes before grown here all step = omega (arith, here, step, ap sectors_of all, sectors_push before bytes)
