-- The parts of a record: each says which it is, and together they are the record.
use Rattle.std.specs.Prelude.{◌≡◌, ◌+◌, ◌-◌, ◌*◌, ◌^◌, ◌<◌, ◌≤◌, min, ℕ, zero, suc, List, [], ◌++◌, length, take, drop, replicate, refl}
use Rattle.std.proofs.Common.{sym, ◌∙◌, ap, arith}
use Rattle.byteorder.specs.Endian.{big_number, big_bytes}
use Rattle.byteorder.specs.Numbers.{big_number-reads_back}
use Rattle.um_model.specs.Disk.{Sector, Image}
use Rattle.um_model.specs.declared.layout.Format.{Format}
use Rattle.um_model.specs.declared.layout.Layout.{Layout}
use Rattle.um_model.specs.Store.{filled, log_sector, area_end, longest, part_count, part_of, IsRecord, IsPart}
use Rattle.um_laws.proofs.StoreLaws.{longest_few, log_generation, log_size, log_payload}
use Rattle.um_laws.proofs.LogLaws.{length-part}
use Rattle.um_log.specs.Following.{IsPossible}
use Rattle.um_log.proofs.Scanning.{long_more, parts_more}

-- ---- the fields of a sector of the log

-- the zeros after a part's bytes
abbrev zeros_behind : List ℕ → List ℕ
zeros_behind payload = replicate (512 - length (replicate 32 0 ++ payload)) 0

-- its record's number
log_number : (generation number part size : ℕ) (payload : List ℕ) → number < 2 ^ 64 → big_number 8 (drop 12 (log_sector generation number part size payload)) ≡ number
unfolding log_sector filled
log_number generation number part size payload fits =
    big_number-reads_back 8 number (big_bytes 4 part ++ (big_bytes 4 (part_count size) ++ (big_bytes 4 size ++ (payload ++ zeros_behind payload)))) fits

-- and which part it is
log_part : (generation number part size : ℕ) (payload : List ℕ) → part < 2 ^ 32 → big_number 4 (drop 20 (log_sector generation number part size payload)) ≡ part
unfolding log_sector filled
log_part generation number part size payload fits = big_number-reads_back 4 part (big_bytes 4 (part_count size) ++ (big_bytes 4 size ++ (payload ++ zeros_behind payload))) fits

-- the fields of a part
pub record Says (sector : Sector) (generation number part size : ℕ) : Type 0 where
  pub generation_is : big_number 8 (drop 4 sector) ≡ generation
  pub number_is : big_number 8 (drop 12 sector) ≡ number
  pub part_is : big_number 4 (drop 20 sector) ≡ part
  pub size_is : big_number 4 (drop 28 sector) ≡ size

pub says : (format : Format) {generation number part size : ℕ} {sector : Sector} → IsPossible format generation number part size → IsPart generation number part size sector
    → Says sector generation number part size
says format {generation = generation} {number = number} {part = part} {size = size} possible is =
    let short = possible.short in
    let below = possible.below in
    let few = longest_few format in
    record {
      generation_is = ap (λ (s : Sector). big_number 8 (drop 4 s)) is.is ∙ log_generation generation number part size is.payload possible.generation_fits;
      number_is = ap (λ (s : Sector). big_number 8 (drop 12 s)) is.is ∙ log_number generation number part size is.payload possible.number_fits;
      part_is = ap (λ (s : Sector). big_number 4 (drop 20 s)) is.is ∙ log_part generation number part size is.payload (omega (arith, short, below, few));
      size_is = ap (λ (s : Sector). big_number 4 (drop 28 s)) is.is ∙ log_size generation number part size is.payload (omega (arith, short, few));
    }

-- a sector is one part at most
pub record AreSame (generation number part size generation2 number2 part2 size2 : ℕ) : Type 0 where
  pub generation_is : generation ≡ generation2
  pub number_is : number ≡ number2
  pub part_is : part ≡ part2
  pub size_is : size ≡ size2

pub one_part : (format : Format) {g n k z h m l y : ℕ} {sector : Sector} → IsPossible format g n k z → IsPart g n k z sector → IsPossible format h m l y → IsPart h m l y sector
    → AreSame g n k z h m l y
one_part format a is b there =
    let one = says format a is in
    let two = says format b there in
    record {
      generation_is = sym one.generation_is ∙ two.generation_is;
      number_is = sym one.number_is ∙ two.number_is;
      part_is = sym one.part_is ∙ two.part_is;
      size_is = sym one.size_is ∙ two.size_is;
    }

-- its bytes are the rest of its sector, as many as are left of the record
pub payload_of : {generation number part size : ℕ} {sector : Sector} (is : IsPart generation number part size sector)
    → is.payload ≡ take (min 480 (size - 480 * part)) (drop 32 sector)
payload_of {generation = generation} {number = number} {part = part} {size = size} {sector = sector} is =
    sym (log_payload generation number part size is.payload) ∙ (λ i. take (is.long i) (drop 32 (sym is.is i)))

-- ---- the record that they are

-- the first bytes of a record, as its parts have them
record Made (generation number size at : ℕ) (image : Image) (n : ℕ) : Type 0 where
  bytes : List ℕ
  long : length bytes ≡ min (480 * n) size
  parts : (i : ℕ) → i < n → image (at + i) ≡ log_sector generation number i size (part_of bytes i)

made : (generation number size at : ℕ) (image : Image) (n : ℕ) → n ≤ part_count size → ((i : ℕ) → i < n → IsPart generation number i size (image (at + i)))
    → Made generation number size at image n
made generation number size at image zero low parts = record { bytes = []; long = omega arith; parts = λ i below. absurd (omega (arith, below)) }
made generation number size at image (suc n) low parts =
    let before = made generation number size at image n (omega (arith, low)) (λ i below. parts i (omega (arith, below))) in
    let here = parts n (omega arith) in
    let more = before.bytes ++ here.payload in
    let below : n < part_count size = omega (arith, low) in
    record {
      bytes = more;
      long = let long = long_more before.bytes here.payload more n size below before.long here.long refl in omega (arith, long);
      parts = λ i less. parts_more (λ part. log_sector generation number part size) image at n size before.bytes here.payload more below before.long here.long refl before.parts here.is
          i (omega (arith, less));
    }

-- All the parts of a record are a whole one.
pub record Whole (format : Format) (layout : Layout) (generation number at size : ℕ) (image : Image) : Type 0 where
  pub bytes : List ℕ
  pub long : length bytes ≡ size
  pub is : IsRecord format layout generation image number at bytes

pub whole : (format : Format) (layout : Layout) (generation number at size : ℕ) (image : Image) → generation < 2 ^ 64 → 0 < size → size ≤ longest format → at + part_count size ≤ area_end format layout generation
    → ((i : ℕ) → i < part_count size → IsPart generation number i size (image (at + i))) → Whole format layout generation number at size image
whole format layout generation number at size image last some short within parts =
    let all = made generation number size at image (part_count size) (omega arith) parts in
    let long : length all.bytes ≡ size = omega (arith, all.long) in
    record {
      bytes = all.bytes;
      long = long;
      is = record {
        last = last;
        some = omega (arith, some, long);
        short = omega (arith, short, long);
        within = omega (arith, within, long);
        parts = λ part below. all.parts part (omega (arith, below, long)) ∙ (λ i. log_sector generation number part (sym long i) (part_of all.bytes part));
      };
    }

-- and each sector of a record is one of its parts
pub part_of_record : {format : Format} {layout : Layout} {generation number at : ℕ} {image : Image} {bytes : List ℕ} → IsRecord format layout generation image number at bytes → (part : ℕ) → part < part_count (length bytes)
    → IsPart generation number part (length bytes) (image (at + part))
part_of_record {bytes = bytes} is part below = record { payload = part_of bytes part; long = length-part bytes part; is = is.parts part below }
