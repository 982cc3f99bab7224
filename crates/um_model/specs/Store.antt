-- The sectors of a store: its layout, the two slots with a header and a body each, and the log of records.
-- No manual page has it: it is the project's own format (docs/FORMATS.md, "The store on its disk").
-- The slots, the log and the keeper depend on this file.
use Rattle.std.specs.Prelude.{◌≡◌, ◌⊎◌, ◌+◌, ◌-◌, ◌*◌, ◌/◌, ◌%◌, ◌^◌, ◌<◌, ◌≤◌, min, ℕ, zero, suc, List, [], ◌∷◌, ◌++◌, length, take, drop, replicate, codes}
use Rattle.std.specs.Prelude.{Bool, true, ◌&&◌, bytes_eq, nat_lt, nat_le, if◌then◌else◌, Option, Some, None}
use Rattle.byteorder.specs.Endian.{big_number, big_bytes}
use Rattle.um_model.specs.Disk.{Sector, Image, Past, Images}
use Rattle.um_model.specs.declared.layout.TheConstants.{CURRENT}
use Rattle.um_model.specs.declared.layout.Format.{Format}
use Rattle.um_model.specs.declared.layout.Format.TheVariants.{One, Two}
use Rattle.um_model.specs.declared.layout.Layout.{Layout}
use Rattle.um_model.specs.declared.layout.Slot.{Slot}
use Rattle.um_model.specs.declared.layout.Slot.TheVariants.{A, B}

-- ---- the layout

-- the size of a sector, in bytes
abbrev pub sector_bytes : ℕ
sector_bytes = 512

-- a sector that begins with these bytes, and zeros after them
unfoldable pub filled : List ℕ → Sector
filled front = front ++ replicate (sector_bytes - length front) 0

-- the format in which stores are written
abbrev pub current : Format
current = CURRENT

-- the first bytes of sector 0 of any store, and those of a store in a format
abbrev pub store_name : List ℕ
store_name = codes "UMDISK"

abbrev pub format_name : Format → List ℕ
format_name One = codes "UMDISK01"
format_name Two = codes "UMDISK02"

-- sector 0 of a store: its format, and the numbers of sectors of a slot and of the log, in four bytes each
unfoldable pub superblock : Format → Layout → Sector
superblock format layout = filled (format_name format ++ (big_bytes 4 layout.slot_sectors ++ big_bytes 4 layout.log_sectors))

-- the first sector of a slot, which holds its header
abbrev pub slot_start : Layout → Slot → ℕ
slot_start layout A = 1
slot_start layout B = layout.slot_sectors + 1

-- the first sector of the log
abbrev pub first_log_sector : Layout → ℕ
first_log_sector layout = 2 * layout.slot_sectors + 1

-- the number of the log's sectors for the records of one generation: in format 2 half of them, and an odd one is left over
abbrev pub area_sectors : Format → Layout → ℕ
area_sectors One layout = layout.log_sectors
area_sectors Two layout = layout.log_sectors / 2

-- the first of these sectors, and the first past them: in format 2 even and odd generations take two areas in turn
abbrev pub area_start : Format → Layout → ℕ → ℕ
area_start One layout generation = first_log_sector layout
area_start Two layout generation = first_log_sector layout + generation % 2 * area_sectors Two layout

abbrev pub area_end : Format → Layout → ℕ → ℕ
area_end format layout generation = area_start format layout generation + area_sectors format layout

-- the same in the format in which stores are written
abbrev pub log_start : Layout → ℕ → ℕ
log_start layout generation = area_start current layout generation

abbrev pub log_end : Layout → ℕ → ℕ
log_end layout generation = area_end current layout generation

-- how many sectors the whole store has
abbrev pub store_sectors : Layout → ℕ
store_sectors layout = 2 * layout.slot_sectors + 1 + layout.log_sectors

-- the slot beside this one
abbrev pub other : Slot → Slot
other A = B
other B = A

-- ---- the slots

-- the longest body of a slot, in bytes
abbrev pub body_limit : Layout → ℕ
body_limit layout = (layout.slot_sectors - 1) * sector_bytes

-- the first bytes of a header
abbrev pub header_format : List ℕ
header_format = codes "UMSLOT01"

-- a header as it is written: a generation, and the body's length in bytes, in eight bytes each
unfoldable pub header_sector : ℕ → ℕ → Sector
header_sector generation size = filled (header_format ++ (big_bytes 8 generation ++ big_bytes 8 size))

-- a sector is a well-formed header: it is just as one is written
pub record IsHeader (layout : Layout) (sector : Sector) (generation size : ℕ) : Type 0 where
  pub first : 1 ≤ generation
  pub last : generation < 2 ^ 64
  pub fits : size ≤ body_limit layout
  pub is : sector ≡ header_sector generation size

-- the least number of sectors that hold this many bytes
abbrev pub sector_count : ℕ → ℕ
sector_count size = (size + (sector_bytes - 1)) / sector_bytes

-- the bytes of this many sectors from a place on, joined
abbrev pub joined : ℕ → Image → ℕ → List ℕ
joined zero image at = []
joined (suc n) image at = image at ++ joined n image (suc at)

-- the body after a slot's header
abbrev pub body_at : Layout → Image → Slot → ℕ → List ℕ
body_at layout image slot size = take size (joined (sector_count size) image (slot_start layout slot + 1))

-- whatever header the other slot has, it is older; of equal generations slot A's counts
abbrev pub IsOlder : Slot → ℕ → ℕ → Type 0
IsOlder A generation theirs = theirs ≤ generation
IsOlder B generation theirs = theirs < generation

-- the newest well-formed header, with its body
pub record IsNewest (layout : Layout) (image : Image) (slot : Slot) (generation : ℕ) (body : List ℕ) : Type 0 where
  pub size : ℕ
  pub header : IsHeader layout (image (slot_start layout slot)) generation size
  pub newer : (theirs length_of : ℕ) → IsHeader layout (image (slot_start layout (other slot))) theirs length_of → IsOlder slot generation theirs
  pub body_is : body ≡ body_at layout image slot size

-- neither slot has a well-formed header
abbrev pub HasNoHeader : Layout → Image → Type 0
HasNoHeader layout image = (slot : Slot) (generation size : ℕ) → IsHeader layout (image (slot_start layout slot)) generation size → ⊥

-- a sector is that header
abbrev pub is_header : Layout → Sector → ℕ → ℕ → Bool
is_header layout sector generation size =
    nat_le 1 generation && (nat_lt generation (2 ^ 64) && (nat_le size (body_limit layout) && bytes_eq sector (header_sector generation size)))

-- a header's generation and length, if the sector is a well-formed one
abbrev pub header_of : Layout → Sector → Option (ℕ × ℕ)
header_of layout sector =
    let generation = big_number 8 (drop 8 sector) in
    let size = big_number 8 (drop 16 sector) in
    if is_header layout sector generation size then Some (generation, size) else None

-- the newest slot, with its generation and its body
pub record Newest : Type 0 where
  pub slot : Slot
  pub generation : ℕ
  pub body : List ℕ

-- a slot with that header, with its generation and its body
abbrev pub held_by : Layout → Image → Slot → ℕ × ℕ → Newest
held_by layout image slot header = record { slot = slot; generation = header.0; body = body_at layout image slot header.1 }

-- the slot with the newer of two headers, and of equal generations slot A
abbrev pub newer_held : Layout → Image → Option (ℕ × ℕ) → Option (ℕ × ℕ) → Option Newest
newer_held layout image None None = None
newer_held layout image (Some a) None = Some (held_by layout image A a)
newer_held layout image None (Some b) = Some (held_by layout image B b)
newer_held layout image (Some a) (Some b) = if nat_le b.0 a.0 then Some (held_by layout image A a) else Some (held_by layout image B b)

-- The newest slot of an image with its generation and its body, None if neither slot has a well-formed header.
unfoldable pub newest_of : Layout → Image → Option Newest
newest_of layout image = newer_held layout image (header_of layout (image (slot_start layout A))) (header_of layout (image (slot_start layout B)))

-- a sector that the reading of the newest body looks at: both headers, and the sectors that the newest one's length covers
pub data IsSlotRead (layout : Layout) (image : Image) : ℕ → Type 0 where
  head : (slot : Slot) → IsSlotRead layout image (slot_start layout slot)
  behind : {slot : Slot} {generation : ℕ} {body : List ℕ} (newest : IsNewest layout image slot generation body) (i : ℕ)
      → i < sector_count newest.size → IsSlotRead layout image (slot_start layout slot + 1 + i)

-- ---- the log

-- the longest record, in bytes
abbrev pub longest : Format → ℕ
longest One = 131072
longest Two = 122880

-- the longest record of a generation, in the format in which stores are written
abbrev pub record_limit : Layout → ℕ → ℕ
record_limit layout generation = longest current

-- the first bytes of a sector of the log
abbrev pub record_format : List ℕ
record_format = codes "UMLG"

-- the most bytes of a record in one part: the rest of its sector
abbrev pub part_bytes : ℕ
part_bytes = 480

-- the least number of parts that hold a record of this many bytes
abbrev pub part_count : ℕ → ℕ
part_count size = (size + (part_bytes - 1)) / part_bytes

-- the bytes of a record that one of its parts holds
abbrev pub part_of : List ℕ → ℕ → List ℕ
part_of bytes part = take part_bytes (drop (part_bytes * part) bytes)

-- a sector of the log as it is written: the record's generation and number in eight bytes each; the part, how many there are, and the
-- record's length in bytes, in four each; and that part's bytes
unfoldable pub log_sector : ℕ → ℕ → ℕ → ℕ → List ℕ → Sector
log_sector generation number part size payload =
    filled
    (record_format ++ (big_bytes 8 generation ++ (big_bytes 8 number
    ++ (big_bytes 4 part ++ (big_bytes 4 (part_count size) ++ (big_bytes 4 size ++ payload))))))

-- a whole record stands there: all its sectors are just as they are written
pub record IsRecord (format : Format) (layout : Layout) (generation : ℕ) (image : Image) (number at : ℕ) (bytes : List ℕ) : Type 0 where
  pub last : generation < 2 ^ 64
  pub some : 0 < length bytes
  pub short : length bytes ≤ longest format
  pub within : at + part_count (length bytes) ≤ area_end format layout generation
  pub parts : (part : ℕ) → part < part_count (length bytes) → image (at + part) ≡ log_sector generation number part (length bytes) (part_of bytes part)

-- the records from a place on, each directly after the one before, up to the first that isn't whole
pub data AreRecords (format : Format) (layout : Layout) (generation : ℕ) (image : Image) : ℕ → ℕ → List (List ℕ) → Type 0 where
  stops : {number at : ℕ} → ((bytes : List ℕ) → IsRecord format layout generation image number at bytes → ⊥)
      → AreRecords format layout generation image number at []
  goes_on : {number at : ℕ} {bytes : List ℕ} {records : List (List ℕ)} → IsRecord format layout generation image number at bytes
      → AreRecords format layout generation image (suc number) (at + part_count (length bytes)) records
      → AreRecords format layout generation image number at (bytes ∷ records)

-- the records of a generation
abbrev pub HasRecords : Format → Layout → ℕ → Image → List (List ℕ) → Type 0
HasRecords format layout generation image records = AreRecords format layout generation image 0 (area_start format layout generation) records

-- the bytes of this many parts from a sector on, joined
abbrev pub payloads : ℕ → Image → ℕ → List ℕ
payloads zero image at = []
payloads (suc n) image at = take part_bytes (drop 32 (image at)) ++ payloads n image (suc at)

-- the bytes that a record from a sector on would have: that sector says how many
abbrev pub bytes_from : Image → ℕ → List ℕ
bytes_from image at = let size = big_number 4 (drop 28 (image at)) in take size (payloads (part_count size) image at)

-- the first n parts of a record stand there
abbrev pub parts_stand : ℕ → Image → ℕ → ℕ → List ℕ → ℕ → Bool
parts_stand generation image number at bytes zero = true
parts_stand generation image number at bytes (suc n) =
    parts_stand generation image number at bytes n
    && bytes_eq (image (at + n)) (log_sector generation number n (length bytes) (part_of bytes n))

-- that record stands there whole
abbrev pub is_record : Format → Layout → ℕ → Image → ℕ → ℕ → List ℕ → Bool
is_record format layout generation image number at bytes =
    nat_lt generation (2 ^ 64) && (nat_lt 0 (length bytes) && (nat_le (length bytes) (longest format)
    && (nat_le (at + part_count (length bytes)) (area_end format layout generation)
    && parts_stand generation image number at bytes (part_count (length bytes)))))

-- the records from a place on, at most this many
abbrev pub records_from : ℕ → Format → Layout → ℕ → Image → ℕ → ℕ → List (List ℕ)
records_from zero format layout generation image number at = []
records_from (suc turns) format layout generation image number at =
    let bytes = bytes_from image at in
    if is_record format layout generation image number at bytes
    then bytes ∷ records_from turns format layout generation image (suc number) (at + part_count (length bytes)) else []

-- The records of a generation that count in an image. Each has a sector of its own, so there are no more than the log has sectors.
unfoldable pub records_of : Format → Layout → ℕ → Image → List (List ℕ)
records_of format layout generation image = records_from layout.log_sectors format layout generation image 0 (area_start format layout generation)

-- how many sectors records take
abbrev pub sectors_of : List (List ℕ) → ℕ
sectors_of [] = 0
sectors_of (bytes ∷ records) = part_count (length bytes) + sectors_of records

-- each record with its first sector, one directly after the other from a sector on
abbrev pub placed : ℕ → List (List ℕ) → List (ℕ × List ℕ)
placed at [] = []
placed at (bytes ∷ records) = (at, bytes) ∷ placed (at + part_count (length bytes)) records

-- a sector that says of itself that it is of the log is of that generation, whole or not
pub record IsOf (generation : ℕ) (sector : Sector) : Type 0 where
  pub name : take 4 sector ≡ record_format
  pub generation_is : big_number 8 (drop 4 sector) ≡ generation

-- no sector of the log is of a generation above this one
abbrev pub IsNoneAbove : Layout → Image → ℕ → Type 0
IsNoneAbove layout image generation =
    (theirs j : ℕ) → first_log_sector layout ≤ j → j < store_sectors layout → IsOf theirs (image j) → theirs ≤ generation

-- from a sector on, none of the log is of this generation or a later one
abbrev pub IsFree : Layout → ℕ → Image → ℕ → Type 0
IsFree layout generation image next = (theirs j : ℕ) → next ≤ j → j < log_end layout generation → IsOf theirs (image j) → theirs < generation

-- Where the log's next record goes: directly after those of its generation, with no sector of that generation or a later one from there on.
pub record IsLogEnd (layout : Layout) (generation : ℕ) (image : Image) (records : List (List ℕ)) (number next : ℕ) : Type 0 where
  pub count : number ≡ length records
  pub place : next ≡ log_start layout generation + sectors_of records
  pub within : next ≤ log_end layout generation
  pub free : IsFree layout generation image next

-- a sector that is that part of a record of `size` bytes
pub record IsPart (generation number part size : ℕ) (sector : Sector) : Type 0 where
  pub payload : List ℕ
  pub long : length payload ≡ min part_bytes (size - part_bytes * part)
  pub is : sector ≡ log_sector generation number part size payload

-- A sector that the reading of the records from a place on looks at: up to and including the first that isn't the next part in its place.
pub data IsLogRead (format : Format) (layout : Layout) (generation : ℕ) (image : Image) : ℕ → ℕ → ℕ → Type 0 where
  begins : {number at : ℕ} → at < area_end format layout generation → IsLogRead format layout generation image number at at
  part_behind : {number at : ℕ} (size part : ℕ) → size ≤ longest format → suc part < part_count size
      → at + part_count size ≤ area_end format layout generation
      → ((i : ℕ) → i ≤ part → IsPart generation number i size (image (at + i))) → IsLogRead format layout generation image number at (at + suc part)
  record_behind : {number at j : ℕ} {bytes : List ℕ} → IsRecord format layout generation image number at bytes
      → IsLogRead format layout generation image (suc number) (at + part_count (length bytes)) j → IsLogRead format layout generation image number at j

-- ---- the whole store

-- the records of a generation count beside the newest snapshot: those of its own generation, and of format 2 those of the next one
abbrev pub Counts : Format → ℕ → ℕ → Type 0
Counts One newest generation = generation ≡ newest
Counts Two newest generation = (generation ≡ newest) ⊎ (generation ≡ newest + 1)

-- the greatest generation whose records count beside the newest snapshot
abbrev pub top : Format → ℕ → ℕ
top One newest = newest
top Two newest = newest + 1

-- all records that count beside the newest snapshot, in their order
abbrev pub all_records : Format → Layout → ℕ → Image → List (List ℕ)
all_records One layout newest image = records_of One layout newest image
all_records Two layout newest image = records_of Two layout newest image ++ records_of Two layout (newest + 1) image

-- An image of a store: the newest header with its body, the records that count beside it, and none later in the log.
pub record IsStore (format : Format) (layout : Layout) (image : Image) (slot : Slot) (generation : ℕ) (body : List ℕ) (records : List (List ℕ))
    : Type 0 where
  pub first : image 0 ≡ superblock format layout
  pub newest : IsNewest layout image slot generation body
  pub records_are : records ≡ all_records format layout generation image
  pub none_later : IsNoneAbove layout image (top format generation)

-- Whichever image a crash leaves, it is of that store, and the log goes on from there: a sector that isn't read may have several candidates.
-- The newest snapshot has one generation, and the log another, whose records count beside it.
pub record GoesOn (layout : Layout) (past : Past) (slot : Slot) (newest : ℕ) (body : List ℕ) (records : List (List ℕ))
    (generation number next : ℕ) : Type 0 where
  pub counts : Counts current newest generation
  pub store : Images past (λ image. IsStore current layout image slot newest body records)
  pub above : Images past (λ image. IsNoneAbove layout image generation)
  pub end : Images past (λ image. IsLogEnd layout generation image (records_of current layout generation image) number next)
