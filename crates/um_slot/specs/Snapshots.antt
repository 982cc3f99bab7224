-- A slot and the store while a snapshot is written into it, and afterwards.
-- No manual page has it: it is the project's own format (docs/FORMATS.md, "The store on its disk").
-- The writing of slots and the keeper stand on this file.
use Rattle.std.specs.Prelude.{◌≡◌, ◌⊎◌, ◌+◌, ◌*◌, ◌<◌, ◌≤◌, ℕ, List, [], length, map, take, drop}
use Rattle.std.specs.List.{range_with_len}
use Rattle.um_model.specs.Disk.{Sector, Image, Past, IsImage, seen}
use Rattle.um_model.specs.Store.{current, sector_bytes, filled, superblock, slot_start, other, first_log_sector, header_sector, sector_count, all_records, IsNewest, IsNoneAbove, IsStore}
use Rattle.um_model.specs.declared.layout.Format.{Format}
use Rattle.um_model.specs.declared.layout.Layout.{Layout}
use Rattle.um_model.specs.declared.layout.Slot.{Slot}

-- a body's sectors as they are written, each by its place
abbrev pub body_sector : List ℕ → ℕ → Sector
body_sector body i = filled (take sector_bytes (drop (sector_bytes * i) body))

-- `count` of them from one on, in their order
abbrev pub part_run : List ℕ → ℕ → ℕ → List Sector
part_run body from count = map (body_sector body) (range_with_len from count)

-- this many of a body's sectors stand in a slot
abbrev pub IsWritten : Layout → Image → Slot → List ℕ → ℕ → Type 0
IsWritten layout image slot body count = (i : ℕ) → i < count → image (slot_start layout slot + 1 + i) ≡ body_sector body i

-- an image of before, but for the body in the slot beside this one
pub record IsBeside (layout : Layout) (past : Past) (slot : Slot) (image : Image) : Type 0 where
  pub from : Image
  pub was : IsImage past from
  pub same : (j : ℕ) → (j ≤ slot_start layout (other slot)) ⊎ (slot_start layout (other slot) + layout.slot_sectors ≤ j) → image j ≡ from j

-- a body and its header stand in a slot, as they are written
pub record IsSnapshot (layout : Layout) (image : Image) (slot : Slot) (generation : ℕ) (body : List ℕ) : Type 0 where
  pub header : image (slot_start layout slot) ≡ header_sector generation (length body)
  pub sectors : IsWritten layout image slot body (sector_count (length body))

-- While a snapshot is written into a slot: all else is as before, and its header is too, or all of the snapshot stands there.
pub record MaybeSnapshot (layout : Layout) (old : Image) (slot : Slot) (generation : ℕ) (body : List ℕ) (image : Image) : Type 0 where
  pub outside : (j : ℕ) → (j < slot_start layout slot) ⊎ (slot_start layout slot + layout.slot_sectors ≤ j) → image j ≡ old j
  pub inside : (image (slot_start layout slot) ≡ old (slot_start layout slot)) ⊎ IsSnapshot layout image slot generation body

-- an image of before, with the snapshot partly or wholly written
pub record AfterSnapshot (layout : Layout) (past : Past) (slot : Slot) (generation : ℕ) (body : List ℕ) (image : Image) : Type 0 where
  pub from : Image
  pub was : IsImage past from
  pub maybe : MaybeSnapshot layout from slot generation body image

-- while a header is written after a sync: an image of before, or the image that a read gave, with the snapshot there or
-- not
abbrev pub AfterSeal : Layout → Past → Slot → ℕ → List ℕ → Image → Type 0
AfterSeal layout past slot generation body image = IsImage past image ⊎ MaybeSnapshot layout (seen past) slot generation body image

-- a store with this newest snapshot, and the records that count in the image
abbrev pub HasStore : Layout → Slot → ℕ → List ℕ → Image → Type 0
HasStore layout slot generation body image = IsStore current layout image slot generation body (all_records current layout generation image)

-- the store of an image of before
pub record WasStore (layout : Layout) (past : Past) (slot : Slot) (generation : ℕ) (body : List ℕ) (image : Image) : Type 0 where
  pub from : Image
  pub was : IsImage past from
  pub store : IsStore current layout image slot generation body (all_records current layout generation from)

-- the store with this body as the next generation, and the records that a read gave beside it
abbrev pub HasNew : Layout → Past → Slot → ℕ → List ℕ → Image → Type 0
HasNew layout past slot generation body image =
    IsStore current layout image (other slot) (generation + 1) body (all_records current layout (generation + 1) (seen past))

-- the store of before, or the new one
abbrev pub EitherSnapshot : Layout → Past → Slot → ℕ → List ℕ → List ℕ → Image → Type 0
EitherSnapshot layout past slot generation before body image = WasStore layout past slot generation before image ⊎ HasNew layout past slot generation body image

-- a store in this format with this newest snapshot, in whose log no sector is of a generation above the last
pub record HasNewest (format : Format) (layout : Layout) (slot : Slot) (newest : ℕ) (body : List ℕ) (last : ℕ) (image : Image) : Type 0 where
  pub first : image 0 ≡ superblock format layout
  pub snapshot : IsNewest layout image slot newest body
  pub none_later : IsNoneAbove layout image last

-- the newest snapshot of an image of before, and its whole log
pub record WasNewest (format : Format) (layout : Layout) (past : Past) (slot : Slot) (newest : ℕ) (body : List ℕ) (image : Image) : Type 0 where
  pub from : Image
  pub was : IsImage past from
  pub first : image 0 ≡ superblock format layout
  pub snapshot : IsNewest layout image slot newest body
  pub log : (j : ℕ) → first_log_sector layout ≤ j → image j ≡ from j

-- the newest snapshot and the log of before, or a store with this body after the last generation and no record
abbrev pub EitherNewest : Format → Layout → Past → Slot → ℕ → List ℕ → ℕ → List ℕ → Image → Type 0
EitherNewest format layout past slot newest before last body image =
    WasNewest format layout past slot newest before image ⊎ IsStore format layout image (other slot) (last + 1) body []
