-- The reading of two headers.
-- No manual page has it: it is the project's own format.
-- um_slot's functions stand on this file.
use Rattle.std.specs.Prelude.{◌≢◌, ℕ, replicate, Option, Some, None, nat_le, if◌then◌else◌}
use Rattle.um_model.specs.Disk.{Sector, Image}
use Rattle.um_model.specs.declared.layout.Layout.{Layout}
use Rattle.um_model.specs.declared.layout.Slot.{Slot}
use Rattle.um_model.specs.declared.layout.Slot.TheVariants.{A, B}
use Rattle.um_model.specs.Store.{slot_start, other, IsHeader, IsOlder, HasNoHeader}
use Rattle.um_slot.specs.declared.header.Header.{Header}

-- a sector is that header, or none
abbrev pub ReadsHeader : Layout → Sector → Option Header → Type 0
ReadsHeader layout sector None = (generation size : ℕ) → IsHeader layout sector generation size → ⊥
ReadsHeader layout sector (Some header) = IsHeader layout sector header.generation header.size

-- of two headers the newer, of equal generations slot A's
abbrev pub newer_of : Option Header → Option Header → Option (Slot × Header)
newer_of None None = None
newer_of (Some a) None = Some (A, a)
newer_of None (Some b) = Some (B, b)
newer_of (Some a) (Some b) = if nat_le b.generation a.generation then Some (A, a) else Some (B, b)

-- the newest well-formed header of an image
pub record IsNewestHeader (layout : Layout) (image : Image) (slot : Slot) (header : Header) : Type 0 where
  pub here : IsHeader layout (image (slot_start layout slot)) header.generation header.size
  pub newer : (theirs size : ℕ) → IsHeader layout (image (slot_start layout (other slot))) theirs size → IsOlder slot header.generation theirs

-- it was found, or there is none
abbrev pub Finds : Layout → Image → Option (Slot × Header) → Type 0
Finds layout image None = HasNoHeader layout image
Finds layout image (Some found) = IsNewestHeader layout image found.0 found.1

-- the first sector of a slot is damaged: it is neither a well-formed header nor all zeros
pub record IsDamaged (layout : Layout) (sector : Sector) : Type 0 where
  pub no_header : (generation size : ℕ) → ¬ IsHeader layout sector generation size
  pub not_zeros : sector ≢ replicate 512 0

-- that of some slot is
pub record HasDamaged (layout : Layout) (image : Image) : Type 0 where
  pub slot : Slot
  pub is : IsDamaged layout (image (slot_start layout slot))
