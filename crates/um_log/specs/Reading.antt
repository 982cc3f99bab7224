-- The reading of one record.
-- No manual page has it: it is the project's own format.
-- um_log's functions stand on this file.
use Rattle.std.specs.Prelude.{ℕ, ◌<◌, ◌≤◌, ◌+◌, List, [], map, Option, Some, None, Vec}
use Rattle.std.specs.declared.alloc.Global.{Global}
use Rattle.um_model.specs.Disk.{Image}
use Rattle.um_model.specs.declared.layout.Format.{Format}
use Rattle.um_model.specs.declared.layout.Layout.{Layout}
use Rattle.um_log.specs.declared.read.Record.{Record}
use Rattle.um_model.specs.Store.{current, IsRecord, AreRecords, part_count, longest, area_end}

-- a whole record stands there, or none
abbrev pub ReadsRecord : Format → Layout → ℕ → Image → ℕ → ℕ → Option (Vec ℕ Global) → Type 0
ReadsRecord format layout generation image number at None = (bytes : List ℕ) → IsRecord format layout generation image number at bytes → ⊥
ReadsRecord format layout generation image number at (Some bytes) = IsRecord format layout generation image number at bytes.items

-- the record that stands there was read, or no more stand there
abbrev pub ReadsNext : Format → Layout → ℕ → Image → ℕ → ℕ → Option Record → Type 0
ReadsNext format layout generation image number at None = AreRecords format layout generation image number at []
ReadsNext format layout generation image number at (Some found) = IsRecord format layout generation image number at found.bytes.items

-- a record of `size` bytes is possible from that sector of a generation's place in the log on
pub record FitsIn (format : Format) (layout : Layout) (generation next size : ℕ) : Type 0 where
  pub some : 0 < size
  pub short : size ≤ longest format
  pub within : next + part_count size ≤ area_end format layout generation

-- and so it is in the format in which stores are written
abbrev pub Fits : Layout → ℕ → ℕ → ℕ → Type 0
Fits layout generation next size = FitsIn current layout generation next size

-- the bytes of records
abbrev pub bytes_of : List Record → List (List ℕ)
bytes_of records = map (λ found. found.bytes.items) records

-- and each with its first sector
abbrev pub places_of : List Record → List (ℕ × List ℕ)
places_of records = map (λ found. (found.first, found.bytes.items)) records
