-- The greatest generation that stands on the disk of a store: the last that counts beside its newest snapshot, or one
-- that a sector of the log names.
-- No manual page has it: it is the project's own format (docs/FORMATS.md, "The store on its disk").
-- `Reader::remains`, `greatest` and the opening of a store stand on this file.
use Rattle.std.specs.Prelude.{◌≡◌, ◌⊎◌, ◌<◌, ◌≤◌, ℕ}
use Rattle.um_model.specs.Disk.{Image}
use Rattle.um_model.specs.declared.layout.Format.{Format}
use Rattle.um_model.specs.declared.layout.Layout.{Layout}
use Rattle.um_model.specs.Store.{first_log_sector, area_start, area_end, store_sectors, IsOf, IsNoneAbove}

-- a sector of the log says of itself, whole or not, that it is of that generation
pub record IsTold (layout : Layout) (image : Image) (generation : ℕ) : Type 0 where
  pub place : ℕ
  pub low : first_log_sector layout ≤ place
  pub high : place < store_sectors layout
  pub is : IsOf generation (image place)

-- the greater of a generation and the greatest that a sector of its place in the log names
pub record IsGreatestIn (format : Format) (layout : Layout) (generation : ℕ) (image : Image) (greatest : ℕ) : Type 0 where
  pub least : generation ≤ greatest
  pub none_later : (theirs j : ℕ) → area_start format layout generation ≤ j → j < area_end format layout generation → IsOf theirs (image j) → theirs ≤ greatest
  pub stands : (greatest ≡ generation) ⊎ IsTold layout image greatest

-- the greater of a generation, as the last one that counts beside the newest snapshot, and the greatest that a sector
-- of the log names
pub record IsGreatest (layout : Layout) (image : Image) (newest greatest : ℕ) : Type 0 where
  pub least : newest ≤ greatest
  pub none_later : IsNoneAbove layout image greatest
  pub stands : (greatest ≡ newest) ⊎ IsTold layout image greatest
