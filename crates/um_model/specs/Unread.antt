-- Which sectors the reading of a store looks at.
-- Follows no manual page: the layout is this project's own (docs/FORMATS.md).
-- The law that all others don't count, in um_keeper, depends on this file.
use Rattle.std.specs.Prelude.{◌≡◌, ℕ, Some}
use Rattle.um_model.specs.Disk.{Image}
use Rattle.um_model.specs.Store.{Newest, newest_of, superblock, area_start, Counts, IsSlotRead, IsLogRead}
use Rattle.um_model.specs.declared.layout.Format.{Format}
use Rattle.um_model.specs.declared.layout.Layout.{Layout}

-- a sector that the reading of a store looks at: the first, those of its slots, and of the log those of the generations that count
pub data IsRead (layout : Layout) (image : Image) : ℕ → Type 0 where
  is_first : IsRead layout image 0
  of_slots : {j : ℕ} → IsSlotRead layout image j → IsRead layout image j
  of_log : {j : ℕ} (format : Format) (n : Newest) (generation : ℕ) → image 0 ≡ superblock format layout → newest_of layout image ≡ Some n
      → Counts format n.generation generation → IsLogRead format layout generation image 0 (area_start format layout generation) j
      → IsRead layout image j
