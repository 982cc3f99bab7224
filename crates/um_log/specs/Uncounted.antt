-- The whole records that stand in the log and don't count, after those that do, and the sector with which the reading
-- of the counted ones ends.
-- No manual page has it: it is the project's own format (docs/FORMATS.md, "The store on its disk").
-- `Reader::remains`, the opening of a store and `inspect` stand on this file.
use Rattle.std.specs.Prelude.{◌≡◌, ◌+◌, ◌^◌, ◌<◌, ◌≤◌, ℕ, suc, List, length}
use Rattle.um_model.specs.Disk.{Image}
use Rattle.um_model.specs.Store.{area_start, part_count, IsRecord, IsLogRead}
use Rattle.um_model.specs.declared.layout.Format.{Format}
use Rattle.um_model.specs.declared.layout.Layout.{Layout}

-- a whole record ends with that sector, and doesn't begin before sector `from`
pub record Ends (format : Format) (layout : Layout) (image : Image) (from generation number last : ℕ) : Type 0 where
  pub at : ℕ
  pub low : from ≤ at
  pub bytes : List ℕ
  pub is : IsRecord format layout generation image number at bytes
  pub end : at + part_count (length bytes) ≡ suc last

-- one of that generation, with that number or a greater one; a number has eight bytes
pub record EndsUncounted (format : Format) (layout : Layout) (image : Image) (from generation least last : ℕ) : Type 0 where
  pub number : ℕ
  pub greater : least ≤ number
  pub fits : number < 2 ^ 64
  pub ends : Ends format layout image from generation number last

-- one of a later generation, which has the same place in the log; both numbers have eight bytes
pub record EndsLater (format : Format) (layout : Layout) (image : Image) (from generation last : ℕ) : Type 0 where
  pub later : ℕ
  pub greater : generation < later
  pub place : area_start format layout later ≡ area_start format layout generation
  pub fits : later < 2 ^ 64
  pub number : ℕ
  pub number_fits : number < 2 ^ 64
  pub ends : Ends format layout image from later number last

-- The number of sectors of that kind, from one sector on and before another: a sector ends one record at most, so of
-- `EndsUncounted` and `EndsLater` it is the number of records.
pub data Counts (Is : ℕ → Type 0) (from : ℕ) : ℕ → ℕ → Type 0 where
  starts : Counts Is from from 0
  counted : {end count : ℕ} → Counts Is from end count → Is end → Counts Is from (suc end) (suc count)
  passed : {end count : ℕ} → Counts Is from end count → ¬ Is end → Counts Is from (suc end) count

-- The reading of the records from a place on ends with that sector: the first that isn't the next part in its place.
pub record StopsAt (format : Format) (layout : Layout) (generation : ℕ) (image : Image) (number next stop : ℕ) : Type 0 where
  pub looked : IsLogRead format layout generation image number next stop
  pub last : (j : ℕ) → IsLogRead format layout generation image number next j → j ≤ stop
