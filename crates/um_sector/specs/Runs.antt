-- A run of sectors while it is written and afterwards, and how a count of failures rises.
-- No manual page has it: it is the disk model of um_model, for several calls.
-- The writing of runs, the slots, the log and the keeper stand on this file.
use Rattle.std.specs.Prelude.{◌≡◌, ◌⊎◌, ◌+◌, ◌<◌, ◌≤◌, ℕ, zero, suc, List, [], length, slice_index_or, Result, Ok, Err}
use Rattle.um_model.specs.Disk.{Sector, Image, Past, IsImage, one_more}

-- the run stands at its place, and all else is as before
pub record IsLaid (old : Image) (at : ℕ) (run : List Sector) (image : Image) : Type 0 where
  pub inside : (i : ℕ) → i < length run → image (at + i) ≡ slice_index_or run i []
  pub outside : (j : ℕ) → (j < at) ⊎ (at + length run ≤ j) → image j ≡ old j

-- each sector of the run's place is old or new, and all else is as before
pub record MaybeLaid (old : Image) (at : ℕ) (run : List Sector) (image : Image) : Type 0 where
  pub inside : (i : ℕ) → i < length run → (image (at + i) ≡ old (at + i)) ⊎ (image (at + i) ≡ slice_index_or run i [])
  pub outside : (j : ℕ) → (j < at) ⊎ (at + length run ≤ j) → image j ≡ old j

-- an image of before, with any of the run's sectors
pub record AfterRun (past : Past) (at : ℕ) (run : List Sector) (image : Image) : Type 0 where
  pub from : Image
  pub was : IsImage past from
  pub laid : MaybeLaid from at run image

-- one more, this many times
abbrev pub more : ℕ → ℕ → ℕ
more count zero = count
more count (suc n) = one_more (more count n)

-- the count of failures rises exactly at `Err`
abbrev pub CountsFailure : {T E : Type 0} → Result T E → ℕ → ℕ → Type 0
CountsFailure (Ok x) old new = new ≡ old
CountsFailure (Err e) old new = new ≡ one_more old
