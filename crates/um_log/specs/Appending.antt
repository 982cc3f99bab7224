-- The store while a record is written after the others.
-- No manual page has it: it is the project's own format (docs/FORMATS.md, "The store on its disk").
-- The writing of records and the keeper stand on this file.
use Rattle.std.specs.Prelude.{◌≡◌, ◌⊎◌, ◌+◌, ◌<◌, ◌≤◌, ℕ, List, [], ◌∷◌, ◌++◌, length, map}
use Rattle.std.specs.List.{range_with_len}
use Rattle.um_model.specs.Disk.{Sector, Image, Past, IsImage}
use Rattle.um_model.specs.Store.{current, part_count, part_of, log_sector, IsStore}
use Rattle.um_model.specs.declared.layout.Layout.{Layout}
use Rattle.um_model.specs.declared.layout.Slot.{Slot}

-- the sectors of a record as they are written, in their order
abbrev pub record_run : ℕ → ℕ → List ℕ → List Sector
record_run generation number bytes =
    map (λ part. log_sector generation number part (length bytes) (part_of bytes part)) (range_with_len 0 (part_count (length bytes)))

-- the store as it was, or with this record after the others
abbrev pub EitherRecord : Layout → Slot → ℕ → List ℕ → List (List ℕ) → List ℕ → Image → Type 0
EitherRecord layout slot newest body records bytes image =
    IsStore current layout image slot newest body records ⊎ IsStore current layout image slot newest body (records ++ bytes ∷ [])

-- an image of before, except for `count` sectors from a place on
pub record IsElsewhere (past : Past) (at count : ℕ) (image : Image) : Type 0 where
  pub from : Image
  pub was : IsImage past from
  pub same : (j : ℕ) → (j < at) ⊎ (at + count ≤ j) → image j ≡ from j
