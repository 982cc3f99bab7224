-- The store while records are written of which not all were synced.
-- No manual page has it: it is the project's own format (docs/FORMATS.md, "The store on its disk").
-- The writing of records and the keeper stand on this file.
use Rattle.std.specs.Prelude.{◌≡◌, ◌⊎◌, ◌<◌, ◌≤◌, ℕ, List, ◌++◌, length, take}
use Rattle.um_model.specs.Disk.{Image, Past, Images, seen}
use Rattle.um_model.specs.Store.{current, log_start, records_of, Counts, HasRecords, IsNoneAbove, IsLogEnd, IsStore}
use Rattle.um_model.specs.declared.layout.Layout.{Layout}
use Rattle.um_model.specs.declared.layout.Slot.{Slot}

-- the records of a generation end with these, whatever stands in the log from a sector on
abbrev pub EndsWith : Layout → ℕ → Image → List (List ℕ) → ℕ → Type 0
EndsWith layout generation image records next =
    (other : Image) → ((j : ℕ) → log_start layout generation ≤ j → j < next → other j ≡ image j) → HasRecords current layout generation other records

-- The store with the records that were synced, and a beginning of those that were written since.
pub record HasSome (layout : Layout) (slot : Slot) (newest : ℕ) (body : List ℕ) (records more : List (List ℕ)) (image : Image) : Type 0 where
  pub count : ℕ
  pub within : count ≤ length more
  pub store : IsStore current layout image slot newest body (records ++ take count more)

-- That store, of an image: it has all of them, and the log goes on after them, or a record is torn, and ends the
-- reading of the log's generation whatever follows; no sector of the log is of a generation above that.
pub record HasBegun (layout : Layout) (slot : Slot) (newest : ℕ) (body : List ℕ) (records more : List (List ℕ)) (generation number next : ℕ)
    (image : Image) : Type 0 where
  pub some : HasSome layout slot newest body records more image
  pub above : IsNoneAbove layout image generation
  pub rest : ((some.count ≡ length more) × IsLogEnd layout generation image (records_of current layout generation image) number next)
      ⊎ ((some.count < length more) × EndsWith layout generation image (records_of current layout generation image) next)

-- The log goes on from there, after records of which not all were synced: each image that a crash leaves has the synced
-- ones and a beginning of the others, and a read gives all of them.
pub record GoesOnAhead (layout : Layout) (past : Past) (slot : Slot) (newest : ℕ) (body : List ℕ) (records more : List (List ℕ))
    (generation number next : ℕ) : Type 0 where
  pub counts : Counts current newest generation
  pub images : Images past (HasBegun layout slot newest body records more generation number next)
  pub store : IsStore current layout (seen past) slot newest body (records ++ more)
  pub above : IsNoneAbove layout (seen past) generation
  pub end : IsLogEnd layout generation (seen past) (records_of current layout generation (seen past)) number next
