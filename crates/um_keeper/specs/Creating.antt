-- The disk while a store is made on it.
-- No manual page has it: it is the project's own format (docs/FORMATS.md, "The store on its disk").
-- `create` stands on this file.
use Rattle.std.specs.Prelude.{◌≡◌, ◌⊎◌, ◌+◌, ◌<◌, ◌≤◌, ℕ, [], replicate, take, Some}
use Rattle.um_model.specs.Disk.{Sector, Image, Past, IsImage, During}
use Rattle.um_model.specs.Machine.{empty_state}
use Rattle.um_model.specs.Stands.{contents_of, IsStoreOf}
use Rattle.um_model.specs.Store.{current, sector_bytes, store_name, slot_start, first_log_sector, store_sectors}
use Rattle.um_model.specs.declared.layout.Layout.{Layout}
use Rattle.um_model.specs.declared.layout.Slot.{Slot}
use Rattle.um_model.specs.declared.layout.Slot.TheVariants.{A}
use Rattle.um_sector.specs.Unsynced.{sync_count}
use Rattle.um_keeper.specs.Keeping.{snapshot_calls}

-- a sector of zeros
abbrev pub blank : Sector
blank = replicate sector_bytes 0

-- sector 0 doesn't begin as that of a store
abbrev pub IsNoStore : Image → Type 0
IsNoStore image = ¬ (take 6 (image 0) ≡ store_name)

-- an image of before, or of no store
abbrev pub WasOrIsNone : Past → Image → Type 0
WasOrIsNone past image = IsImage past image ⊎ IsNoStore image

-- the store of the empty state: its snapshot of generation 1 in slot A, and no record
pub record IsEmptyStore (layout : Layout) (image : Image) : Type 0 where
  pub store : IsStoreOf layout image empty_state
  pub holds : contents_of current layout image ≡ Some (record { slot = A; generation = 1; start = empty_state; inputs = [] })

-- no store, or that of the empty state
abbrev pub NoneOrEmpty : Layout → Image → Type 0
NoneOrEmpty layout image = IsNoStore image ⊎ IsEmptyStore layout image

-- The images that a crash leaves while a store is made.
pub data WhileCreated (layout : Layout) (old new : Past) : Type 0 where
  -- no sync is done: an image of before, or of no store
  unsynced : sync_count new ≡ sync_count old → During old new (WasOrIsNone old) → WhileCreated layout old new
  -- the first is done: from then on nothing of before
  synced : (first : Past) → sync_count first ≡ sync_count old + 1 → During old first (WasOrIsNone old) → During first new (NoneOrEmpty layout)
      → WhileCreated layout old new

-- The number of disk calls that make a store: a write and a sync of sector 0, a write of each header and of each sector
-- of the log, the snapshot of the empty state, and a write and a sync of sector 0.
abbrev pub create_calls : Layout → ℕ
create_calls layout = 2 + (layout.log_sectors + 2) + snapshot_calls empty_state + 2

-- sector 0, both headers and the log are zeros
pub record IsWiped (layout : Layout) (image : Image) : Type 0 where
  pub first : image 0 ≡ blank
  pub headers : (slot : Slot) → image (slot_start layout slot) ≡ blank
  pub log : (j : ℕ) → first_log_sector layout ≤ j → j < store_sectors layout → image j ≡ blank
