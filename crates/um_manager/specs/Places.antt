-- Where the store of a manager stands, and whether its disk is to be trusted.
-- No manual page has it: it is the project's own.
-- The turn of the manager and its opening stand on this file.
use Rattle.std.specs.Prelude.{◌≡◌, ◌≤◌, ◌-◌, ◌^◌, ℕ, Bool, true, false}
use Rattle.um_keeper.specs.Keepers.{disk_in, size_in, layout_in, log_generation_in, next_in, left_in, has_failed}
use Rattle.um_keeper.specs.declared.keeper.Keeper.{Keeper}
use Rattle.um_model.specs.Store.{body_limit, log_start}
use Rattle.um_model.specs.declared.layout.Layout.{Layout}
use Rattle.um_sector.specs.declared.disk.Disk as disk

-- the layout of the store, the most bytes that a state in it has, and whether its disk is to be trusted
pub record Place : Type 0 where
  pub size : ℕ
  pub layout : Layout
  pub trusted : Bool

abbrev pub place : ℕ → Layout → Bool → Place
place size layout trusted = record { size = size; layout = layout; trusted = trusted }

-- the place of a store of this layout, on a disk that does what it answers, and on which no call has failed
abbrev pub place_on : Layout → Place
place_on layout = place (body_limit layout) layout true

-- the disk does what it answers, and no call on it failed before
abbrev pub is_trusted : (honest failed : Bool) → Bool
is_trusted honest false = honest
is_trusted honest true = false

-- the place of a keeper's store, on a disk that does what it answers or doesn't
abbrev pub place_in : {D : Type 0} {g : _} → (honest : Bool) → Keeper D g → Place
place_in honest k = place (size_in k) (layout_in k) (is_trusted honest (has_failed k))

-- where the next record goes: in the log of which generation, and at which sector; how many sectors are left of a snapshot under way; and how many
-- calls were made on the disk so far
pub record LogEnd : Type 0 where
  pub generation : ℕ
  pub next : ℕ
  pub left : ℕ
  pub calls : ℕ

abbrev pub log_in : {D : Type 0} {g : disk.Ghosts D} → Keeper D g → LogEnd
log_in {g = g} k = record { generation = log_generation_in k; next = next_in k; left = left_in k; calls = g.calls (disk_in k) }

-- in the last generation, now or once the log reaches it, the log is free from this sector on
pub record IsFreeFrom (layout : Layout) (log : LogEnd) (from : ℕ) : Type 0 where
  pub start : log_start layout (2 ^ 64 - 1) ≤ from
  pub behind : log.generation ≡ 2 ^ 64 - 1 → log.next ≤ from
