-- The parts of a keeper that clauses use: its disk, the layout of its store, where it stands on the disk, and its
-- state.
-- No manual page has it: it is the project's own.
-- The keeper's calls stand on this file.
use Rattle.std.specs.Prelude.{◌≡◌, ◌≢◌, ◌≤◌, ◌-◌, ◌^◌, ℕ, Bool, if◌then◌else◌}
use Rattle.um_model.specs.Machine.{State, Refusal, Step}
use Rattle.um_model.specs.Refusals.{Refused}
use Rattle.um_model.specs.Standing.{Standing}
use Rattle.um_model.specs.Store.{other, log_start}
use Rattle.um_model.specs.declared.layout.Layout.{Layout}
use Rattle.um_model.specs.declared.layout.Slot.{Slot}
use Rattle.um_engine.specs.Engine as engine
use Rattle.um_engine.specs.declared.engine.Next.{Next}
use Rattle.um_log.specs.Reading.{Fits}
use Rattle.um_state.specs.View.{input_of}
use Rattle.um_state.specs.declared.input.Input.{Input}
use Rattle.um_keeper.specs.Keeping.{has_bytes, left_of, finish_calls}
use Rattle.um_keeper.specs.declared.keeper.Keeper.{Keeper}
use Rattle.um_keeper.specs.declared.keeper.OpenedStore.{OpenedStore}

abbrev pub disk_in : {D : Type 0} {g : _} → Keeper D g → D
disk_in k = k.disk

-- the standing of its engine
abbrev pub standing_in : {D : Type 0} {g : _} → Keeper D g → Standing
standing_in k = engine.standing_in k.engine

-- the state, and the size of the store that may hold it, in bytes
abbrev pub state_in : {D : Type 0} {g : _} → Keeper D g → State
state_in k = engine.state_in k.engine

abbrev pub size_in : {D : Type 0} {g : _} → Keeper D g → ℕ
size_in k = engine.size_in k.engine

abbrev pub layout_in : {D : Type 0} {g : _} → Keeper D g → Layout
layout_in k = k.ahead.log.layout

-- where the newest snapshot stands
abbrev pub slot_in : {D : Type 0} {g : _} → Keeper D g → Slot
slot_in k = k.ahead.home.slot

abbrev pub generation_in : {D : Type 0} {g : _} → Keeper D g → ℕ
generation_in k = k.ahead.home.generation

-- the generation of which its log takes records
abbrev pub log_generation_in : {D : Type 0} {g : _} → Keeper D g → ℕ
log_generation_in k = k.ahead.log.generation

-- the number and the first sector of the next record
abbrev pub number_in : {D : Type 0} {g : _} → Keeper D g → ℕ
number_in k = k.ahead.log.number

abbrev pub next_in : {D : Type 0} {g : _} → Keeper D g → ℕ
next_in k = k.ahead.log.next

-- the number of body sectors that are left of the snapshot under way, 0 exactly without one
abbrev pub left_in : {D : Type 0} {g : _} → Keeper D g → ℕ
left_in k = left_of k.ahead.aside.body.items k.ahead.aside.written

-- the number of calls that finish it
abbrev pub finish_calls_in : {D : Type 0} {g : _} → Keeper D g → ℕ
finish_calls_in k = finish_calls k.ahead.aside.body.items k.ahead.aside.written

-- the slot that a checkpoint's snapshot goes into: the one beside the newest, or with one under way the newest's own
abbrev pub slot_behind : {D : Type 0} {g : _} → Keeper D g → Slot
slot_behind k = if has_bytes k.ahead.aside.body.items then k.ahead.home.slot else other k.ahead.home.slot

-- an earlier call failed on its disk
abbrev pub has_failed : {D : Type 0} {g : _} → Keeper D g → Bool
has_failed k = k.failed

-- the findings of the opening of the store
abbrev pub opened_in : {D : Type 0} {g : _} → Keeper D g → OpenedStore
opened_in k = k.opened

-- the same layout, the same size of the store, and the same opening
pub record IsSamePlace {D : Type 0} {g : _} (old new : Keeper D g) : Type 0 where
  pub layout : layout_in new ≡ layout_in old
  pub size : size_in new ≡ size_in old
  pub opened : opened_in new ≡ opened_in old

-- the log has no room for a record of this many bytes, and its generation is the last
pub record HasNoRoom {D : Type 0} {g : _} (k : Keeper D g) (bytes : ℕ) : Type 0 where
  pub no_room : ¬ Fits (layout_in k) (log_generation_in k) (next_in k) bytes
  pub last : log_generation_in k ≡ 2 ^ 64 - 1

-- in the last generation, now or once the log reaches it, the log is free from this sector on
pub record IsFreeFrom {D : Type 0} {g : _} (k : Keeper D g) (from : ℕ) : Type 0 where
  pub start : log_start (layout_in k) (2 ^ 64 - 1) ≤ from
  pub behind : log_generation_in k ≡ 2 ^ 64 - 1 → next_in k ≤ from

-- it is the step of the machine that the input is, and no refusal
pub record IsPlanned {D : Type 0} {g : _} (k : Keeper D g) (input : Input) (next : Next) : Type 0 where
  pub step : Step (size_in k) (state_in k) (input_of input) (engine.reply_in next) (engine.actions_in next) (engine.state_after next (standing_in k)).state
  pub accepted : (r : Refused) → engine.reply_in next ≢ Refusal r
