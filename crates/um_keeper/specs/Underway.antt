-- A keeper's disk while a list of inputs is taken: its records may be written ahead of the last sync.
-- No manual page has it: it is the project's own.
-- The taking of lists stands on this file.
use Rattle.std.specs.Prelude.{◌≡◌, ◌⊎◌, ◌+◌, ◌-◌, ◌*◌, ◌^◌, ◌≤◌, ◌≢◌, ℕ, Bool, true, false, IsTrue, if◌then◌else◌, List, [], ◌++◌, length, take, Some}
use Rattle.um_model.specs.Bytes.{nothing_left}
use Rattle.um_model.specs.Disk.{Image, Past, seen}
use Rattle.um_model.specs.InputSpellings.{input_spelling}
use Rattle.um_model.specs.Machine.{State, Input, Refusal, Run, Step}
use Rattle.um_model.specs.Refusals.{Refused}
use Rattle.um_model.specs.Servable.{IsServable}
use Rattle.um_model.specs.Stands.{inputs_of}
use Rattle.um_model.specs.StateSpellings.{state_at}
use Rattle.um_model.specs.Store.{current, other, body_limit, log_start, log_end, part_count, records_of}
use Rattle.um_model.specs.declared.layout.Layout.{Layout}
use Rattle.um_model.specs.declared.layout.Slot.{Slot}
use Rattle.um_engine.specs.Engine.{reply_in, actions_in, state_after, size_in, state_in, standing_in}
use Rattle.um_engine.specs.declared.engine.Engine.{Engine}
use Rattle.um_engine.specs.declared.engine.Next.{Next}
use Rattle.um_log.specs.Ahead.{GoesOnAhead}
use Rattle.um_log.specs.Reading.{Fits}
use Rattle.um_log.specs.declared.write.Log.{Log}
use Rattle.um_slot.specs.Snapshots.{IsWritten}
use Rattle.um_state.specs.View as view
use Rattle.um_state.specs.declared.input.Input as declared
use Rattle.um_keeper.specs.Answering.{Answer, Recorded, AreSpentAt, most_snapshot_calls}
use Rattle.um_keeper.specs.Keeping.{Keeps, has_bytes, left_of, finish_calls, log_generation}
use Rattle.um_keeper.specs.declared.ahead.Ahead.{Ahead}

-- A body spells a state and records spell inputs, and the run over them reaches the other state.
pub record Spells (layout : Layout) (body : List ℕ) (records : List (List ℕ)) (s : State) : Type 0 where
  pub start : State
  pub inputs : List Input
  pub start_is : nothing_left (state_at body) ≡ Some start
  pub inputs_are : inputs_of records ≡ Some inputs
  pub servable : IsServable (body_limit layout) start
  pub run : Run (body_limit layout) start inputs s

-- A body and records spell the state to which a beginning of these inputs leads.
pub record Begins (layout : Layout) (s : State) (taken : List Input) (body : List ℕ) (records : List (List ℕ)) : Type 0 where
  pub count : ℕ
  pub state : State
  pub run : Run (body_limit layout) s (take count taken) state
  pub spells : Spells layout body records state

-- A snapshot under way is of the state after the records of the newest one's generation.
pub record IsAside (layout : Layout) (image : Image) (newest : ℕ) (body kept : List ℕ) : Type 0 where
  pub state : State
  pub spells : Spells layout body (records_of current layout newest image) state
  pub kept_is : nothing_left (state_at kept) ≡ Some state
  pub may : IsServable (body_limit layout) state

-- While a list is taken from a state on: the disk has a beginning of the inputs that were taken, and a read gives the
-- state after them all.
pub record IsUnderway (layout : Layout) (s : State) (taken : List Input) (past : Past) (slot : Slot) (newest : ℕ) (kept : List ℕ)
    (written generation number next : ℕ) (unsynced : Bool) (state : State) : Type 0 where
  pub body : List ℕ
  pub records : List (List ℕ)
  pub more : List (List ℕ)
  pub ahead : GoesOnAhead layout past slot newest body records more generation number next
  -- each beginning of the records that weren't synced is one of the inputs
  pub begins : (n : ℕ) → Begins layout s taken body (records ++ take n more)
  pub all : Spells layout body (records ++ more) state
  pub ends : Run (body_limit layout) s taken state
  -- all records are on the disk, unless something is to be synced
  pub synced : unsynced ≡ false → more ≡ []
  -- a snapshot under way, of which a read gives this many sectors
  pub same : generation ≡ log_generation newest kept
  pub aside : has_bytes kept ≡ true → IsAside layout (seen past) newest body kept
  pub written_is : IsWritten layout (seen past) (other slot) kept written

-- the same of where a store stands
abbrev pub UnderwayIn : State → List Input → Past → Ahead → State → Type 0
UnderwayIn s taken past a state =
    IsUnderway a.log.layout s taken past a.home.slot a.home.generation a.aside.body.items a.aside.written
    a.log.generation a.log.number a.log.next a.unsynced state

-- and where nothing is to be synced
abbrev pub SettledIn : State → List Input → Past → Ahead → State → Type 0
SettledIn s taken past a state =
    IsUnderway a.log.layout s taken past a.home.slot a.home.generation a.aside.body.items a.aside.written a.log.generation a.log.number a.log.next false state

-- all of it is synced, and each image is a store of the state
abbrev pub KeptIn : Past → ℕ → Ahead → State → Type 0
KeptIn past sectors a state =
    Keeps past sectors a.log.layout a.home.slot a.home.generation a.aside.body.items a.aside.written a.log.generation a.log.number a.log.next state

-- a snapshot is under way
abbrev pub is_renewing : Ahead → Bool
is_renewing a = has_bytes a.aside.body.items

-- the number of its sectors that are left, and the number of calls that finish it
abbrev pub left_ahead : Ahead → ℕ
left_ahead a = left_of a.aside.body.items a.aside.written

abbrev pub finish_ahead : Ahead → ℕ
finish_ahead a = finish_calls a.aside.body.items a.aside.written

-- one disk call is owed where something is to be synced
abbrev pub owed : Bool → ℕ
owed unsynced = if unsynced then 1 else 0

-- the log has room for the record of an input, as it is
abbrev pub HasRoomFor : Log → Input → Type 0
HasRoomFor log input = log.next + part_count (length (input_spelling input)) ≤ log_end log.layout log.generation

-- the log has no room for a record of this many bytes, and its generation is the last
pub record LacksRoom (log : Log) (bytes : ℕ) : Type 0 where
  pub no_room : ¬ Fits log.layout log.generation log.next bytes
  pub last : log.generation ≡ 2 ^ 64 - 1

-- in the last generation, now or once the log reaches it, the log is free from this sector on
pub record IsFreeAt (log : Log) (from : ℕ) : Type 0 where
  pub start : log_start log.layout (2 ^ 64 - 1) ≤ from
  pub behind : log.generation ≡ 2 ^ 64 - 1 → log.next ≤ from

-- the engine's step that the input is, and no refusal
pub record IsPlannedBy (engine : Engine) (input : declared.Input) (next : Next) : Type 0 where
  pub step : Step (size_in engine) (state_in engine) (view.input_of input) (reply_in next) (actions_in next) (state_after next (standing_in engine)).state
  pub accepted : (r : Refused) → reply_in next ≢ Refusal r

-- The log stays in its generation, with `most` calls at most; or it rises by one, as a snapshot begins, with the calls
-- that finish the one under way and a sync besides.
abbrev pub MayRise : (old new : Ahead) (finish most now : ℕ) → Type 0
MayRise old new finish most now =
    ((new.log.generation ≡ old.log.generation) × (is_renewing new ≡ is_renewing old) × (now ≤ most))
    ⊎ ((new.log.generation ≡ old.log.generation + 1) × (now ≤ most + finish + 1) × (is_renewing old ≡ false → now ≤ most + 1))

-- The sectors and disk calls of inputs that are judged from a state on, as far as they were taken: the sectors of their
-- records, and a snapshot and a sync for each generation by which the log rose.
pub record Takes (size : ℕ) (old new : Ahead) (before now : ℕ) (s : State) (inputs : List Input) (answers : List Answer) (t : State) : Type 0 where
  pub sectors : ℕ
  pub recorded : Recorded size s inputs answers sectors t
  pub rises : ℕ
  pub risen_by : new.log.generation ≡ old.log.generation + rises
  pub few : now ≤ before + sectors + rises * (most_snapshot_calls old.log.layout + 1)
  -- the one that begins isn't written, where none was under way
  pub stays : rises ≡ 0 → is_renewing new ≡ is_renewing old
  pub begins : is_renewing old ≡ false → rises ≤ 1 → now ≤ before + sectors + rises
  pub fits : old.log.next + sectors ≤ log_end old.log.layout old.log.generation
      → (rises ≡ 0) × (new.log.next ≤ old.log.next + sectors) × (now ≤ before + sectors)
  pub free : (from : ℕ) → IsFreeAt old.log from → IsFreeAt new.log (from + sectors)
  pub spent : (generation from : ℕ) → new.log.generation ≤ generation → IsFreeAt old.log from → (more : List Input) (rest : List Answer)
      → AreSpentAt old.log.layout generation size (from + sectors) t more rest
      → AreSpentAt old.log.layout generation size from s (inputs ++ more) (answers ++ rest)

-- the same, and where the records have room the disk isn't synced, by a count of syncs
pub record TakesUnsynced (trusted : Bool) (first last : ℕ) (size : ℕ) (old new : Ahead) (before now : ℕ) (s : State) (inputs : List Input)
    (answers : List Answer) (t : State) : Type 0 where
  pub takes : Takes size old new before now s inputs answers t
  pub unsynced : IsTrue trusted → old.log.next + takes.sectors ≤ log_end old.log.layout old.log.generation → last ≡ first
