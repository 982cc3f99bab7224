-- The state of one unit: its sub state, result, process numbers and deadline.
-- Follows systemctl(1) and systemd.service(5) in the names of states and results.
-- The machine, replies and canonical bytes depend on this file.
use Rattle.std.specs.Prelude.{◌≢◌, ℕ, Bool, true, false, ◌==◌, if◌then◌else◌, List, Option, Some, None, unwrap_or, codes}
use Rattle.std.specs.FinMap as map
use Rattle.std.specs.Cmp.Lexicographic.{slice_cmp}
use Rattle.std.specs.Ordering.{nat_cmp}
use Rattle.std.specs.Option.{option_map_or}
use Rattle.um_model.specs.declared.service.SubState.{SubState}
use Rattle.um_model.specs.declared.service.SubState.TheVariants.{Dead, StartPre, Start, Running, Exited, Stop, StopSigterm, StopSigkill, Failed}
use Rattle.um_model.specs.declared.service.SubState.TheVariants.{AutoRestart, Active}
use Rattle.um_model.specs.declared.service.ActiveState.{ActiveState}
use Rattle.um_model.specs.declared.service.ActiveState.TheVariants as active
use Rattle.um_model.specs.declared.service.UnitResult.{UnitResult}
use Rattle.um_model.specs.declared.service.UnitResult.TheVariants as result
use Rattle.um_model.specs.declared.service.Signal.{Signal}
use Rattle.um_model.specs.contracts.service.UnitStatePartialEq.TheImpl as unit_state
use Rattle.um_model.specs.declared.service.UnitState.{UnitState}

-- the word for a sub state
abbrev pub sub_state_text : SubState → List ℕ
sub_state_text Dead = codes "dead"
sub_state_text StartPre = codes "start-pre"
sub_state_text Start = codes "start"
sub_state_text Running = codes "running"
sub_state_text Exited = codes "exited"
sub_state_text Stop = codes "stop"
sub_state_text StopSigterm = codes "stop-sigterm"
sub_state_text StopSigkill = codes "stop-sigkill"
sub_state_text Failed = codes "failed"
sub_state_text AutoRestart = codes "auto-restart"
sub_state_text Active = codes "active"

-- the active state of a unit in this sub state
abbrev pub active_state_of : SubState → ActiveState
active_state_of Dead = active.Inactive
active_state_of Failed = active.Failed
active_state_of StartPre = active.Activating
active_state_of Start = active.Activating
active_state_of AutoRestart = active.Activating
active_state_of Stop = active.Deactivating
active_state_of StopSigterm = active.Deactivating
active_state_of StopSigkill = active.Deactivating
active_state_of Running = active.Active
active_state_of Exited = active.Active
active_state_of Active = active.Active

-- the word for an active state
abbrev pub active_state_text : ActiveState → List ℕ
active_state_text active.Inactive = codes "inactive"
active_state_text active.Activating = codes "activating"
active_state_text active.Active = codes "active"
active_state_text active.Deactivating = codes "deactivating"
active_state_text active.Failed = codes "failed"

-- the word for a result
abbrev pub result_text : UnitResult → List ℕ
result_text result.Success = codes "success"
result_text result.ExitCode = codes "exit-code"
result_text result.Signal = codes "signal"
result_text result.Timeout = codes "timeout"
result_text result.Lost = codes "lost"
result_text result.StartLimitHit = codes "start-limit-hit"
result_text result.Dependency = codes "dependency"
result_text result.NotLoaded = codes "not-loaded"
result_text result.Resources = codes "resources"

-- a unit of which the state holds nothing
abbrev pub dead_unit : UnitState
dead_unit =
    record { sub = Dead; result = result.Success; main = None; control = None; index = 0; deadline = None; window = None; stop_asked = false; last = None }

abbrev pub is_dead : SubState → Bool
is_dead Dead = true
is_dead other = false

abbrev pub is_success : UnitResult → Bool
is_success result.Success = true
is_success other = false

-- nothing is held of the unit: it equals the dead one
abbrev pub holds_nothing : UnitState → Bool
holds_nothing u = (unit_state.ghosts).eq u dead_unit

-- there is a number, and it is this one
abbrev pub is_number : ℕ → Option ℕ → Bool
is_number number o = option_map_or (λ n. n == number) o false

-- values by the names of units
abbrev pub ByUnit : Type 0 → Type 0
ByUnit A = map.FinMap (slice_cmp nat_cmp) A

-- the state of a unit: one of which nothing is held is dead
abbrev pub state_of_unit : ByUnit UnitState → List ℕ → UnitState
state_of_unit units unit = unwrap_or (map.get units unit) dead_unit

-- the units, with this state of one; a dead one isn't held
abbrev pub with_unit : ByUnit UnitState → List ℕ → UnitState → ByUnit UnitState
with_unit units unit u = if holds_nothing u then map.remove units unit else map.insert units unit u

-- no unit is held that equals the dead one
abbrev pub AreTidyUnits : ByUnit UnitState → Type 0
AreTidyUnits units = (unit : List ℕ) → map.get units unit ≢ Some dead_unit

-- an action for the children: start a process under this number, with its words and environment; or signal one
pub data Action : Type 0 where
  SpawnProcess : (number : ℕ) (words environment : List (List ℕ)) → Action
  SendSignal : (number : ℕ) (signal : Signal) → Action
