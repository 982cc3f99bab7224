-- What it means that a finished job isn't repeated: a oneshot that has finished starts again only if a command calls for it.
-- Follows systemd.service(5), "Type=oneshot" and "RemainAfterExit=".
-- The laws that a finished job is not repeated, of runs and over all crashes, depend on this file.
use Rattle.std.specs.Prelude.{◌≡◌, ◌≢◌, ⊤, ℕ, Bool, true, false, ◌||◌, ◌&&◌, List, None}
use Rattle.um_model.specs.Ends.{is_starting, is_stopping}
use Rattle.um_model.specs.Service.{is_dead, is_success, state_of_unit}
use Rattle.um_model.specs.Jobs.{jobs_of_unit}
use Rattle.um_model.specs.Machine.{State, Command, Commanded, Input, Reply, Done, Changes, Run, goes, settings_in}
use Rattle.um_model.specs.declared.service.SubState.{SubState}
use Rattle.um_model.specs.declared.service.SubState.TheVariants.{Dead, Exited, Stop, StopSigterm, StopSigkill, Failed}
use Rattle.um_model.specs.declared.service.UnitState.{UnitState}
use Rattle.um_model.specs.declared.transition.UnitKind.TheVariants.{Oneshot}

abbrev pub is_exited : SubState → Bool
is_exited Exited = true
is_exited other = false

-- exited, or dead with success
abbrev pub has_finished : UnitState → Bool
has_finished u = is_exited u.sub || is_dead u.sub && is_success u.result

-- from one state to the other the oneshot finished: it came from start-pre, start or a stop state to exited, or to dead with success
pub record Finishes (s t : State) (unit : List ℕ) : Type 0 where
  pub kind : (settings_in s.loaded unit).kind ≡ Oneshot
  pub busy : (is_starting (state_of_unit s.units unit).sub || is_stopping (state_of_unit s.units unit).sub) ≡ true
  pub finished : has_finished (state_of_unit t.units unit) ≡ true

-- dead, failed or exited, or stopping by request and not yet down
abbrev pub is_down_or_done : SubState → (stop_asked : Bool) → Bool
is_down_or_done Dead stop_asked = true
is_down_or_done Failed stop_asked = true
is_down_or_done Exited stop_asked = true
is_down_or_done Stop stop_asked = stop_asked
is_down_or_done StopSigterm stop_asked = stop_asked
is_down_or_done StopSigkill stop_asked = stop_asked
is_down_or_done other stop_asked = false

-- the unit isn't on the way to another start: no start job of it is pending, and it neither starts, nor runs, nor waits for a restart
pub record IsAtRest (s : State) (unit : List ℕ) : Type 0 where
  pub none : (jobs_of_unit s.pending unit).start ≡ None
  pub rests : is_down_or_done (state_of_unit s.units unit).sub (state_of_unit s.units unit).stop_asked ≡ true

-- a command was done, and its plan has a start of the unit, of which none was pending
pub record PutsStart (unit : List ℕ) (s : State) (input : Input) (reply : Reply) : Type 0 where
  pub command : Command
  pub is : input.event ≡ Commanded command
  pub done : reply ≡ Done
  pub planned : State
  pub changes : Changes input.profile s command planned
  pub none : (jobs_of_unit s.pending unit).start ≡ None
  pub one : (jobs_of_unit planned.pending unit).start ≢ None

-- no command of the run puts a start of the unit
abbrev pub PutsNoStart : (unit : List ℕ) → {size : ℕ} {s t : State} {inputs : List Input} → Run size s inputs t → Type 0
PutsNoStart unit Run.rests = ⊤
PutsNoStart unit (goes {s = s} {input = input} reply actions step run) = (¬ PutsStart unit s input reply) × PutsNoStart unit run
