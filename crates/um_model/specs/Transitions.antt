-- The service table: the change of a unit by an event, by its sub state, a clause for each row; the first row that fits counts.
-- Follows systemd.service(5), "Type=", "ExecStartPre=", "ExecStart=", "ExecStop=", "TimeoutStartSec=", "TimeoutStopSec=", "RestartSec=".
-- The machine depends on this file.
use Rattle.std.specs.Prelude.{◌≡◌, ℕ, ◌+◌, ◌&&◌, ◌||◌, ◌⊎◌, Bool, true, false, not, if◌then◌else◌, List, [], ◌∷◌, ◌++◌, map, slice_get, nat_lt, Option, Some, None, is_some}
use Rattle.std.specs.Option.{option_to_list, option_map}
use Rattle.um_model.specs.Moments.{process_limit}
use Rattle.um_model.specs.Commands.{Command}
use Rattle.um_model.specs.Substitution.{Variable, AreSubstituted}
use Rattle.um_model.specs.Limit.{counted}
use Rattle.um_model.specs.Service.{Action, SpawnProcess, SendSignal, active_state_of, is_success, is_dead}
use Rattle.um_model.specs.Settings.{ServiceSettings, commands_in, has_place, has_dash, environment_texts}
use Rattle.um_model.specs.Ends.{is_clean, is_told, unclean_result, or_later, is_restart_wanted, is_starting, is_failed, has_one_command}
use Rattle.um_model.specs.declared.limit.Counted.{Counted}
use Rattle.um_model.specs.declared.service.ActiveState.{ActiveState}
use Rattle.um_model.specs.declared.service.ActiveState.TheVariants.{Activating, Active as IsActive, Deactivating}
use Rattle.um_model.specs.declared.service.End.{End}
use Rattle.um_model.specs.declared.service.Signal as sent
use Rattle.um_model.specs.declared.service.Signal.TheVariants.{Term, Kill}
use Rattle.um_model.specs.declared.service.SubState.{SubState}
use Rattle.um_model.specs.declared.service.SubState.TheVariants.{Dead, StartPre, Start, Running, Exited, Stop, StopSigterm, StopSigkill, Failed}
use Rattle.um_model.specs.declared.service.SubState.TheVariants.{AutoRestart, Active}
use Rattle.um_model.specs.declared.service.UnitResult.TheVariants as result
use Rattle.um_model.specs.declared.service.UnitState.{UnitState}
use Rattle.um_model.specs.declared.transition.Around.{Around}
use Rattle.um_model.specs.declared.transition.Change.{Change}
use Rattle.um_model.specs.declared.transition.CommandList.{CommandList}
use Rattle.um_model.specs.declared.transition.CommandList.TheVariants.{OfStartPre, OfStart, OfStop}
use Rattle.um_model.specs.declared.transition.Order.{Order}
use Rattle.um_model.specs.declared.transition.Order.TheVariants.{Nothing, Spawn, Signal}
use Rattle.um_model.specs.declared.transition.Process.TheVariants.{Main, Control}
use Rattle.um_model.specs.declared.transition.StartJob.TheVariants.{Stays, Ends, Fails}
use Rattle.um_model.specs.declared.transition.UnitEvent.{UnitEvent}
use Rattle.um_model.specs.declared.transition.UnitEvent.TheVariants.{StartBegins, StopBegins, BoundStop, Executed, MainEnds, ControlEnds, DeadlinePasses, Reset}
use Rattle.um_model.specs.declared.transition.UnitKind.{UnitKind}
use Rattle.um_model.specs.declared.transition.UnitKind.TheVariants.{Simple, Exec, Oneshot, Target}

-- the deadline a span after the moment; none if the span never ends
abbrev pub deadline_after : ℕ → Option ℕ → Option ℕ
deadline_after t span = option_map (λ s. t + s) span

-- there is a process number left
abbrev pub has_number : Around → Bool
has_number c = nat_lt c.next process_limit

-- a process of the unit is live
abbrev pub is_live : UnitState → Bool
is_live u = is_some u.main || is_some u.control

-- a unit that starts or runs has a main process, one that its ExecStartPre= commands prepare or its ExecStop= commands stop a control
-- process, and one whose processes got a signal to end still has one of them
abbrev pub has_its_process : SubState → UnitState → Bool
has_its_process StartPre u = is_some u.control
has_its_process Start u = is_some u.main
has_its_process Running u = is_some u.main
has_its_process Stop u = is_some u.control
has_its_process StopSigterm u = is_live u
has_its_process StopSigkill u = is_live u
has_its_process Dead u = true
has_its_process Exited u = true
has_its_process Failed u = true
has_its_process AutoRestart u = true
has_its_process Active u = true

abbrev pub HasItsProcess : UnitState → Type 0
HasItsProcess u = has_its_process u.sub u ≡ true

-- the unit is now this, and nothing else follows
abbrev pub just : UnitState → Change
just u = record { unit = u; order = Nothing; start = Stays; stop_ends = false }

-- the change, with an order for the unit's processes
abbrev pub asking : Order → Change → Change
asking o c = record c { order = o }

-- the change, and the running start job of the unit ends
abbrev pub start_ends : Change → Change
start_ends c = record c { start = Ends }

-- the change, and the running start job of the unit fails
abbrev pub start_fails : Change → Change
start_fails c = record c { start = Fails }

-- the change, and the running stop job of the unit ends
abbrev pub stop_ends : Change → Change
stop_ends c = record c { stop_ends = true }

-- the unit rests for good: dead if all went well, else failed
abbrev pub rests_for_good : UnitState → Change
rests_for_good u = stop_ends (just (record u { sub = if is_success u.result then Dead else Failed; main = None; control = None; deadline = None }))

-- the unit waits for its restart
abbrev pub waits_to_restart : ServiceSettings → Around → UnitState → Change
waits_to_restart s c u =
    stop_ends (just (record u { sub = AutoRestart; main = None; control = None; deadline = deadline_after c.moment s.restart_delay }))

-- the unit rests; if no stop was requested it may wait for a restart instead
abbrev pub rests : ServiceSettings → Around → UnitState → Change
rests s c u = if not u.stop_asked && not c.stop_waits && is_restart_wanted s u then waits_to_restart s c u else rests_for_good u

-- its live processes get SIGTERM; without a live process it rests
abbrev pub terminates : ServiceSettings → Around → UnitState → Change
terminates s c u =
    if is_live u then asking (Signal Term) (just (record u { sub = StopSigterm; deadline = deadline_after c.moment s.timeout_stop })) else rests s c u

-- the ExecStop= command at this place is started; without a number for it the unit is terminated
abbrev pub stop_command : ServiceSettings → Around → UnitState → ℕ → Change
stop_command s c u i =
    if has_number c
    then asking (Spawn OfStop i) (just (record u { sub = Stop; control = Some c.next; index = i; deadline = deadline_after c.moment s.timeout_stop }))
    else terminates s c (record u { result = result.Resources; index = i })

-- the unit goes down by its ExecStop= commands from this place on; if there is none it is terminated
abbrev pub winds_down : ServiceSettings → Around → UnitState → ℕ → Change
winds_down s c u i = if has_place s.stop i then stop_command s c u i else terminates s c u

-- the unit starts in this way if there is a number for the process; else the start fails
abbrev pub starts_so : Around → UnitState → Change → Change
starts_so c u change = if has_number c then change else start_fails (rests_for_good (record u { result = result.Resources }))

-- the first ExecStart= command is started as the main process, and the start goes on
abbrev pub first_command : ServiceSettings → Around → UnitState → Change
first_command s c u =
    starts_so c u (asking (Spawn OfStart 0) (just (record u { sub = Start; main = Some c.next; deadline = deadline_after c.moment s.timeout_start })))

-- a start by the kind of the unit: a simple service runs once its main process is started, a oneshot without a command has exited
abbrev pub start_of : UnitKind → ServiceSettings → Around → UnitState → Change
start_of Target s c u = start_ends (just (record u { sub = Active; deadline = None }))
start_of Simple s c u = starts_so c u (start_ends (asking (Spawn OfStart 0) (just (record u { sub = Running; main = Some c.next; deadline = None }))))
start_of Exec s c u = first_command s c u
start_of Oneshot s c u = if has_place s.start 0 then first_command s c u else start_ends (just (record u { sub = Exited; deadline = None }))

-- the ExecStartPre= command at this place is started as the control process, and the start goes on; it has its deadline from the first one
abbrev pub pre_command : Around → UnitState → ℕ → Change
pre_command c u i =
    starts_so c (record u { index = i }) (asking (Spawn OfStartPre i) (just (record u { sub = StartPre; control = Some c.next; index = i })))

-- a start by its first ExecStartPre= command, or by the kind of the unit if it has none
abbrev pub prepares : ServiceSettings → Around → UnitState → Change
prepares s c u =
    if has_place s.start_pre 0 then pre_command c (record u { deadline = deadline_after c.moment s.timeout_start }) 0 else start_of s.kind s c u

-- the limit refuses a start, or lets it through and has this window after it
abbrev pub starts_if : Bool → Option Counted → ServiceSettings → Around → UnitState → Change
starts_if false window s c u = start_fails (just (record u { sub = Failed; result = result.StartLimitHit; deadline = None }))
starts_if true window s c u = prepares s c (record u { result = result.Success; stop_asked = false; index = 0; last = None; window = window })

-- a start of a unit at rest
abbrev pub starts : ServiceSettings → Around → UnitState → Change
starts s c u = let answer = counted s.limit_interval s.limit_burst c.moment u.window in starts_if answer.0 answer.1 s c u

-- all ExecStartPre= commands are done: the unit starts by its kind, if it can be loaded by then; else the start fails
abbrev pub starts_prepared : ServiceSettings → Around → UnitState → Change
starts_prepared s c u =
    if c.loadable then start_of s.kind s c (record u { index = 0 }) else start_fails (rests s c (record u { result = result.NotLoaded }))

-- an ExecStartPre= command is done: the next one is started, or it was the last
abbrev pub pre_goes_on : ServiceSettings → Around → UnitState → Change
pre_goes_on s c u = if has_place s.start_pre (u.index + 1) then pre_command c u (u.index + 1) else starts_prepared s c u

-- the main process ended well: the unit has exited, or goes down
abbrev pub exits : ServiceSettings → Around → UnitState → Change
exits s c u = if s.remains then just (record u { sub = Exited; deadline = None }) else winds_down s c u 0

-- the oneshot's next command is started as its main process
abbrev pub next_command : Around → UnitState → ℕ → Change
next_command c u i = starts_so c (record u { index = i }) (asking (Spawn OfStart i) (just (record u { main = Some c.next; index = i })))

-- the main process ended well during the start: a oneshot goes on with its next command, else the start is done
abbrev pub start_goes_on : UnitKind → ServiceSettings → Around → UnitState → Change
start_goes_on Oneshot s c u = if has_place s.start (u.index + 1) then next_command c u (u.index + 1) else start_ends (exits s c u)
start_goes_on other s c u = start_ends (exits s c u)

-- the unit rests once no process of it is live
abbrev pub rests_unless_live : ServiceSettings → Around → UnitState → Change
rests_unless_live s c u = if is_live u then just u else rests s c u

-- an unclean end sets the result
abbrev pub noted : UnitState → End → Bool → UnitState
noted u e clean = if clean then u else record u { result = or_later u.result (unclean_result e) }

-- the unit without its main process, which ended in this way
abbrev pub without_main : ServiceSettings → UnitState → End → UnitState
without_main s u e = noted (record u { main = None; last = Some e }) e (is_clean s u Main e)

-- the unit without its control process, which ended in this way
abbrev pub without_control : ServiceSettings → UnitState → End → UnitState
without_control s u e = noted (record u { control = None }) e (is_clean s u Control e)

-- a deadline has passed: the result becomes `timeout`, if it was success
abbrev pub timed_out : UnitState → UnitState
timed_out u = record u { result = or_later u.result result.Timeout }

-- a stop was requested
abbrev pub told_to_stop : UnitState → UnitState
told_to_stop u = record u { stop_asked = true }

-- the unit is dead at once
abbrev pub dies : UnitState → Change
dies u = stop_ends (just (record u { sub = Dead; deadline = None }))

-- its failure is forgotten, and how often it was started
abbrev pub forgiven : UnitState → UnitState
forgiven u = record u { sub = if is_failed u.sub then Dead else u.sub; result = result.Success; window = None }

-- ---- the table

-- the control process is the command at the index in this list, and ended well: cleanly, or as the command's `-` allows
abbrev pub is_control_done : ServiceSettings → CommandList → UnitState → End → Bool
is_control_done s which u e = is_clean s u Control e || is_told e && has_dash s which u.index

-- the start doesn't end in time
abbrev pub start_times_out : ServiceSettings → Around → UnitState → Change
start_times_out s c u = start_fails (terminates s c (record u { result = result.Timeout }))

-- the rows: the change in this active state and sub state by this event; by the last row the unit stays as it is
abbrev pub row : ServiceSettings → Around → UnitState → ActiveState → SubState → UnitEvent → Change
row s c u _ sub Reset = just (forgiven u)
row s c u IsActive sub StartBegins = start_ends (just u)
row s c u _ Dead StartBegins = starts s c u
row s c u _ Failed StartBegins = starts s c u
row s c u _ AutoRestart StartBegins = starts s c u
row s c u _ StartPre (ControlEnds e) =
    if is_control_done s OfStartPre u e then pre_goes_on s c (record u { control = None }) else start_fails (rests s c (without_control s u e))
row s c u _ StartPre DeadlinePasses = start_times_out s c u
row s c u _ Start Executed = if has_one_command s.kind then start_ends (just (record u { sub = Running; deadline = None })) else just u
row s c u _ Start (MainEnds e) =
    if is_clean s u Main e then start_goes_on s.kind s c (without_main s u e) else start_fails (rests s c (without_main s u e))
row s c u _ Start DeadlinePasses = start_times_out s c u
row s c u _ Running (MainEnds e) = if is_clean s u Main e then exits s c (without_main s u e) else winds_down s c (without_main s u e) 0
row s c u _ Active StopBegins = dies u
row s c u _ AutoRestart StopBegins = dies u
row s c u IsActive sub StopBegins = winds_down s c (told_to_stop u) 0
row s c u _ StartPre StopBegins = terminates s c (told_to_stop u)
row s c u _ Start StopBegins = terminates s c (told_to_stop u)
row s c u Deactivating sub StopBegins = just (told_to_stop u)
row s c u _ Dead StopBegins = stop_ends (just u)
row s c u _ Failed StopBegins = stop_ends (just u)
row s c u _ Stop (ControlEnds e) =
    if is_control_done s OfStop u e then winds_down s c (record u { control = None }) (u.index + 1) else terminates s c (without_control s u e)
row s c u _ Stop (MainEnds e) = just (without_main s u e)
row s c u Deactivating sub (MainEnds e) = rests_unless_live s c (without_main s u e)
row s c u Deactivating sub (ControlEnds e) = rests_unless_live s c (without_control s u e)
row s c u _ Stop DeadlinePasses = terminates s c (timed_out u)
row s c u _ StopSigterm DeadlinePasses =
    asking (Signal Kill) (just (record (timed_out u) { sub = StopSigkill; deadline = deadline_after c.moment s.timeout_stop }))
row s c u _ StopSigkill DeadlinePasses = rests_for_good (timed_out u)
row s c u _ sub event = just u

-- active or activating
abbrev pub is_going : ActiveState → Bool
is_going IsActive = true
is_going Activating = true
is_going other = false

-- a start that has begun fails
abbrev pub fails_start : SubState → Change → Change
fails_start sub c = record c { start = if is_starting sub then Fails else c.start }

-- the table: a unit that can't be loaded isn't started; a bound stop of a unit that is active or activating is as a stop job that begins,
-- except that a start that has begun fails by it
abbrev pub transition : ServiceSettings → Around → UnitState → UnitEvent → Change
transition s c u StartBegins =
    if c.loadable then row s c u (active_state_of u.sub) u.sub StartBegins else start_fails (just (record u { result = result.NotLoaded }))
transition s c u BoundStop =
    if is_going (active_state_of u.sub) then fails_start u.sub (row s c u (active_state_of u.sub) u.sub StopBegins) else just u
transition s c u event = row s c u (active_state_of u.sub) u.sub event

-- ---- orders as actions

-- the live process numbers of a unit, ascending: the main process is the elder
abbrev pub live_numbers : UnitState → List ℕ
live_numbers u = option_to_list u.main ++ option_to_list u.control

-- the words that a command is started with: its variables stand for their values, unless it is written with `:`
pub data AreStarted (environment : List Variable) : Option Command → List (List ℕ) → Type 0 where
  no_command : AreStarted environment None []
  substituted : (c : Command) (words : List (List ℕ)) → c.substitutes ≡ true → AreSubstituted environment c.words words
      → AreStarted environment (Some c) words
  as_written : (c : Command) → c.substitutes ≡ false → AreStarted environment (Some c) c.words

-- an order as actions: a process is started under the next number; a signal goes to each live one
pub data AreActions (s : ServiceSettings) (c : Around) (u : UnitState) : Order → List Action → Type 0 where
  nothing : AreActions s c u Nothing []
  spawn : (which : CommandList) (i : ℕ) (words : List (List ℕ)) → AreStarted s.environment (slice_get (commands_in s which) i) words
      → AreActions s c u (Spawn which i) (SpawnProcess c.next words (environment_texts s) ∷ [])
  signals : (signal : sent.Signal) → AreActions s c u (Signal signal) (map (λ n. SendSignal n signal) (live_numbers u))

-- how many process numbers an order takes
abbrev pub spawned : Order → ℕ
spawned (Spawn which i) = 1
spawned other = 0

-- the number is that of one of the unit's live processes
abbrev pub HasNumber : UnitState → ℕ → Type 0
HasNumber u n = (u.main ≡ Some n) ⊎ (u.control ≡ Some n)

-- a unit came to rest, as a test: it is dead or failed, and wasn't in that sub state before
abbrev pub comes_to_rest : (before after : SubState) → Bool
comes_to_rest before Dead = not (is_dead before)
comes_to_rest before Failed = not (is_failed before)
comes_to_rest before other = false
