-- The machine is never stuck: after any inputs a pending job waits for a live process.
use Rattle.std.proofs.Common.{ℕ, ◌≡◌, ◌≢◌, ◌⊎◌, ◌∙◌, ◌||◌, Bool, true, false, true≢false, cond, is_some, List, ◌∷◌, ◌++◌, Option, Some, None, unwrap_or, refl, sym, ap, subst, subst₂, inl, inr}
use Rattle.std.specs.FinMap as map
use Rattle.um_model.specs.declared.profile.Profile.{Profile}
use Rattle.um_model.specs.Service.{Action, ByUnit, is_number, active_state_of, dead_unit, state_of_unit}
use Rattle.um_model.specs.Settings.{ServiceSettings}
use Rattle.um_model.specs.Ends.{is_starting, is_stopping}
use Rattle.um_model.specs.Transitions.{transition, HasNumber, has_its_process, HasItsProcess}
use Rattle.um_model.specs.Jobs.{Job, stop_job, start_job, job_of, jobs, no_jobs, jobs_of_unit, is_active, is_up, started, stopped, jobs_for, unless_waiting, cancelled, without_start, state_of_job, IsPending, of_one_unit, ComesBefore, IsReady, unless_running, start_left, jobs_left}
use Rattle.um_model.specs.Timers.{Timers}
use Rattle.um_model.specs.Machine.{State, Command, Happening, Event, Input, Reply, IsBefore, TakesAlong, Becomes, Carries, change_of, changed, around, begins, begun, IsStill, FallDown, all_told, told_next, Happens, AreReset, all_reset, reset_next, Settles, begins_next, unit_asked, with_plan, jobs_asked, scene_at, Changes, puts, links, removes, reloads, plans, demands_nothing, cancels, installs, Does, units_reset, end_of, Restarts, ComesDue, Fires, FiresOne, booted, Follows, ends, reports, ticks, boots, obeys, meets, moment_of, Step, refused, crowded_out, idle, taken, Run, goes, settings_in, isnt_put, TakesEffect}
use Rattle.um_model.specs.Live.{WaitsFor, IsNotStuck}
use Rattle.um_model.specs.Plan.{IsPlan}
use Rattle.um_model.specs.Servable.{IsBlank, IsFree}
use Rattle.um_model.specs.declared.dependencies.Demand.{Demand}
use Rattle.um_model.specs.declared.dependencies.Demand.TheVariants as demands
use Rattle.um_model.specs.declared.jobs.JobKind.{JobKind}
use Rattle.um_model.specs.declared.jobs.JobKind.TheVariants as job
use Rattle.um_model.specs.declared.jobs.JobState.{JobState}
use Rattle.um_model.specs.declared.jobs.JobState.TheVariants.{Waiting, Running}
use Rattle.um_model.specs.declared.jobs.UnitJobs.{UnitJobs}
use Rattle.um_model.specs.declared.service.ActiveState.{ActiveState}
use Rattle.um_model.specs.declared.service.ActiveState.TheVariants as active
use Rattle.um_model.specs.declared.service.End.{End}
use Rattle.um_model.specs.declared.service.SubState.{SubState}
use Rattle.um_model.specs.declared.service.SubState.TheVariants as sub
use Rattle.um_model.specs.declared.service.UnitState.{UnitState}
use Rattle.um_model.specs.declared.transition.Around.{Around}
use Rattle.um_model.specs.declared.transition.Change.{Change}
use Rattle.um_model.specs.declared.transition.StartJob.{StartJob}
use Rattle.um_model.specs.declared.transition.StartJob.TheVariants.{Stays, Ends, Fails}
use Rattle.um_model.specs.declared.transition.UnitEvent.{UnitEvent}
use Rattle.um_model.specs.declared.transition.UnitEvent.TheVariants.{StartBegins, StopBegins, BoundStop, Executed, MainEnds, ControlEnds, DeadlinePasses, Reset}
use Rattle.um_laws.proofs.AlongLaws.{before_or_not, taken_along_or_not, with_result_dependency}
use Rattle.um_laws.proofs.CycleLaws.{a_first_job}
use Rattle.um_laws.proofs.FreeLaws.{no_cycle_after}
use Rattle.um_laws.proofs.PlannedLaws.{counts_some}
use Rattle.um_laws.proofs.SceneLaws.{finite_scene}
use Rattle.um_model.proofs.TimersLaws.{same_name}
use Rattle.um_model.proofs.UnitLaws.{state_here, state_apart, jobs_here, jobs_apart}
use Rattle.um_laws.proofs.TransitionLaws.{keeps_process, same_held}
use Rattle.um_laws.proofs.FitLaws.{StartFits, StopFits, begun_start_fits, start_fits, begun_stop_fits, stop_fits}
use Rattle.um_model.proofs.Forms.{with_running}

-- a unit and its jobs fit: it has its process, a start job runs only in start-pre or start, a stop job only in a stop state, and not both
pub record Fits (u : UnitState) (j : UnitJobs) : Type 0 where
  pub held : HasItsProcess u
  pub starting : j.start ≡ Some Running → is_starting u.sub ≡ true
  pub stopping : j.stop ≡ Some Running → is_stopping u.sub ≡ true
  pub apart : j.start ≡ Some Running → j.stop ≡ None

-- every unit and its jobs fit
abbrev pub AllFit : State → Type 0
AllFit s = (unit : List ℕ) → Fits (state_of_unit s.units unit) (jobs_of_unit s.pending unit)

-- ---- one unit

none_runs : None ≡ Some Running → ⊥
none_runs e = cc

waits_runs : Some Waiting ≡ Some Running → ⊥
waits_runs e = cc

some_none : (o : Option JobState) (x : JobState) → o ≡ None → o ≡ Some x → ⊥
some_none o x e f = cc

-- a job that is left running ran
left_running : (o : Option JobState) → unless_running o ≡ Some Running → ⊥
left_running None e = none_runs e
left_running (Some Waiting) e = waits_runs e
left_running (Some Running) e = none_runs e

start_left_running : (start : StartJob) (o : Option JobState) → start_left start o ≡ Some Running → (start ≡ Stays) × (o ≡ Some Running)
start_left_running Stays o e = (refl, e)
start_left_running Ends o e = absurd (left_running o e)
start_left_running Fails o e = absurd (left_running o e)

stop_left_running : (ends : Bool) (o : Option JobState) → cond ends (unless_running o) o ≡ Some Running → (ends ≡ false) × (o ≡ Some Running)
stop_left_running true o e = absurd (left_running o e)
stop_left_running false o e = (refl, e)

left_of_none : (ends : Bool) (o : Option JobState) → o ≡ None → cond ends (unless_running o) o ≡ None
left_of_none true o e = ap unless_running e
left_of_none false o e = e

-- a unit and the jobs left to it after a change fit
left_fits : (c : Change) (j : UnitJobs) → HasItsProcess c.unit → (j.start ≡ Some Running → StartFits c) → (j.stop ≡ Some Running → StopFits c)
    → (j.start ≡ Some Running → j.stop ≡ None) → Fits c.unit (jobs_left c.start c.stop_ends j)
left_fits c j held starting stopping apart = record {
  held = held;
  starting = λ e. let l = start_left_running c.start j.start e in starting l.1 l.0;
  stopping = λ e. let l = stop_left_running c.stop_ends j.stop e in stopping l.1 l.0;
  apart = λ e. left_of_none c.stop_ends j.stop (apart (start_left_running c.start j.start e).1);
}

-- a command leaves no job running that didn't run, and no stop job beside a start job that runs
record KeepsRunning (j k : UnitJobs) : Type 0 where
  starting : k.start ≡ Some Running → (j.start ≡ Some Running) × (j.stop ≡ None → k.stop ≡ None)
  stopping : k.stop ≡ Some Running → j.stop ≡ Some Running

waits_unless : (b : Bool) → cond b None (Some Waiting) ≡ Some Running → ⊥
waits_unless true e = none_runs e
waits_unless false e = waits_runs e

waits_if : (b : Bool) → cond b (Some Waiting) None ≡ Some Running → ⊥
waits_if true e = waits_runs e
waits_if false e = none_runs e

started_keeps : (a : ActiveState) (o p : Option JobState) → KeepsRunning (jobs o p) (started a o p)
started_keeps a o (Some p) = record { starting = λ e. (e, λ n. n); stopping = λ e. e }
started_keeps a (Some Running) None = record { starting = λ e. absurd (waits_runs e); stopping = λ e. e }
started_keeps a None None = record { starting = λ e. absurd (waits_unless (is_active a) e); stopping = λ e. e }
started_keeps a (Some Waiting) None = record { starting = λ e. absurd (waits_unless (is_active a) e); stopping = λ e. absurd (none_runs e) }

stopped_keeps : (a : ActiveState) (o p : Option JobState) → KeepsRunning (jobs o p) (stopped a o)
stopped_keeps a None p = record { starting = λ e. absurd (none_runs e); stopping = λ e. absurd (waits_if (is_up a) e) }
stopped_keeps a (Some o) p = record { starting = λ e. absurd (none_runs e); stopping = λ e. e }

restarted_keeps : (o p : Option JobState) → KeepsRunning (jobs o p) (jobs (Some (unwrap_or o Waiting)) (Some Waiting))
restarted_keeps None p = record { starting = λ e. absurd (waits_runs e); stopping = λ e. absurd (waits_runs e) }
restarted_keeps (Some o) p = record { starting = λ e. absurd (waits_runs e); stopping = λ e. e }

if_keeps : (b : Bool) (j k l : UnitJobs) → KeepsRunning j k → KeepsRunning j l → KeepsRunning j (cond b k l)
if_keeps true j k l h g = h
if_keeps false j k l h g = g

counted_keeps : (counted : Option Demand) (a : ActiveState) (j : UnitJobs) → KeepsRunning j (jobs_for counted a j)
counted_keeps None a j = record { starting = λ e. (e, λ n. n); stopping = λ e. e }
counted_keeps (Some demands.Start) a j = started_keeps a j.stop j.start
counted_keeps (Some demands.Stop) a j = stopped_keeps a j.stop j.start
counted_keeps (Some demands.Restart) a j = if_keeps (is_up a) j (jobs (Some (unwrap_or j.stop Waiting)) (Some Waiting)) (started a j.stop j.start) (restarted_keeps j.stop j.start) (started_keeps a j.stop j.start)

unless_waiting_runs : (o : Option JobState) → unless_waiting o ≡ Some Running → o ≡ Some Running
unless_waiting_runs None e = absurd (none_runs e)
unless_waiting_runs (Some Running) e = refl
unless_waiting_runs (Some Waiting) e = absurd (none_runs e)

-- a cancel leaves the jobs that run
cancel_keeps : (o p : Option JobState) → KeepsRunning (jobs o p) (cancelled (jobs o p))
cancel_keeps o p = record { starting = λ e. (unless_waiting_runs p e, λ n. ap unless_waiting n); stopping = λ e. unless_waiting_runs o e }

-- a unit fits its jobs after a command as before
command_fits : (u : UnitState) (j k : UnitJobs) → KeepsRunning j k → Fits u j → Fits u k
command_fits u j k keeps fits = record {
  held = fits.held;
  starting = λ e. fits.starting (keeps.starting e).0;
  stopping = λ e. fits.stopping (keeps.stopping e);
  apart = λ e. let was = keeps.starting e in was.1 (fits.apart was.0);
}

-- ---- the state

-- with another state and other jobs of one unit
fits_at : (s : State) (unit : List ℕ) (c : Change)
    → ((other : List ℕ) → other ≢ unit → Fits (state_of_unit s.units other) (jobs_of_unit s.pending other))
    → Fits c.unit (jobs_left c.start c.stop_ends (jobs_of_unit s.pending unit)) → AllFit (changed s unit c)
fits_at s unit c others here other = elim (same_name other unit) as (λ _. Fits (state_of_unit (changed s unit c).units other) (jobs_of_unit (changed s unit c).pending other)) [
  | inl same ↦ subst (λ q. Fits (state_of_unit (changed s unit c).units q) (jobs_of_unit (changed s unit c).pending q)) (sym same)
      (subst₂ Fits (sym (state_here s.units unit c.unit)) (sym (jobs_here s.pending unit (jobs_left c.start c.stop_ends (jobs_of_unit s.pending unit)))) here)
  | inr apart ↦ subst₂ Fits (sym (state_apart s.units unit c.unit other apart))
      (sym (jobs_apart s.pending unit (jobs_left c.start c.stop_ends (jobs_of_unit s.pending unit)) other apart)) (others other apart)
]

planned_fits : (s : State) (unit : List ℕ) (k : UnitJobs) → KeepsRunning (jobs_of_unit s.pending unit) k → AllFit s → AllFit (with_plan s unit k)
planned_fits s unit k keeps fits other =
    elim (same_name other unit) as (λ _. Fits (state_of_unit s.units other) (jobs_of_unit (with_plan s unit k).pending other)) [
      | inl same ↦ subst (λ q. Fits (state_of_unit s.units q) (jobs_of_unit (with_plan s unit k).pending q)) (sym same)
          (subst (Fits (state_of_unit s.units unit)) (sym (jobs_here s.pending unit k))
          (command_fits (state_of_unit s.units unit) (jobs_of_unit s.pending unit) k keeps (fits unit)))
      | inr apart ↦ subst (Fits (state_of_unit s.units other)) (sym (jobs_apart s.pending unit k other apart)) (fits other)
    ]

-- a plan leaves all fitting
plan_fits : (s : State) (named : List ℕ) (demand : Demand) (after : ByUnit UnitJobs) → IsPlan (scene_at s named) (demand, named) after → AllFit s → AllFit (record s { pending = after })
plan_fits s named demand after plan fits unit =
    let scene = finite_scene s named in
    let c = counts_some (scene_at s named) scene.0 scene.1 (demand, named) unit in
    let u = state_of_unit s.units unit in
    let j = jobs_of_unit s.pending unit in
    subst (Fits u) (sym (plan.jobs unit c.0 c.1))
    (command_fits u j (jobs_for c.0 (active_state_of u.sub) j) (counted_keeps c.0 (active_state_of u.sub) j) (fits unit))

-- a command's change leaves all fitting
changed_fits : {profile : Profile} (s : State) (command : Command) (u : State) → Changes profile s command u → AllFit s → AllFit u
changed_fits s command u (puts e) fits = fits
changed_fits s command u (links e) fits = fits
changed_fits s command u (removes e) fits = fits
changed_fits s command u reloads fits = fits
changed_fits s command u (installs h) fits = fits
changed_fits s command u (cancels {asked = asked}) fits =
    planned_fits s (unit_asked s asked) (cancelled (jobs_asked s asked)) (cancel_keeps _ _) fits
changed_fits s command u (demands_nothing none) fits = fits
changed_fits s command u (plans {asked = asked} {demand = demand} {after = after} is plan) fits = plan_fits s (unit_asked s asked) demand after plan fits

-- so does an automatic restart
restart_keeps : (j : UnitJobs) → j ≡ no_jobs → KeepsRunning j (jobs None (Some Waiting))
restart_keeps j is = record { starting = λ e. absurd (waits_runs e); stopping = λ e. absurd (none_runs e) }

restarted_fits : (s : State) (unit : List ℕ) (v : State) → Restarts s unit v → AllFit s → AllFit v
restarted_fits s unit v (Restarts.puts none free) fits = planned_fits s unit (jobs None (Some Waiting)) (restart_keeps (jobs_of_unit s.pending unit) none) fits
restarted_fits s unit v (isnt_put why) fits = fits

-- a failed start with those that it takes along leaves all fitting
along_fits : (s : State) (failed : List ℕ) (v : State) → TakesAlong s failed v → AllFit s → AllFit v
along_fits s failed v a fits unit =
    elim (taken_along_or_not s failed unit) as (λ _. Fits (state_of_unit v.units unit) (jobs_of_unit v.pending unit)) [
      | inl is ↦ subst₂ Fits (sym (a.results unit is)) (sym (a.starts unit is)) (without_fits (state_of_unit s.units unit) (jobs_of_unit s.pending unit) (fits unit))
      | inr isnt ↦ subst₂ Fits (sym (a.other_units unit isnt)) (sym (a.other_jobs unit isnt)) (fits unit)
    ]
  where
    without_fits : (u : UnitState) (j : UnitJobs) → Fits u j → Fits (with_result_dependency u) (without_start j)
    without_fits u j f = record { held = same_held u.sub u (with_result_dependency u) refl refl f.held; starting = λ e. absurd (none_runs e); stopping = f.stopping; apart = λ e. absurd (none_runs e) }

becomes_fits : (s : State) (unit : List ℕ) (c : Change) (v : State) → Becomes s unit c v → AllFit (changed s unit c) → AllFit v
becomes_fits s unit c v (Becomes.alone isnt) fits = fits
becomes_fits s unit c v (Becomes.along is a) fits = along_fits (changed s unit c) unit v a fits

-- no stop job is pending beside a start job that is ready
alone : (s : State) (unit : List ℕ) → IsReady (IsBefore s.loaded) s.units s.pending (start_job unit) → (jobs_of_unit s.pending unit).stop ≡ None
alone s unit ready = elim (jobs_of_unit s.pending unit).stop as (λ o. (jobs_of_unit s.pending unit).stop ≡ o → o ≡ None) [
  | None ↦ λ e. refl
  | Some x ↦ λ e. absurd (ready.free (stop_job unit) (record { pends = λ f. some_none (jobs_of_unit s.pending unit).stop x f e; waits = ready.waits; goes = of_one_unit }))
] refl

not_down : (x : SubState) → active_state_of x ≢ active.Deactivating → is_stopping x ≡ false
not_down sub.Stop up = absurd (up refl)
not_down sub.StopSigterm up = absurd (up refl)
not_down sub.StopSigkill up = absurd (up refl)
not_down sub.Dead up = refl
not_down sub.StartPre up = refl
not_down sub.Start up = refl
not_down sub.Running up = refl
not_down sub.Exited up = refl
not_down sub.Failed up = refl
not_down sub.AutoRestart up = refl
not_down sub.Active up = refl

-- ---- nothing held

no_unit : (unit : List ℕ) → state_of_unit map.empty unit ≡ dead_unit
no_unit unit = ap (λ o. unwrap_or o dead_unit) (map.get-empty _ unit)

no_job : (unit : List ℕ) → jobs_of_unit map.empty unit ≡ no_jobs
no_job unit = ap (λ o. unwrap_or o no_jobs) (map.get-empty _ unit)

nothing_fits : (unit : List ℕ) → Fits (state_of_unit map.empty unit) (jobs_of_unit map.empty unit)
nothing_fits unit = subst₂ Fits (sym (no_unit unit)) (sym (no_job unit))
    (record { held = refl; starting = λ e. absurd (none_runs e); stopping = λ e. absurd (none_runs e); apart = λ e. refl })

none_waits : (kind : JobKind) → job_of kind no_jobs ≡ Some Waiting → ⊥
none_waits job.Stop e = cc
none_waits job.Start e = cc

nothing_ready : (Before : List ℕ → List ℕ → Type 0) (units : ByUnit UnitState) (j : Job) → ¬ IsReady Before units map.empty j
nothing_ready Before units j ready = none_waits j.kind (sym (ap (job_of j.kind) (no_job j.unit)) ∙ ready.waits)

-- ---- a run

-- a bound stop isn't a stop job that begins
bound_apart : BoundStop ≡ StopBegins → ⊥
bound_apart e = cc

reset_apart : Reset ≡ StopBegins → ⊥
reset_apart e = cc

deadline_apart : DeadlinePasses ≡ StopBegins → ⊥
deadline_apart e = cc

executed_apart : Executed ≡ StopBegins → ⊥
executed_apart e = cc

end_apart : (b : Bool) (e : End) → cond b (MainEnds e) (ControlEnds e) ≢ StopBegins
end_apart true e = λ is. cc
end_apart false e = λ is. cc

-- the table keeps the process of a unit
module _ (keeps : (s : ServiceSettings) (c : Around) (u : UnitState) (e : UnitEvent) → HasItsProcess u → HasItsProcess (transition s c u e).unit) where
  -- an event of a unit leaves all fitting
  carried_fits : (t : ℕ) (unit : List ℕ) (event : UnitEvent) (s : State) (actions : List Action) (v : State) → event ≢ StopBegins → Carries t unit event s actions v
      → AllFit s → AllFit v
  carried_fits t unit event s actions v isnt h fits =
      let u = state_of_unit s.units unit in
      let settings = settings_in s.loaded unit in
      becomes_fits s unit (change_of t s unit event) v h.state (fits_at s unit (change_of t s unit event) (λ other apart. fits other)
      (left_fits (change_of t s unit event) (jobs_of_unit s.pending unit) (keeps settings (around t s unit) u event (fits unit).held)
      (λ e. start_fits settings (around t s unit) u event isnt ((fits unit).starting e))
      (λ e. stop_fits settings (around t s unit) u event ((fits unit).stopping e))
      (fits unit).apart))

  -- so do all units that fall with it, and resets
  fallen_fits : (t : ℕ) (units : List (List ℕ)) (s : State) (actions : List Action) (v : State) → FallDown t units s actions v → AllFit s → AllFit v
  fallen_fits t units s actions v all_told fits = fits
  fallen_fits t (unit ∷ units) s actions v (told_next {falling = falling} {u = u} {first = first} {more = more} carries falls later) fits =
      fallen_fits t (falling ++ units) u more v later (carried_fits t unit BoundStop s first u bound_apart carries fits)

  happened_fits : (t : ℕ) (unit : List ℕ) (event : UnitEvent) (s : State) (actions : List Action) (v : State) → event ≢ StopBegins → Happens t unit event s actions v
      → AllFit s → AllFit v
  happened_fits t unit event s actions v isnt (Happens.happens {falling = falling} {u = u} {first = first} {more = more} carries falls later) fits =
      fallen_fits t falling u more v later (carried_fits t unit event s first u isnt carries fits)

  reset_fits : (t : ℕ) (units : List (List ℕ)) (s : State) (actions : List Action) (v : State) → AreReset t units s actions v → AllFit s → AllFit v
  reset_fits t units s actions v all_reset fits = fits
  reset_fits t (unit ∷ units) s actions v (reset_next {u = u} {first = first} {more = more} forgets later) fits =
      reset_fits t units u more v later (happened_fits t unit Reset s first u reset_apart forgets fits)

  begun_here : (s : State) (j : Job) → jobs_of_unit (begun s j).pending j.unit ≡ with_running j.kind (jobs_of_unit s.pending j.unit)
  begun_here s j = jobs_here s.pending j.unit (with_running j.kind (jobs_of_unit s.pending j.unit))

  -- a job begins: its unit, now with the job running, fits after its change
  begun_fits : (kind : JobKind) (unit : List ℕ) (s : State) (c : Around) (settings : ServiceSettings) → IsReady (IsBefore s.loaded) s.units s.pending (record { unit = unit; kind = kind }) → AllFit s
      → Fits (transition settings c (state_of_unit s.units unit) (begins kind)).unit (jobs_left (transition settings c (state_of_unit s.units unit) (begins kind)).start (transition settings c (state_of_unit s.units unit) (begins kind)).stop_ends (with_running kind (jobs_of_unit s.pending unit)))
  begun_fits job.Start unit s c settings ready fits =
      let u = state_of_unit s.units unit in
      let none = alone s unit ready in
      left_fits (transition settings c u StartBegins) (with_running job.Start (jobs_of_unit s.pending unit)) (keeps settings c u StartBegins (fits unit).held)
      (λ e. begun_start_fits settings c u (not_down u.sub (ready.still refl)))
      (λ e. absurd (some_none (jobs_of_unit s.pending unit).stop Running none e))
      (λ e. none)
  begun_fits job.Stop unit s c settings ready fits =
      let u = state_of_unit s.units unit in
      let waits : (jobs_of_unit s.pending unit).start ≡ Some Running → ⊥ = λ e. some_none (jobs_of_unit s.pending unit).stop Waiting ((fits unit).apart e) ready.waits in
      left_fits (transition settings c u StopBegins) (with_running job.Stop (jobs_of_unit s.pending unit)) (keeps settings c u StopBegins (fits unit).held)
      (λ e. absurd (waits e))
      (λ e. begun_stop_fits settings c u)
      (λ e. absurd (waits e))

  beginning_fits : (t : ℕ) (j : Job) (s : State) (actions : List Action) (v : State) → IsReady (IsBefore s.loaded) s.units s.pending j → Carries t j.unit (begins j.kind) (begun s j) actions v → AllFit s → AllFit v
  beginning_fits t j s actions v ready h fits =
      let c = change_of t (begun s j) j.unit (begins j.kind) in
      becomes_fits (begun s j) j.unit c v h.state (fits_at (begun s j) j.unit c
      (λ other apart. subst (Fits (state_of_unit s.units other)) (sym (jobs_apart s.pending j.unit (with_running j.kind (jobs_of_unit s.pending j.unit)) other apart)) (fits other))
      (subst (λ k. Fits c.unit (jobs_left c.start c.stop_ends k)) (sym (begun_here s j))
      (begun_fits j.kind j.unit s (around t (begun s j) j.unit) (settings_in s.loaded j.unit) ready fits)))

  -- all fits after jobs have begun until none is ready
  settled_fits : (t : ℕ) (s : State) (actions : List Action) (v : State) → Settles t s actions v → AllFit s → AllFit v × IsStill v
  settled_fits t s actions v (Settles.rests none) fits = (fits, none)
  settled_fits t s actions v (begins_next {u = w} {more = late} j n (Happens.happens {falling = falling} {u = u} {first = first} {more = more} carries falls later) k) fits =
      settled_fits t w late v k (fallen_fits t falling u more w later (beginning_fits t j s first u n.has carries fits))

  due_fits : (t : ℕ) (s : State) (unit : List ℕ) (actions : List Action) (v : State) → ComesDue t s unit actions v → AllFit s → AllFit v
  due_fits t s unit actions v (ComesDue.restarts is again) fits = restarted_fits s unit v again fits
  due_fits t s unit actions v (ComesDue.passes isnt h) fits = happened_fits t unit DeadlinePasses s actions v deadline_apart h fits

  fired_fits : (t : ℕ) (timers : Timers) (s : State) (actions : List Action) (v : State) → Fires t timers s actions v → AllFit s × IsStill s → AllFit v × IsStill v
  fired_fits t timers s actions v (Fires.none_due none) calm = calm
  fired_fits t timers s actions v (Fires.fires_next {more = z} d n first due (FiresOne.fires {u = u} {v = p} {first = x} {next = y} is h k) l) calm =
      fired_fits t (map.remove timers n) p z v l (settled_fits t u y p k (due_fits t s n x u h calm.0))
  fired_fits t timers s actions v (Fires.fires_next {more = z} d n first due (FiresOne.is_gone isnt) l) calm = fired_fits t (map.remove timers n) s z v l calm

  followed_fits : (t : ℕ) (s : State) (happening : Happening) (actions : List Action) (v : State) → Follows t s happening actions v → AllFit s × IsStill s → AllFit v × IsStill v
  followed_fits t s happening actions v (ends {number = number} {end = end} {first = first} {more = more} {u = u} unit is h k) calm =
      settled_fits t u more v k (happened_fits t unit (end_of (state_of_unit s.units unit) number end) s first u (end_apart (is_number number (state_of_unit s.units unit).main) end) h calm.0)
  followed_fits t s happening actions v (reports {first = first} {more = more} {u = u} unit is awaits h k) calm =
      settled_fits t u more v k (happened_fits t unit Executed s first u executed_apart h calm.0)
  followed_fits t s happening actions v (ticks timers are h) calm = fired_fits t timers s actions v h calm
  followed_fits t s happening actions v (boots {boot = boot}) calm = (nothing_fits, nothing_ready (IsBefore (booted boot s).loaded) map.empty)

  does_fit : {profile : Profile} (t : ℕ) (s : State) (command : Command) (actions : List Action) (u : State) → Does profile t s command actions u → AllFit s → AllFit u
  does_fit t s command actions u (Does.changes h) fits = changed_fits s command u h fits
  does_fit t s command actions u (Does.resets {asked = asked} h) fits = reset_fits t (units_reset s asked) s actions u h fits

  taken_fits : {profile : Profile} (t : ℕ) (s : State) (event : Event) (actions : List Action) (v : State) → TakesEffect profile t s event actions v → AllFit s × IsStill s → AllFit v × IsStill v
  taken_fits t s event actions v (obeys {command = command} {first = first} {more = more} {u = u} free h k) calm =
      settled_fits t u more v k (does_fit t s command first u h calm.0)
  taken_fits t s event actions v (meets {happening = happening} effect h) calm = followed_fits t s happening actions v h calm

  step_fits : (size : ℕ) (s : State) (input : Input) (reply : Reply) (actions : List Action) (t : State) → Step size s input reply actions t → AllFit s × IsStill s → AllFit t × IsStill t
  step_fits size s input reply actions t (refused e) calm = calm
  step_fits size s input reply actions t (crowded_out h heavy) calm = calm
  step_fits size s input reply actions t (idle e) calm = calm
  step_fits size s input reply actions t (taken {moment = moment} {event = event} {u = v} h light) calm = taken_fits (moment_of s moment) s event actions v h calm

  run_fits : (size : ℕ) (s t : State) (inputs : List Input) → Run size s inputs t → AllFit s × IsStill s → AllFit t × IsStill t
  run_fits size s t inputs Run.rests calm = calm
  run_fits size s t (i ∷ inputs) (goes {t = v} reply actions step run) calm = run_fits size v t inputs run (step_fits size s i reply actions v step calm)

-- ---- not stuck

number_of : (o : Option ℕ) → is_some o ≡ true → (n : ℕ) × (o ≡ Some n)
number_of None h = absurd (true≢false (sym h))
number_of (Some n) h = (n, refl)

either_number : (o p : Option ℕ) → (is_some o || is_some p) ≡ true → (n : ℕ) × ((o ≡ Some n) ⊎ (p ≡ Some n))
either_number None p h = let n = number_of p h in (n.0, inr n.1)
either_number (Some n) p h = (n, inl refl)

number_in_start : (x : SubState) (u : UnitState) → is_starting x ≡ true → has_its_process x u ≡ true → (n : ℕ) × HasNumber u n
number_in_start sub.StartPre u up held = let n = number_of u.control held in (n.0, inr n.1)
number_in_start sub.Start u up held = let n = number_of u.main held in (n.0, inl n.1)
number_in_start _ u up held = absurd (true≢false (sym up))

number_in_stop : (x : SubState) (u : UnitState) → is_stopping x ≡ true → has_its_process x u ≡ true → (n : ℕ) × HasNumber u n
number_in_stop sub.Stop u down held = let n = number_of u.control held in (n.0, inr n.1)
number_in_stop sub.StopSigterm u down held = either_number u.main u.control held
number_in_stop sub.StopSigkill u down held = either_number u.main u.control held
number_in_stop _ u down held = absurd (true≢false (sym down))

or_true : (b : Bool) → (b || true) ≡ true
or_true true = refl
or_true false = refl

pends_or_runs : (o : Option JobState) → o ≢ None → (o ≡ Some Waiting) ⊎ (o ≡ Some Running)
pends_or_runs None there = absurd (there refl)
pends_or_runs (Some Waiting) there = inl refl
pends_or_runs (Some Running) there = inr refl

not_deactivating : (x : SubState) → is_stopping x ≡ false → active_state_of x ≢ active.Deactivating
not_deactivating sub.Stop f e = true≢false f
not_deactivating sub.StopSigterm f e = true≢false f
not_deactivating sub.StopSigkill f e = true≢false f
not_deactivating sub.Dead f e = cc
not_deactivating sub.StartPre f e = cc
not_deactivating sub.Start f e = cc
not_deactivating sub.Running f e = cc
not_deactivating sub.Exited f e = cc
not_deactivating sub.Failed f e = cc
not_deactivating sub.AutoRestart f e = cc
not_deactivating sub.Active f e = cc

module _ (s : State) (fits : AllFit s) (still : IsStill s) where
  module _ (j : Job) (is_there : IsPending s.pending j) where
    waits_in_start : is_starting (state_of_unit s.units j.unit).sub ≡ true → (number : ℕ) × WaitsFor s j number
    waits_in_start up =
        let u = state_of_unit s.units j.unit in
        let n = number_in_start u.sub u up (fits j.unit).held in
        (n.0, record { pending = is_there; busy = ap (λ b. b || is_stopping u.sub) up; live = n.1 })

    waits_in_stop : is_stopping (state_of_unit s.units j.unit).sub ≡ true → (number : ℕ) × WaitsFor s j number
    waits_in_stop down =
        let u = state_of_unit s.units j.unit in
        let n = number_in_stop u.sub u down (fits j.unit).held in
        (n.0, record { pending = is_there; busy = ap (λ b. is_starting u.sub || b) down ∙ or_true (is_starting u.sub); live = n.1 })

    -- a job that runs waits for its unit's live process
    running_waits : (kind : JobKind) → job_of kind (jobs_of_unit s.pending j.unit) ≡ Some Running → (number : ℕ) × WaitsFor s j number
    running_waits job.Start is = waits_in_start ((fits j.unit).starting is)
    running_waits job.Stop is = waits_in_stop ((fits j.unit).stopping is)

    -- so does one that waits though none comes before it: it isn't ready, as its unit is deactivating
    first_waits : (down : Bool) → is_stopping (state_of_unit s.units j.unit).sub ≡ down → state_of_job s.pending j ≡ Some Waiting
        → ((other : Job) → ¬ ComesBefore (IsBefore s.loaded) s.pending other j) → (number : ℕ) × WaitsFor s j number
    first_waits true e waits free = waits_in_stop e
    first_waits false e waits free = absurd (still j (record { waits = waits; free = free; still = λ starts. not_deactivating (state_of_unit s.units j.unit).sub e }))

    free_waits : ((other : Job) → ¬ ComesBefore (IsBefore s.loaded) s.pending other j) → (number : ℕ) × WaitsFor s j number
    free_waits free = elim (pends_or_runs (state_of_job s.pending j) is_there) as (λ _. (number : ℕ) × WaitsFor s j number) [
      | inl waits ↦ first_waits (is_stopping (state_of_unit s.units j.unit).sub) refl waits free
      | inr runs ↦ running_waits j.kind runs
    ]

  module _ (free : IsFree s) where
    -- if a job waits, a job before which none comes waits for a live process
    waiting_not_stuck : (j : Job) → state_of_job s.pending j ≡ Some Waiting → (other : Job) × (number : ℕ) × WaitsFor s other number
    waiting_not_stuck j waits =
        let a = a_first_job (IsBefore s.loaded) (before_or_not s.loaded) s.pending free j waits in
        let w = free_waits a.0 a.1 a.2.free in
        (a.0, w.0, w.1)

    fitting_not_stuck : IsNotStuck s
    fitting_not_stuck j is_there = elim (pends_or_runs (state_of_job s.pending j) is_there) as (λ _. (other : Job) × (number : ℕ) × WaitsFor s other number) [
      | inl waits ↦ waiting_not_stuck j waits
      | inr runs ↦ let w = running_waits j is_there j.kind runs in (j, w.0, w.1)
    ]

-- in a state in which nothing is held all fits, and no job is ready
blank_fits : (s : State) → IsBlank s → AllFit s
blank_fits s blank =
    subst₂ (λ us js. (unit : List ℕ) → Fits (state_of_unit us unit) (jobs_of_unit js unit)) (sym blank.units) (sym blank.pending) nothing_fits

blank_still : (s : State) → IsBlank s → IsStill s
blank_still s blank =
    subst (λ js. (j : Job) → ¬ IsReady (IsBefore s.loaded) s.units js j) (sym blank.pending) (nothing_ready (IsBefore s.loaded) s.units)

-- after any inputs from there the machine isn't stuck
pub never_stuck : (size : ℕ) (s : State) (inputs : List Input) (t : State) → IsBlank s → Run size s inputs t → IsNotStuck t
never_stuck size s inputs t blank run =
    let calm = run_fits keeps_process size s t inputs run (blank_fits s blank, blank_still s blank) in
    fitting_not_stuck t calm.0 calm.1 (no_cycle_after size s inputs t blank run)
