-- No pending jobs wait for one another in a circle: after any inputs the order of the loaded tree has no cycle among them.
use Rattle.std.proofs.Common.{ℕ, ◌≡◌, ◌∙◌, Bool, true, false, true≢false, cond, is_some, List, [], ◌∷◌, Option, Some, None, unwrap_or, refl, sym, ap, subst, inl, inr}
use Rattle.std.proofs.lemmas.Option.{none-some}
use Rattle.std.specs.FinMap as map
use Rattle.um_model.specs.Profiles.{ReadTree, read_by}
use Rattle.um_model.specs.declared.profile.Profile.{Profile}
use Rattle.um_model.specs.Dependencies.{IsKnown, Precedes, Mentions, extra}
use Rattle.um_model.specs.Install.{RefusesLinks, RefusesUnits}
use Rattle.um_model.specs.Jobs.{Job, jobs, no_jobs, jobs_of_unit, with_jobs, job_of, unless_waiting, cancelled, without_start, GoesBefore, starts, stops, stops_then_starts, stops_then_starts_before, of_one_unit, ComesBefore, IsPending, unless_running, start_left, jobs_left, state_of_job}
use Rattle.um_model.specs.Machine.{as_loaded, State, Command, Happening, Event, Input, Reply, IsHeld, IsHeldOr, IsCrowded, IsBefore, changed, TakesAlong, Becomes, Carries, change_of, begins, begun, Happens, AreReset, Settles, unit_asked, jobs_asked, scene_at, CausesOfLoad, LoadsNone, Refuses, Changes, Does, units_reset, Restarts, ComesDue, Fires, FiresOne, booted, Follows, end_of, moment_of, Step, Run, isnt_put, TakesEffect}
use Rattle.um_model.specs.Order.{IsCycle}
use Rattle.um_model.specs.Plan.{AreFree, Counts, restarted, started, stopped, left, Demands, IsPlan, NamesCycle, units_of}
use Rattle.um_model.specs.Reached.{first, next}
use Rattle.um_model.specs.Refusals.{Refused, at_first, at_second, ordering_cycle}
use Rattle.um_model.specs.Servable.{IsBlank, IsFree}
use Rattle.um_model.specs.Service.{Action, ByUnit, state_of_unit}
use Rattle.um_model.specs.Timers.{Timers}
use Rattle.um_model.specs.declared.dependencies.Demand.{Demand}
use Rattle.um_model.specs.declared.dependencies.Demand.TheVariants.{Start, Stop, Restart}
use Rattle.um_model.specs.declared.jobs.JobKind.{JobKind}
use Rattle.um_model.specs.declared.jobs.JobKind.TheVariants as job
use Rattle.um_model.specs.declared.jobs.JobState.{JobState}
use Rattle.um_model.specs.declared.jobs.JobState.TheVariants.{Waiting, Running}
use Rattle.um_model.specs.declared.jobs.UnitJobs.{UnitJobs}
use Rattle.um_model.specs.declared.transition.Change.{Change}
use Rattle.um_model.specs.declared.transition.StartJob.{StartJob}
use Rattle.um_model.specs.declared.transition.StartJob.TheVariants.{Stays, Ends, Fails}
use Rattle.um_model.specs.declared.transition.UnitEvent.{UnitEvent}
use Rattle.um_model.specs.declared.transition.UnitEvent.TheVariants.{Executed, DeadlinePasses}
use Rattle.um_laws.proofs.AlongLaws.{taken_along_or_not}
use Rattle.um_laws.proofs.CycleLaws.{fewer_free, held, least_unit_first}
use Rattle.um_laws.proofs.FallLaws.{over_happening, over_resets}
use Rattle.um_laws.proofs.OrderLaws.{cycle_weaker}
use Rattle.um_model.proofs.OwnNameLaws.{precedes_anyhow}
use Rattle.um_laws.proofs.PlanLaws.{AreAlike, demands_same}
use Rattle.um_laws.proofs.PlannedLaws.{counts_some, free_of_causes}
use Rattle.um_laws.proofs.SceneLaws.{finite_scene}
use Rattle.um_model.proofs.TimersLaws.{same_name}
use Rattle.um_model.proofs.UnitLaws.{jobs_here, jobs_apart}
use Rattle.um_model.proofs.Forms.{with_running}

-- ---- fewer jobs of a unit

-- a job that waits waited before, and no new job is added
pub record ComesOf (o p : Option JobState) : Type 0 where
  pub waits : p ≡ Some Waiting → o ≡ Some Waiting
  pub none : o ≡ None → p ≡ None

-- so with both jobs of a unit
abbrev pub HasFewer : UnitJobs → UnitJobs → Type 0
HasFewer j k = (kind : JobKind) → ComesOf (job_of kind j) (job_of kind k)

stays : (o : Option JobState) → ComesOf o o
stays o = record { waits = λ e. e; none = λ e. e }

goes_away : (o : Option JobState) → ComesOf o None
goes_away o = record { waits = λ e. absurd (none-some Waiting e); none = λ e. refl }

comes_to_run : (o : Option JobState) → o ≡ Some Waiting → ComesOf o (Some Running)
comes_to_run o is = record { waits = λ e. is; none = λ e. absurd (none-some Waiting (sym e ∙ is)) }

comes_further : (o p q : Option JobState) → ComesOf o p → ComesOf p q → ComesOf o q
comes_further o p q f g = record { waits = λ e. f.waits (g.waits e); none = λ e. g.none (f.none e) }

both_fewer : (stop start stop' start' : Option JobState) → ComesOf stop stop' → ComesOf start start' → HasFewer (jobs stop start) (jobs stop' start')
both_fewer stop start stop' start' f g job.Stop = f
both_fewer stop start stop' start' f g job.Start = g

no_longer_runs : (o : Option JobState) → ComesOf o (unless_running o)
no_longer_runs None = stays None
no_longer_runs (Some Waiting) = stays (Some Waiting)
no_longer_runs (Some Running) = goes_away (Some Running)

no_longer_waits : (o : Option JobState) → ComesOf o (unless_waiting o)
no_longer_waits None = stays None
no_longer_waits (Some Waiting) = goes_away (Some Waiting)
no_longer_waits (Some Running) = stays (Some Running)

start_left_fewer : (start : StartJob) (o : Option JobState) → ComesOf o (start_left start o)
start_left_fewer Stays o = stays o
start_left_fewer Ends o = no_longer_runs o
start_left_fewer Fails o = no_longer_runs o

stop_left_fewer : (ends : Bool) (o : Option JobState) → ComesOf o (cond ends (unless_running o) o)
stop_left_fewer true o = no_longer_runs o
stop_left_fewer false o = stays o

left_fewer : (start : StartJob) (stop_ends : Bool) (j : UnitJobs) → HasFewer j (jobs_left start stop_ends j)
left_fewer start stop_ends j = both_fewer j.stop j.start _ _ (stop_left_fewer stop_ends j.stop) (start_left_fewer start j.start)

pub cancelled_fewer : (j : UnitJobs) → HasFewer j (cancelled j)
cancelled_fewer j = both_fewer j.stop j.start _ _ (no_longer_waits j.stop) (no_longer_waits j.start)

without_start_fewer : (j : UnitJobs) → HasFewer j (without_start j)
without_start_fewer j = both_fewer j.stop j.start _ _ (stays j.stop) (goes_away j.start)

running_fewer : (kind : JobKind) (j : UnitJobs) → job_of kind j ≡ Some Waiting → HasFewer j (with_running kind j)
running_fewer job.Stop j is = both_fewer j.stop j.start _ _ (comes_to_run j.stop is) (stays j.start)
running_fewer job.Start j is = both_fewer j.stop j.start _ _ (stays j.stop) (comes_to_run j.start is)

-- ---- fewer jobs of all units

-- by the same loaded tree, and so with the jobs of each unit
pub record HasLess (s u : State) : Type 0 where
  pub loaded : u.loaded ≡ s.loaded
  pub fewer : (unit : List ℕ) → HasFewer (jobs_of_unit s.pending unit) (jobs_of_unit u.pending unit)

same_less : (s : State) → HasLess s s
same_less s = record { loaded = refl; fewer = λ unit kind. stays (job_of kind (jobs_of_unit s.pending unit)) }

less_trans : (s u v : State) → HasLess s u → HasLess u v → HasLess s v
less_trans s u v f g = record {
  loaded = g.loaded ∙ f.loaded;
  fewer = λ unit kind. comes_further (job_of kind (jobs_of_unit s.pending unit)) (job_of kind (jobs_of_unit u.pending unit)) (job_of kind (jobs_of_unit v.pending unit)) (f.fewer unit kind) (g.fewer unit kind);
}

-- no cycle arises from fewer jobs
less_free : (s u : State) → HasLess s u → IsFree s → IsFree u
less_free s u less free =
    subst (λ tree. (cycle : List Job) → ¬ IsCycle (ComesBefore (IsBefore tree) u.pending) cycle) (sym less.loaded)
    (fewer_free (IsBefore s.loaded) s.pending u.pending (λ j e. (less.fewer j.unit j.kind).waits e) (λ j is none. is ((less.fewer j.unit j.kind).none none)) free)

-- fewer jobs of one unit
pub fewer_at : (pending : ByUnit UnitJobs) (unit : List ℕ) (k : UnitJobs) → HasFewer (jobs_of_unit pending unit) k
    → (other : List ℕ) → HasFewer (jobs_of_unit pending other) (jobs_of_unit (with_jobs pending unit k) other)
fewer_at pending unit k fewer other = elim (same_name other unit) as (λ _. HasFewer (jobs_of_unit pending other) (jobs_of_unit (with_jobs pending unit k) other)) [
  | inl same ↦ subst (λ q. HasFewer (jobs_of_unit pending q) (jobs_of_unit (with_jobs pending unit k) q)) (sym same)
      (subst (HasFewer (jobs_of_unit pending unit)) (sym (jobs_here pending unit k)) fewer)
  | inr apart ↦ subst (HasFewer (jobs_of_unit pending other)) (sym (jobs_apart pending unit k other apart)) (λ kind. stays (job_of kind (jobs_of_unit pending other)))
]

changed_less : (s : State) (unit : List ℕ) (c : Change) → HasLess s (changed s unit c)
changed_less s unit c = record { loaded = refl; fewer = fewer_at s.pending unit _ (left_fewer c.start c.stop_ends (jobs_of_unit s.pending unit)) }

pub begun_less : (s : State) (j : Job) → state_of_job s.pending j ≡ Some Waiting → HasLess s (begun s j)
begun_less s j waits = record { loaded = refl; fewer = fewer_at s.pending j.unit _ (running_fewer j.kind (jobs_of_unit s.pending j.unit) waits) }

along_less : (s : State) (failed : List ℕ) (v : State) → TakesAlong s failed v → HasLess s v
along_less s failed v a = record { loaded = ap (λ (x : State). x.loaded) a.rest; fewer = fewer }
  where
    fewer : (unit : List ℕ) → HasFewer (jobs_of_unit s.pending unit) (jobs_of_unit v.pending unit)
    fewer unit kind =
        let j = jobs_of_unit s.pending unit in
        elim (taken_along_or_not s failed unit) as (λ _. ComesOf (job_of kind j) (job_of kind (jobs_of_unit v.pending unit))) [
          | inl taken ↦ subst (λ k. ComesOf (job_of kind j) (job_of kind k)) (sym (a.starts unit taken)) (without_start_fewer j kind)
          | inr isnt ↦ subst (λ k. ComesOf (job_of kind j) (job_of kind k)) (sym (a.other_jobs unit isnt)) (stays (job_of kind j))
        ]

becomes_less : (s : State) (unit : List ℕ) (c : Change) (v : State) → Becomes s unit c v → HasLess s v
becomes_less s unit c v (Becomes.alone isnt) = changed_less s unit c
becomes_less s unit c v (Becomes.along is a) = less_trans s (changed s unit c) v (changed_less s unit c) (along_less (changed s unit c) unit v a)

pub carried_less : (t : ℕ) (unit : List ℕ) (event : UnitEvent) (s : State) (actions : List Action) (v : State) → Carries t unit event s actions v → HasLess s v
carried_less t unit event s actions v h = becomes_less s unit (change_of t s unit event) v h.state

happens_less : (t : ℕ) (unit : List ℕ) (event : UnitEvent) (s : State) (actions : List Action) (v : State) → Happens t unit event s actions v → HasLess s v
happens_less t = over_happening t (λ s actions v. HasLess s v) same_less (λ s u v first more. less_trans s u v) (carried_less t)

resets_less : (t : ℕ) (units : List (List ℕ)) (s : State) (actions : List Action) (v : State) → AreReset t units s actions v → HasLess s v
resets_less t = over_resets t (λ s actions v. HasLess s v) same_less (λ s u v first more. less_trans s u v) (carried_less t)

settles_less : (t : ℕ) (s : State) (actions : List Action) (v : State) → Settles t s actions v → HasLess s v
settles_less t s actions v (Settles.rests none) = same_less s
settles_less t s actions v (Settles.begins_next {u = u} {first = x} {more = y} j n h k) =
    less_trans s (begun s j) v (begun_less s j n.has.waits)
    (less_trans (begun s j) u v (happens_less t j.unit (begins j.kind) (begun s j) x u h) (settles_less t u y v k))

-- an event of a unit, and the jobs that begin by it
happened_less : (t : ℕ) (unit : List ℕ) (event : UnitEvent) (s : State) (early late : List Action) (u v : State) → Happens t unit event s early u → Settles t u late v → HasLess s v
happened_less t unit event s early late u v h k = less_trans s u v (happens_less t unit event s early u h) (settles_less t u late v k)

-- ---- deadlines that are due

-- an automatic restart puts a start only if no cycle arises from it
restarts_free : (s : State) (unit : List ℕ) (v : State) → Restarts s unit v → IsFree s → IsFree v
restarts_free s unit v (Restarts.puts none stays_free) free = stays_free
restarts_free s unit v (isnt_put why) free = free

due_free : (t : ℕ) (s : State) (unit : List ℕ) (actions : List Action) (v : State) → ComesDue t s unit actions v → IsFree s → IsFree v
due_free t s unit actions v (ComesDue.restarts is again) free = restarts_free s unit v again free
due_free t s unit actions v (ComesDue.passes isnt h) free = less_free s v (happens_less t unit DeadlinePasses s actions v h) free

fires_free : (t : ℕ) (timers : Timers) (s : State) (actions : List Action) (v : State) → Fires t timers s actions v → IsFree s → IsFree v
fires_free t timers s actions v (Fires.none_due none) free = free
fires_free t timers s actions v (Fires.fires_next {more = z} d n least due (FiresOne.fires {u = u} {v = p} {first = x} {next = y} is h k) l) free =
    fires_free t (map.remove timers n) p z v l (less_free u p (settles_less t u y p k) (due_free t s n x u h free))
fires_free t timers s actions v (Fires.fires_next {more = z} d n least due (FiresOne.is_gone isnt) l) free = fires_free t (map.remove timers n) s z v l free

-- ---- a plan

module _ (s : State) (named : List ℕ) where
  -- known while the plan for the named unit is made
  abbrev Known : List ℕ → Type 0
  Known = IsKnown s.loaded (IsHeldOr s named)

  same_scene : AreAlike Known (scene_at s named) (scene_at s named)
  same_scene = record {
    within = λ kind x y d. (next d.known (Mentions.owner d.gives), next d.known (Mentions.other d.gives));
    depends = λ kind x y. (λ d. d, λ d. d);
    before = λ x y. (λ b. b, λ b. b);
    loadable = λ x known. (λ l. l, λ l. l);
    cannot = λ x known r. (λ c. c, λ c. c);
    activity = λ x known. refl;
    pending = λ x. refl;
  }

  demanded_known : (demand d : Demand) (unit : List ℕ) → Demands (scene_at s named) (demand, named) (d, unit) → Known unit
  demanded_known demand d unit h =
      (demands_same Known (demand, named) (first (extra (inr refl))) (scene_at s named) (scene_at s named) same_scene (d, unit) h).0

  module _ (demand : Demand) (after : ByUnit UnitJobs) (plan : IsPlan (scene_at s named) (demand, named) after) where
    -- a unit of which a job is pending after the plan had one, or something is demanded of it
    counted_known : (j : Job) → IsPending after j → (counted : Option Demand) → Counts (scene_at s named) (demand, named) j.unit counted → Known j.unit
    counted_known j pends _ (restarted r) = demanded_known demand Restart j.unit r
    counted_known j pends _ (started nr d) = demanded_known demand Start j.unit d
    counted_known j pends _ (stopped nr ns d) = demanded_known demand Stop j.unit d
    counted_known j pends _ (left nr ns np) =
        let pended : IsPending s.pending j = λ none. pends (ap (job_of j.kind) (plan.jobs j.unit None (left nr ns np)) ∙ none) in
        first (extra (inl (inr (λ none. true≢false (sym (held s.pending j pended) ∙ ap is_some none)))))

    pub pending_known : (j : Job) → IsPending after j → Known j.unit
    pending_known j pends =
        let scene = finite_scene s named in
        let c = counts_some (scene_at s named) scene.0 scene.1 (demand, named) j.unit in
        counted_known j pends c.0 c.1

    goes_by_known : (j k : Job) → Known j.unit → Known k.unit → GoesBefore (IsBefore s.loaded) j k → GoesBefore (Precedes s.loaded (IsHeldOr s named)) j k
    goes_by_known _ _ known too (starts {x = x} {y = y} b) = starts (precedes_anyhow s.loaded _ (IsHeldOr s named) x y known too b)
    goes_by_known _ _ known too (stops {x = x} {y = y} b) = stops (precedes_anyhow s.loaded _ (IsHeldOr s named) x y too known b)
    goes_by_known _ _ known too (stops_then_starts {x = x} {y = y} b) = stops_then_starts (precedes_anyhow s.loaded _ (IsHeldOr s named) x y known too b)
    goes_by_known _ _ known too (stops_then_starts_before {x = x} {y = y} b) = stops_then_starts_before (precedes_anyhow s.loaded _ (IsHeldOr s named) x y too known b)
    goes_by_known _ _ known too of_one_unit = of_one_unit

    comes_by_known : (j k : Job) → ComesBefore (IsBefore s.loaded) after j k → ComesBefore (Precedes s.loaded (IsHeldOr s named)) after j k
    comes_by_known j k c =
        let pends : IsPending after k = λ none. none-some Waiting (sym none ∙ c.waits) in
        record { pends = c.pends; waits = c.waits; goes = goes_by_known j k (pending_known j c.pends) (pending_known k pends) c.goes }

    -- jobs of a plan that have no cycle in the order by which it was made have none
    plan_free : ((cycle : List Job) → ¬ IsCycle (ComesBefore (Precedes s.loaded (IsHeldOr s named)) after) cycle)
        → (cycle : List Job) → ¬ IsCycle (ComesBefore (IsBefore s.loaded) after) cycle
    plan_free free cycle c = free cycle (cycle_weaker _ _ comes_by_known cycle c)

-- ---- a command

-- if no cycle is named, the pending jobs have none
no_circle : (Before : List ℕ → List ℕ → Type 0) (pending : ByUnit UnitJobs) → ((r : Refused) → ¬ NamesCycle Before pending r) → AreFree Before pending
no_circle Before pending none cycle c =
    let turned = least_unit_first (ComesBefore Before pending) cycle c in
    none (ordering_cycle (units_of turned.0)) (record { cycle = turned.0; closed = turned.1; least = turned.2; refusal = refl })

-- a tree that isn't refused leaves the pending jobs without a cycle
pub loads_free : (s : State) (tree : ReadTree) → ((r : Refused) → ¬ CausesOfLoad s tree r) → (cycle : List Job) → ¬ IsCycle (ComesBefore (IsBefore tree) s.pending) cycle
loads_free s tree none = no_circle (IsBefore tree) s.pending (λ r circle. none r (at_second (λ q crowded. none q (at_first crowded)) circle))

changes_free : {profile : Profile} (s : State) (command : Command) (u : State) → ((r : Refused) → ¬ Refuses profile s command r) → Changes profile s command u → IsFree s → IsFree u
changes_free s command u none (Changes.puts e) free = free
changes_free s command u none (Changes.links e) free = free
changes_free s command u none (Changes.removes e) free = free
changes_free {profile} s command u none Changes.reloads free = loads_free s (as_loaded profile s s.tree) (λ r c. none r (c))
changes_free {profile} s command u none (Changes.installs {verb = verb} {unit = unit} {tree = tree} h) free =
    no_circle (IsBefore (as_loaded profile s tree)) s.pending (λ r c. none r (at_second unlinked (at_second uncrowded (at_second untaken (record { tree = tree; installs = h; cause = c })))))
  where
    unlinked : (r : Refused) → ¬ RefusesLinks (read_by profile s.tree) verb unit r
    unlinked r refuses = none r (at_first refuses)

    uncrowded : (r : Refused) → ¬ LoadsNone profile s verb unit (λ t. IsCrowded t (IsHeld s)) r
    uncrowded r crowded = none r (at_second unlinked (at_first crowded))

    untaken : (r : Refused) → ¬ RefusesUnits (read_by profile s.tree) verb unit r
    untaken r refuses = none r (at_second unlinked (at_second uncrowded (at_first refuses)))
changes_free s command u none (Changes.cancels {asked = asked}) free =
    less_free s u (record { loaded = refl; fewer = fewer_at s.pending (unit_asked s asked) _ (cancelled_fewer (jobs_asked s asked)) }) free
changes_free s command u none (Changes.demands_nothing is) free = free
changes_free s command u none (Changes.plans {verb = verb} {asked = asked} {mode = mode} {demand = demand} {after = after} is plan) free =
    plan_free s (unit_asked s asked) demand after plan (free_of_causes (scene_at s (unit_asked s asked)) (demand, unit_asked s asked) mode after
    (λ r c. none r ((at_second (λ q crowded. none q ((at_first crowded)))
    (at_second (λ q missing. none q ((at_second (λ x crowded. none x ((at_first crowded))) (at_first missing))))
    (record { demand = demand; demanded = is; after = after; plan = plan; cause = c }))))))

does_free : {profile : Profile} (t : ℕ) (s : State) (command : Command) (actions : List Action) (u : State) → ((r : Refused) → ¬ Refuses profile s command r) → Does profile t s command actions u → IsFree s → IsFree u
does_free t s command actions u none (Does.changes h) free = changes_free s command u none h free
does_free t s command actions u none (Does.resets {asked = asked} h) free = less_free s u (resets_less t (units_reset s asked) s actions u h) free

-- ---- no jobs

none_waits : (kind : JobKind) → job_of kind no_jobs ≡ Some Waiting → ⊥
none_waits job.Stop e = none-some Waiting e
none_waits job.Start e = none-some Waiting e

none_comes : (Before : List ℕ → List ℕ → Type 0) (j k : Job) → ¬ ComesBefore Before map.empty j k
none_comes Before j k c = none_waits k.kind (sym (ap (λ o. job_of k.kind (unwrap_or o no_jobs)) (map.get-empty _ k.unit)) ∙ c.waits)

-- if no job is pending there is no cycle, whatever the order
pub none_free : (Before : List ℕ → List ℕ → Type 0) → AreFree Before map.empty
none_free Before [] c = c
none_free Before (j ∷ []) c = none_comes Before j j c
none_free Before (j ∷ (k ∷ ks)) c = none_comes Before j k c.0

-- ---- a run

follows_free : (t : ℕ) (s : State) (happening : Happening) (actions : List Action) (v : State) → Follows t s happening actions v → IsFree s → IsFree v
follows_free t s happening actions v (Follows.ends {number = number} {end = end} {first = x} {more = y} {u = u} unit is h k) free =
    less_free s v (happened_less t unit (end_of (state_of_unit s.units unit) number end) s x y u v h k) free
follows_free t s happening actions v (Follows.reports {first = x} {more = y} {u = u} unit is awaits h k) free =
    less_free s v (happened_less t unit Executed s x y u v h k) free
follows_free t s happening actions v (Follows.ticks timers are h) free = fires_free t timers s actions v h free
follows_free t s happening actions v (Follows.boots {boot = boot}) free = none_free (IsBefore (booted boot s).loaded)

takes_free : {profile : Profile} (t : ℕ) (s : State) (event : Event) (actions : List Action) (v : State) → TakesEffect profile t s event actions v → IsFree s → IsFree v
takes_free t s event actions v (TakesEffect.obeys {command = command} {first = x} {more = y} {u = u} none h k) free =
    less_free u v (settles_less t u y v k) (does_free t s command x u none h free)
takes_free t s event actions v (TakesEffect.meets {happening = happening} effect h) free = follows_free t s happening actions v h free

-- a step keeps the pending jobs without a cycle
pub step_free : (size : ℕ) (s : State) (input : Input) (reply : Reply) (actions : List Action) (t : State) → Step size s input reply actions t → IsFree s → IsFree t
step_free size s input reply actions t (Step.refused e) free = free
step_free size s input reply actions t (Step.crowded_out h heavy) free = free
step_free size s input reply actions t (Step.idle e) free = free
step_free size s input reply actions t (Step.taken {moment = moment} {event = event} {u = u} h light) free = takes_free (moment_of s moment) s event actions u h free

run_free : (size : ℕ) (s t : State) (inputs : List Input) → Run size s inputs t → IsFree s → IsFree t
run_free size s t inputs Run.rests free = free
run_free size s t (i ∷ inputs) (Run.goes {t = v} reply actions step run) free = run_free size v t inputs run (step_free size s i reply actions v step free)

pub blank_free : (s : State) → IsBlank s → IsFree s
blank_free s blank = subst (AreFree (IsBefore s.loaded)) (sym blank.pending) (none_free (IsBefore s.loaded))

-- after any inputs from a state in which nothing is held the pending jobs have no cycle
pub no_cycle_after : (size : ℕ) (s : State) (inputs : List Input) (t : State) → IsBlank s → Run size s inputs t → IsFree t
no_cycle_after size s inputs t blank run = run_free size s t inputs run (blank_free s blank)
