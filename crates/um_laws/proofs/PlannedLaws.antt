-- A transaction has one plan, and is refused for one cause or none, if finitely many units depend on one another and the relations of its
-- scene are decided.
use Rattle.std.proofs.Common.{◌≡◌, ◌≢◌, ◌⊎◌, ◌∙◌, ℕ, List, ◌∷◌, ◌++◌, Option, Some, None, refl, sym, ap, inl, inr}
use Rattle.std.proofs.lemmas.Option.{none-some}
use Rattle.std.specs.FinMap as map
use Rattle.um_model.specs.Jobs.{Job, AreTidyJobs, ComesBefore, DropsOne, drops, job_of, jobs_of_unit, no_jobs, jobs_for}
use Rattle.um_model.specs.Least.{IsNamedBefore, NamesLeast}
use Rattle.um_model.specs.Order.{IsCycle}
use Rattle.um_model.specs.Plan.{BeginsWithLeast, CausesOfPlan, Clashes, Counts, Demands, IsActive, IsBarred, IsPlan, IsStarted, NamesCycle, NamesDrop, Scene}
use Rattle.um_model.specs.Plan.{restarted, started, stopped, left, units_of}
use Rattle.um_model.specs.Refusals.{Refused, FirstCause, at_first, at_second, clash, job_conflict, ordering_cycle}
use Rattle.um_model.specs.Service.{ByUnit}
use Rattle.um_model.specs.declared.commands.JobMode.{JobMode}
use Rattle.um_model.specs.declared.commands.JobMode.TheVariants.{Fail, Replace}
use Rattle.um_model.specs.declared.dependencies.Demand.{Demand}
use Rattle.um_model.specs.declared.dependencies.Demand.TheVariants.{Start, Stop, Restart}
use Rattle.um_model.specs.declared.dependencies.DependencyKind.{DependencyKind}
use Rattle.um_model.specs.declared.jobs.JobKind.{JobKind}
use Rattle.um_model.specs.declared.jobs.JobKind.TheVariants as job
use Rattle.um_model.specs.declared.jobs.JobState.{JobState}
use Rattle.um_model.specs.declared.jobs.UnitJobs.{UnitJobs}
use Rattle.um_model.specs.declared.service.ActiveState.{ActiveState}
use Rattle.um_model.specs.declared.service.ActiveState.TheVariants.{Inactive, Activating, Active, Deactivating, Failed}
use Rattle.um_laws.proofs.AmongLaws.{among_left, among_right, both_decided, decided_as, either_decided}
use Rattle.um_laws.proofs.CausesLaws.{OneOrNone, first_or_none, NoneOrLeast, named_or_none, one_named}
use Rattle.um_laws.proofs.CycleLaws.{held, jobs_cycle_or_none, least_unit_first}
use Rattle.um_laws.proofs.DemandedLaws.{demanded_or_not, demanded_within}
use Rattle.um_laws.proofs.GivenMaps.{a_job_map, not_held}
use Rattle.um_model.proofs.LeastLaws.{IsDecided, Among, a_least}
use Rattle.um_model.proofs.SameUnits.{same_job_state}
use Rattle.um_model.proofs.TimersLaws.{among_keys, named_trans, one_named_first, same_name, same_option}
use Rattle.um_model.proofs.UnitLaws.{same_tidy}

-- finitely many units depend on one another, the scene's relations of them are decided, and a unit can't be started for one reason or none
pub record IsFinite (scene : Scene) (units : List (List ℕ)) : Type 0 where
  pub within : (kind : DependencyKind) (x y : List ℕ) → scene.Depends kind x y → Among units x × Among units y
  pub depends : (kind : DependencyKind) (x y : List ℕ) → IsDecided (scene.Depends kind x y)
  pub before : (x y : List ℕ) → IsDecided (scene.IsBefore x y)
  pub loadable : (x : List ℕ) → IsDecided (scene.IsLoadable x)
  pub cannot : (x : List ℕ) → OneOrNone (scene.CannotStart x)
  pub one_cannot : (x : List ℕ) (r q : Refused) → scene.CannotStart x r → scene.CannotStart x q → r ≡ q

active_or_not : (a : ActiveState) → IsDecided (a ≡ Active)
active_or_not Inactive = inr (λ is. cc)
active_or_not Activating = inr (λ is. cc)
active_or_not Active = inl refl
active_or_not Deactivating = inr (λ is. cc)
active_or_not Failed = inr (λ is. cc)

-- ---- one demand counts for each unit

-- at most one demand counts for a unit
pub counts_one : (scene : Scene) (root : Demand × List ℕ) (unit : List ℕ) (a b : Option Demand) → Counts scene root unit a → Counts scene root unit b → a ≡ b
counts_one scene root unit a b (restarted r) (restarted s) = refl
counts_one scene root unit a b (restarted r) (started nr s) = absurd (nr r)
counts_one scene root unit a b (restarted r) (stopped nr ns s) = absurd (nr r)
counts_one scene root unit a b (restarted r) (left nr ns np) = absurd (nr r)
counts_one scene root unit a b (started nr s) (restarted r) = absurd (nr r)
counts_one scene root unit a b (started nr s) (started nr' t) = refl
counts_one scene root unit a b (started nr s) (stopped nr' ns t) = absurd (ns s)
counts_one scene root unit a b (started nr s) (left nr' ns np) = absurd (ns s)
counts_one scene root unit a b (stopped nr ns p) (restarted r) = absurd (nr r)
counts_one scene root unit a b (stopped nr ns p) (started nr' s) = absurd (ns s)
counts_one scene root unit a b (stopped nr ns p) (stopped nr' ns' q) = refl
counts_one scene root unit a b (stopped nr ns p) (left nr' ns' np) = absurd (np p)
counts_one scene root unit a b (left nr ns np) (restarted r) = absurd (nr r)
counts_one scene root unit a b (left nr ns np) (started nr' s) = absurd (ns s)
counts_one scene root unit a b (left nr ns np) (stopped nr' ns' p) = absurd (np p)
counts_one scene root unit a b (left nr ns np) (left nr' ns' np') = refl

-- nothing counts for a unit of which nothing is demanded
none_counts : (scene : Scene) (root : Demand × List ℕ) (unit : List ℕ) (counted : Option Demand) → ((d : Demand) → ¬ (Demands scene root (d, unit)))
    → Counts scene root unit counted → counted ≡ None
none_counts scene root unit counted none (restarted r) = absurd (none Restart r)
none_counts scene root unit counted none (started nr s) = absurd (none Start s)
none_counts scene root unit counted none (stopped nr ns p) = absurd (none Stop p)
none_counts scene root unit counted none (left nr ns np) = refl

-- ---- why a plan is refused

least_or_none : (Has : List ℕ → Type 0) → ((unit : List ℕ) → IsDecided (Has unit)) → (cover : List (List ℕ)) → ((unit : List ℕ) → Has unit → Among cover unit) → NoneOrLeast Has
least_or_none Has decided cover covers = a_least IsNamedBefore Has same_name named_trans one_named_first decided cover covers

-- the job of this kind is dropped
abbrev Drops : UnitJobs → UnitJobs → JobKind → Type 0
Drops before after kind = (state : JobState) × (job_of kind before ≡ Some state) × (job_of kind after ≢ Some state)

drops_or_not : (before after : UnitJobs) (kind : JobKind) → IsDecided (Drops before after kind)
drops_or_not before after kind = by_job (job_of kind before) refl
  where
    by_job : (o : Option JobState) → job_of kind before ≡ o → IsDecided (Drops before after kind)
    by_job None e = inr (λ dropped. none-some dropped.0 (sym e ∙ dropped.1))
    by_job (Some state) e = elim (same_option same_job_state (job_of kind after) (Some state)) as (λ _. IsDecided (Drops before after kind)) [
      | inr apart ↦ inl (state, e, apart)
      | inl stays ↦ inr (λ dropped. dropped.2 (stays ∙ (sym e ∙ dropped.1)))
    ]

-- one of the jobs of a unit is dropped or none is
pub one_dropped : (before after : UnitJobs) → IsDecided (DropsOne before after)
one_dropped before after = decided_as there (back before after) (either_decided (drops_or_not before after job.Stop) (drops_or_not before after job.Start))
  where
    there : Drops before after job.Stop ⊎ Drops before after job.Start → DropsOne before after
    there (inl d) = drops job.Stop d.0 d.1 d.2
    there (inr d) = drops job.Start d.0 d.1 d.2

    back : (b a : UnitJobs) → DropsOne b a → Drops b a job.Stop ⊎ Drops b a job.Start
    back b a (drops job.Stop state was isnt) = inl (state, was, isnt)
    back b a (drops job.Start state was isnt) = inr (state, was, isnt)

-- a unit of which a job is dropped is held
dropped_held : (before : ByUnit UnitJobs) (unit : List ℕ) (after : UnitJobs) → DropsOne (jobs_of_unit before unit) after → Among (map.keys before) unit
dropped_held before unit after (drops kind state was isnt) =
    among_keys before unit (held before (record { unit = unit; kind = kind }) (λ none. none-some state (sym none ∙ was)))

-- a job of the unit is dropped
abbrev DropsAt : ByUnit UnitJobs → ByUnit UnitJobs → List ℕ → Type 0
DropsAt before after unit = DropsOne (jobs_of_unit before unit) (jobs_of_unit after unit)

drop_or_none : (mode : JobMode) (before after : ByUnit UnitJobs) → OneOrNone (NamesDrop mode before after)
drop_or_none Replace before after = inr (λ r h. let is = h.fails in cc)
drop_or_none Fail before after =
    by_least (least_or_none (DropsAt before after) (λ unit. one_dropped (jobs_of_unit before unit) (jobs_of_unit after unit)) (map.keys before)
    (λ unit d. dropped_held before unit (jobs_of_unit after unit) d))
  where
    by_least : NoneOrLeast (DropsAt before after) → OneOrNone (NamesDrop Fail before after)
    by_least (inl none) = inr (λ r h. none h.names.name h.names.least.has)
    by_least (inr found) = inl (job_conflict found.0, record { fails = refl; names = record { name = found.0; least = found.1; told = refl } })

one_drop : (mode : JobMode) (before after : ByUnit UnitJobs) (r q : Refused) → NamesDrop mode before after r → NamesDrop mode before after q → r ≡ q
one_drop mode before after r q h k = one_named (DropsAt before after) (λ unit r. r ≡ job_conflict unit) (λ unit r q e f. e ∙ sym f) r q h.names k.names

-- two refusals for the first cause that holds are the same, unless both are for the last
one_unless : (A B C : Refused → Type 0) → ((r q : Refused) → A r → A q → r ≡ q) → ((r q : Refused) → B r → B q → (r ≡ q) ⊎ (C r × C q))
    → (r q : Refused) → FirstCause A B r → FirstCause A B q → (r ≡ q) ⊎ (C r × C q)
one_unless A B C one other r q (at_first h) (at_first k) = inl (one r q h k)
one_unless A B C one other r q (at_first h) (at_second none k) = absurd (none r h)
one_unless A B C one other r q (at_second none h) (at_first k) = absurd (none q k)
one_unless A B C one other r q (at_second none h) (at_second neither k) = other r q h k

-- the pending jobs have a cycle that refuses, or none
pub cycle_or_no_refusal : (Before : List ℕ → List ℕ → Type 0) → ((x y : List ℕ) → IsDecided (Before x y)) → (pending : ByUnit UnitJobs) → OneOrNone (NamesCycle Before pending)
cycle_or_no_refusal Before decided pending = by_cycle (jobs_cycle_or_none Before decided pending)
  where
    named : (cycle : List Job) → IsCycle (ComesBefore Before pending) cycle → OneOrNone (NamesCycle Before pending)
    named cycle c =
        let d = least_unit_first (ComesBefore Before pending) cycle c in
        inl (ordering_cycle (units_of d.0), record { cycle = d.0; closed = d.1; least = d.2; refusal = refl })

    by_cycle : ((cycle : List Job) × IsCycle (ComesBefore Before pending) cycle) ⊎ ((cycle : List Job) → ¬ (IsCycle (ComesBefore Before pending) cycle))
        → OneOrNone (NamesCycle Before pending)
    by_cycle (inl found) = named found.0 found.1
    by_cycle (inr none) = inr (λ r h. none h.cycle h.closed)

-- if no cause refuses the plan, its jobs have no cycle
pub free_of_causes : (scene : Scene) (root : Demand × List ℕ) (mode : JobMode) (after : ByUnit UnitJobs) → ((r : Refused) → ¬ (CausesOfPlan scene root mode after r))
    → (cycle : List Job) → ¬ (IsCycle (ComesBefore scene.IsBefore after) cycle)
free_of_causes scene root mode after none cycle c = none (ordering_cycle (units_of turned.0)) (last (record { cycle = turned.0; closed = turned.1; least = turned.2; refusal = refl }))
  where
    turned : (d : List Job) × IsCycle (ComesBefore scene.IsBefore after) d × BeginsWithLeast (units_of d)
    turned = least_unit_first (ComesBefore scene.IsBefore after) cycle c

    last : NamesCycle scene.IsBefore after (ordering_cycle (units_of turned.0)) → CausesOfPlan scene root mode after (ordering_cycle (units_of turned.0))
    last h =
        at_second (λ r barred. none r (at_first barred))
        (at_second (λ r clashes. none r (at_second (λ q barred. none q (at_first barred)) (at_first clashes)))
        (at_second (λ r dropped. none r (at_second (λ q barred. none q (at_first barred))
        (at_second (λ q clashes. none q (at_second (λ x barred. none x (at_first barred)) (at_first clashes))) (at_first dropped)))) h))

-- ---- of finitely many units

module _ (scene : Scene) (units : List (List ℕ)) (finite : IsFinite scene units) (root : Demand × List ℕ) where
  demands_or_not : (p : Demand × List ℕ) → IsDecided (Demands scene root p)
  demands_or_not =
      demanded_or_not scene.Depends (IsActive scene) scene.IsLoadable units finite.within same_name finite.depends (λ x. active_or_not (scene.activity x)) finite.loadable root

  demands_within : (p : Demand × List ℕ) → Demands scene root p → Among (root.1 ∷ units) p.1
  demands_within =
      demanded_within scene.Depends (IsActive scene) scene.IsLoadable units finite.within same_name finite.depends (λ x. active_or_not (scene.activity x)) finite.loadable root

  -- for each unit a demand counts, or none
  pub counts_some : (unit : List ℕ) → (counted : Option Demand) × Counts scene root unit counted
  counts_some unit = by_demands (demands_or_not (Restart, unit)) (demands_or_not (Start, unit)) (demands_or_not (Stop, unit))
    where
      by_demands : IsDecided (Demands scene root (Restart, unit)) → IsDecided (Demands scene root (Start, unit)) → IsDecided (Demands scene root (Stop, unit))
          → (counted : Option Demand) × Counts scene root unit counted
      by_demands (inl r) start stop = (Some Restart, restarted r)
      by_demands (inr nr) (inl s) stop = (Some Start, started nr s)
      by_demands (inr nr) (inr ns) (inl p) = (Some Stop, stopped nr ns p)
      by_demands (inr nr) (inr ns) (inr np) = (None, left nr ns np)

  -- ---- one plan

  -- two plans are the same
  pub one_plan : (u v : ByUnit UnitJobs) → IsPlan scene root u → IsPlan scene root v → u ≡ v
  one_plan u v p q = same_tidy no_jobs u v p.tidy q.tidy same_jobs
    where
      same_jobs : (unit : List ℕ) → jobs_of_unit u unit ≡ jobs_of_unit v unit
      same_jobs unit = let c = counts_some unit in p.jobs unit c.0 c.1 ∙ sym (q.jobs unit c.0 c.1)

  -- the jobs of the unit after the demand that counts for it
  planned_jobs : List ℕ → UnitJobs
  planned_jobs unit = jobs_for (counts_some unit).0 (scene.activity unit) (jobs_of_unit scene.pending unit)

  -- the units of which a job can be pending before or after
  abbrev concerned : List (List ℕ)
  concerned = (root.1 ∷ units) ++ map.keys scene.pending

  jobless : (unit : List ℕ) → ¬ (Among concerned unit) → planned_jobs unit ≡ no_jobs
  unfolding planned_jobs
  jobless unit isnt =
      let nothing = none_counts scene root unit (counts_some unit).0 (λ d h. isnt (among_left (root.1 ∷ units) (map.keys scene.pending) unit (demands_within (d, unit) h))) (counts_some unit).1 in
      ap (λ o. jobs_for o (scene.activity unit) (jobs_of_unit scene.pending unit)) nothing
      ∙ not_held no_jobs scene.pending unit (λ key. isnt (among_right (root.1 ∷ units) (map.keys scene.pending) unit key))

  -- there is a plan
  pub a_plan : (after : ByUnit UnitJobs) × IsPlan scene root after
  unfolding planned_jobs
  a_plan = by_map (a_job_map planned_jobs concerned jobless)
    where
      by_map : (after : ByUnit UnitJobs) × AreTidyJobs after × ((unit : List ℕ) → jobs_of_unit after unit ≡ planned_jobs unit) → (after : ByUnit UnitJobs) × IsPlan scene root after
      by_map (after, tidy, are) = (
        after,
        record {
          tidy = tidy;
          jobs = λ unit counted c.
              are unit
              ∙ ap (λ o. jobs_for o (scene.activity unit) (jobs_of_unit scene.pending unit)) (counts_one scene root unit (counts_some unit).0 counted (counts_some unit).1 c);
        },
      )

  -- ---- one cause or none

  started_or_not : (unit : List ℕ) → IsDecided (IsStarted scene root unit)
  started_or_not unit = either_decided (demands_or_not (Start, unit)) (demands_or_not (Restart, unit))

  started_within : (unit : List ℕ) → IsStarted scene root unit → Among (root.1 ∷ units) unit
  started_within unit (inl h) = demands_within (Start, unit) h
  started_within unit (inr h) = demands_within (Restart, unit) h

  barred_or_not : (unit : List ℕ) → IsDecided (IsBarred scene root unit)
  barred_or_not unit = decided_as there back (both_decided (started_or_not unit) (one_or_not (finite.cannot unit)))
    where
      one_or_not : OneOrNone (scene.CannotStart unit) → IsDecided ((r : Refused) × scene.CannotStart unit r)
      one_or_not (inl found) = inl found
      one_or_not (inr none) = inr (λ found. none found.0 found.1)

      there : IsStarted scene root unit × ((r : Refused) × scene.CannotStart unit r) → IsBarred scene root unit
      there both = record { started = both.0; refusal = both.1.0; cause = both.1.1 }

      back : IsBarred scene root unit → IsStarted scene root unit × ((r : Refused) × scene.CannotStart unit r)
      back h = (h.started, (h.refusal, h.cause))

  clashes_or_not : (unit : List ℕ) → IsDecided (Clashes scene root unit)
  clashes_or_not unit =
      decided_as (λ both. record { started = both.0; stopped = both.1 }) (λ h. (h.started, h.stopped)) (both_decided (started_or_not unit) (demands_or_not (Stop, unit)))

  barred_or_none : OneOrNone (NamesLeast (IsBarred scene root) scene.CannotStart)
  barred_or_none =
      named_or_none (IsBarred scene root) scene.CannotStart (λ unit h. (h.refusal, h.cause))
      (least_or_none (IsBarred scene root) barred_or_not (root.1 ∷ units) (λ unit h. started_within unit h.started))

  clash_or_none : OneOrNone (NamesLeast (Clashes scene root) (λ unit r. r ≡ clash unit))
  clash_or_none =
      named_or_none (Clashes scene root) (λ unit r. r ≡ clash unit) (λ unit h. (clash unit, refl))
      (least_or_none (Clashes scene root) clashes_or_not (root.1 ∷ units) (λ unit h. started_within unit h.started))

  -- one cause refuses a plan, or none does
  pub cause_or_none : (mode : JobMode) (after : ByUnit UnitJobs) → OneOrNone (CausesOfPlan scene root mode after)
  cause_or_none mode after =
      first_or_none _ _ barred_or_none (first_or_none _ _ clash_or_none (first_or_none _ _ (drop_or_none mode scene.pending after) (cycle_or_no_refusal scene.IsBefore finite.before after)))

  -- two refusals of a plan are the same, unless each names a cycle
  pub one_cause : (mode : JobMode) (after : ByUnit UnitJobs) (r q : Refused) → CausesOfPlan scene root mode after r → CausesOfPlan scene root mode after q
      → (r ≡ q) ⊎ (NamesCycle scene.IsBefore after r × NamesCycle scene.IsBefore after q)
  one_cause mode after =
      one_unless _ _ (NamesCycle scene.IsBefore after) (one_named (IsBarred scene root) scene.CannotStart finite.one_cannot)
      (one_unless _ _ (NamesCycle scene.IsBefore after) (one_named (Clashes scene root) (λ unit r. r ≡ clash unit) (λ unit r q e f. e ∙ sym f))
      (one_unless _ _ (NamesCycle scene.IsBefore after) (one_drop mode scene.pending after) (λ r q h k. inr (h, k))))
