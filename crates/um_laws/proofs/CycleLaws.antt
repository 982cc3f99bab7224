-- The pending jobs have a cycle or none, and removing jobs makes none; if there is none and a job waits, some pending
-- job has none before it.
use Rattle.std.proofs.Common.{◌≡◌, ◌⊎◌, ℕ, List, [], ◌∷◌, Option, Some, None, is_some, unwrap_or, true, refl, sym, ◌∙◌, ap, subst, inl, inr}
use Rattle.std.proofs.lemmas.List.Elements.{All-map}
use Rattle.std.proofs.lemmas.Option.{none-some}
use Rattle.std.specs.FinMap as map
use Rattle.um_model.specs.Jobs.{Job, stop_job, start_job, job_of, no_jobs, state_of_job, GoesBefore, starts, stops, stops_then_starts, stops_then_starts_before, of_one_unit, ComesBefore, IsPending}
use Rattle.um_model.specs.Least.{IsNamedBefore}
use Rattle.um_model.specs.Order.{IsCycle}
use Rattle.um_model.specs.Plan.{BeginsWithLeast, units_of}
use Rattle.um_model.specs.Service.{ByUnit}
use Rattle.um_model.specs.declared.jobs.JobKind.{JobKind}
use Rattle.um_model.specs.declared.jobs.JobKind.TheVariants.{Stop, Start}
use Rattle.um_model.specs.declared.jobs.JobState.TheVariants.{Waiting}
use Rattle.um_model.specs.declared.jobs.UnitJobs.{UnitJobs}
use Rattle.um_laws.proofs.AmongLaws.{both_decided, decided_as, either_decided, not_decided}
use Rattle.um_model.proofs.LeastLaws.{IsDecided, Among}
use Rattle.um_laws.proofs.OrderLaws.{BeginsWithLeastBy, IsFirstOf, LeadsOn, cycle_or_none, cycle_weaker, first_of_all, least_turned, sets_out}
use Rattle.um_model.proofs.SameUnits.{same_job_state}
use Rattle.um_model.proofs.TimersLaws.{among_keys, named_trans, names_one_way, one_named_first, same_name, same_option}

-- ---- fewer jobs

comes_earlier : (IsBefore : List ℕ → List ℕ → Type 0) (before later : ByUnit UnitJobs) → ((job : Job) → state_of_job later job ≡ Some Waiting → (state_of_job before job ≡ Some Waiting))
    → ((job : Job) → IsPending later job → IsPending before job) → (job other : Job) → ComesBefore IsBefore later job other → ComesBefore IsBefore before job other
comes_earlier IsBefore before later waits pends job other c = record { pends = pends job c.pends; waits = waits other c.waits; goes = c.goes }

-- no cycle arises if no job waits or is pending that wasn't so before
pub fewer_free : (IsBefore : List ℕ → List ℕ → Type 0) (before later : ByUnit UnitJobs) → ((job : Job) → state_of_job later job ≡ Some Waiting → (state_of_job before job ≡ Some Waiting))
    → ((job : Job) → IsPending later job → IsPending before job) → ((cycle : List Job) → ¬ (IsCycle (ComesBefore IsBefore before) cycle))
    → (cycle : List Job) → ¬ (IsCycle (ComesBefore IsBefore later) cycle)
fewer_free IsBefore before later waits pends none cycle c =
    none cycle (cycle_weaker (ComesBefore IsBefore later) (ComesBefore IsBefore before) (comes_earlier IsBefore before later waits pends) cycle c)

-- ---- a cycle from its least unit on

abbrev AtMost : Job → Job → Type 0
AtMost job other = ¬ (IsNamedBefore other.unit job.unit)

either_at_most : (name other : List ℕ) → (¬ (IsNamedBefore other name)) ⊎ (¬ (IsNamedBefore name other))
either_at_most name other = elim (same_name name other) as (λ _. (¬ (IsNamedBefore other name)) ⊎ (¬ (IsNamedBefore name other))) [
  | inl is ↦ inl (λ h. let own = subst (λ n. IsNamedBefore other n) is h in names_one_way other other own own)
  | inr apart ↦ elim (one_named_first name other apart) as (λ _. (¬ (IsNamedBefore other name)) ⊎ (¬ (IsNamedBefore name other))) [
    | inl less ↦ inl (λ h. names_one_way name other less h)
    | inr more ↦ inr (λ h. names_one_way name other h more)
  ]
]

at_most_trans : (a b c : List ℕ) → ¬ (IsNamedBefore b a) → ¬ (IsNamedBefore c b) → ¬ (IsNamedBefore c a)
at_most_trans a b c f g h = elim (same_name b c) as (λ _. ⊥) [
  | inl is ↦ f (subst (λ n. IsNamedBefore n a) (sym is) h)
  | inr apart ↦ elim (one_named_first b c apart) as (λ _. ⊥) [
    | inl less ↦ f (named_trans b c a less h)
    | inr more ↦ g more
  ]
]

least_units : (cycle : List Job) → BeginsWithLeastBy AtMost cycle → BeginsWithLeast (units_of cycle)
least_units [] h = tt
least_units (x ∷ xs) h = All-map (λ u. ¬ (IsNamedBefore u x.unit)) (λ (j : Job). j.unit) xs h

-- a cycle of jobs can be turned so that it begins with its least unit
pub least_unit_first : (P : Job → Job → Type 0) (cycle : List Job) → IsCycle P cycle → (turned : List Job) × IsCycle P turned × BeginsWithLeast (units_of turned)
least_unit_first P cycle c =
    let d = least_turned AtMost (λ x y. either_at_most x.unit y.unit) (λ x y z f g. at_most_trans x.unit y.unit z.unit f g) P cycle c in
    (d.0, d.1, least_units d.0 d.2)

-- ---- the pending jobs are finitely many

-- the jobs of these units
abbrev pub jobs_of : List (List ℕ) → List Job
jobs_of [] = []
jobs_of (unit ∷ units) = stop_job unit ∷ start_job unit ∷ jobs_of units

here : (unit : List ℕ) (units : List (List ℕ)) (kind : JobKind) → Among (jobs_of (unit ∷ units)) (record { unit = unit; kind = kind })
here unit units Stop = inl refl
here unit units Start = inr (inl refl)

among_jobs : (units : List (List ℕ)) (unit : List ℕ) (kind : JobKind) → Among units unit → Among (jobs_of units) (record { unit = unit; kind = kind })
among_jobs [] unit kind none = none
among_jobs (first ∷ units) unit kind (inl is) =
    subst (λ u. Among (jobs_of (first ∷ units)) (record { unit = u; kind = kind })) (sym is) (here first units kind)
among_jobs (first ∷ units) unit kind (inr later) = inr (inr (among_jobs units unit kind later))

job_of_none : (kind : JobKind) → job_of kind no_jobs ≡ None
job_of_none Stop = refl
job_of_none Start = refl

-- a unit with a pending job is held
pub held : (pending : ByUnit UnitJobs) (job : Job) → IsPending pending job → is_some (map.get pending job.unit) ≡ true
held pending job pends = by_entry (map.get pending job.unit) refl
  where
    by_entry : (o : Option UnitJobs) → map.get pending job.unit ≡ o → is_some o ≡ true
    by_entry (Some j) e = refl
    by_entry None e = absurd (pends (ap (λ o. job_of job.kind (unwrap_or o no_jobs)) e ∙ job_of_none job.kind))

-- a pending job is among those of the units that are held
pub among_pending : (pending : ByUnit UnitJobs) (job : Job) → IsPending pending job → Among (jobs_of (map.keys pending)) job
among_pending pending job pends = among_jobs (map.keys pending) job.unit job.kind (among_keys pending job.unit (held pending job pends))

waits_pending : (pending : ByUnit UnitJobs) (job : Job) → state_of_job pending job ≡ Some Waiting → IsPending pending job
waits_pending pending job waits none = none-some Waiting (sym none ∙ waits)

-- ---- which job comes before which is decided

module _ (IsBefore : List ℕ → List ℕ → Type 0) where
  -- the order of their units by which jobs of these kinds go one before the other
  abbrev GoesBy : JobKind → JobKind → List ℕ → List ℕ → Type 0
  GoesBy Start Start x y = IsBefore x y
  GoesBy Start Stop x y = ⊥
  GoesBy Stop Stop x y = IsBefore y x
  GoesBy Stop Start x y = (x ≡ y) ⊎ (IsBefore x y ⊎ IsBefore y x)

  goes_by : (job other : Job) → GoesBefore IsBefore job other → GoesBy job.kind other.kind job.unit other.unit
  goes_by job other (starts h) = h
  goes_by job other (stops h) = h
  goes_by job other (stops_then_starts h) = inr (inl h)
  goes_by job other (stops_then_starts_before h) = inr (inr h)
  goes_by job other of_one_unit = inl refl

  by_goes : (kind other : JobKind) (x y : List ℕ) → GoesBy kind other x y → GoesBefore IsBefore (record { unit = x; kind = kind }) (record { unit = y; kind = other })
  by_goes Start Start x y h = starts h
  by_goes Start Stop x y never = absurd never
  by_goes Stop Stop x y h = stops h
  by_goes Stop Start x y (inl is) = subst (λ z. GoesBefore IsBefore (stop_job x) (start_job z)) is of_one_unit
  by_goes Stop Start x y (inr (inl h)) = stops_then_starts h
  by_goes Stop Start x y (inr (inr h)) = stops_then_starts_before h

  module _ (decided : (x y : List ℕ) → IsDecided (IsBefore x y)) where
    by_or_not : (kind other : JobKind) (x y : List ℕ) → IsDecided (GoesBy kind other x y)
    by_or_not Start Start x y = decided x y
    by_or_not Start Stop x y = inr (λ never. never)
    by_or_not Stop Stop x y = decided y x
    by_or_not Stop Start x y = either_decided (same_name x y) (either_decided (decided x y) (decided y x))

    goes_or_not : (job other : Job) → IsDecided (GoesBefore IsBefore job other)
    goes_or_not job other =
        decided_as (by_goes job.kind other.kind job.unit other.unit) (goes_by job other) (by_or_not job.kind other.kind job.unit other.unit)

    module _ (pending : ByUnit UnitJobs) where
      -- one job comes before another or not
      pub comes_or_not : (job other : Job) → IsDecided (ComesBefore IsBefore pending job other)
      comes_or_not job other =
          decided_as there (λ c. (c.pends, (c.waits, c.goes)))
          (both_decided (not_decided (same_option same_job_state (state_of_job pending job) None))
          (both_decided (same_option same_job_state (state_of_job pending other) (Some Waiting)) (goes_or_not job other)))
        where
          there : IsPending pending job × ((state_of_job pending other ≡ Some Waiting) × GoesBefore IsBefore job other) → ComesBefore IsBefore pending job other
          there both = record { pends = both.0; waits = both.1.0; goes = both.1.1 }

      covers : (job other : Job) → ComesBefore IsBefore pending job other
          → Among (jobs_of (map.keys pending)) job × Among (jobs_of (map.keys pending)) other
      covers job other c = (among_pending pending job c.pends, among_pending pending other (waits_pending pending other c.waits))

      -- the pending jobs have a cycle or none
      pub jobs_cycle_or_none : ((cycle : List Job) × IsCycle (ComesBefore IsBefore pending) cycle) ⊎ ((cycle : List Job) → ¬ (IsCycle (ComesBefore IsBefore pending) cycle))
      jobs_cycle_or_none = cycle_or_none (ComesBefore IsBefore pending) (jobs_of (map.keys pending)) covers comes_or_not

      -- if they have none and a job waits, nothing comes before some pending job, which is that one or leads to it
      pub a_first_job : ((cycle : List Job) → ¬ (IsCycle (ComesBefore IsBefore pending) cycle)) → (job : Job) → state_of_job pending job ≡ Some Waiting
          → (found : Job) × IsPending pending found × IsFirstOf (ComesBefore IsBefore pending) job found
      a_first_job none job waits =
          let b = first_of_all (ComesBefore IsBefore pending) (jobs_of (map.keys pending)) covers comes_or_not none job (among_pending pending job (waits_pending pending job waits)) in
          (b.0, pends b.0 b.2.leads, b.2)
        where
          pends : (found : Job) → (found ≡ job) ⊎ LeadsOn (ComesBefore IsBefore pending) found job → IsPending pending found
          pends found (inl is) = subst (IsPending pending) (sym is) (waits_pending pending job waits)
          pends found (inr r) = (sets_out (ComesBefore IsBefore pending) found job r).1.pends
