-- A start that fails takes along the starts that need it: there is a state in which just these are gone.
use Rattle.std.proofs.Common.{ℕ, ◌≡◌, ◌∙◌, List, ◌++◌, Some, refl, sym, inl, inr}
use Rattle.std.specs.FinMap as map
use Rattle.std.proofs.lemmas.Option.{none-some}
use Rattle.um_model.specs.Jobs.{start_job, jobs_of_unit, no_jobs, without_start}
use Rattle.um_model.specs.Machine.{State, IsTakenAlong, TakesAlong}
use Rattle.um_model.specs.Reached.{first, next}
use Rattle.um_model.specs.Service.{ByUnit, dead_unit, state_of_unit}
use Rattle.um_model.specs.declared.jobs.JobState.TheVariants.{Waiting}
use Rattle.um_model.specs.declared.jobs.UnitJobs.{UnitJobs}
use Rattle.um_model.specs.declared.service.UnitState.{UnitState}
use Rattle.um_laws.proofs.AlongLaws.{taken_along_or_not, with_result_dependency}
use Rattle.um_laws.proofs.AmongLaws.{among_left, among_right}
use Rattle.um_laws.proofs.CycleLaws.{held}
use Rattle.um_laws.proofs.GivenMaps.{a_job_map, a_unit_map, not_held}
use Rattle.um_model.proofs.LeastLaws.{IsDecided, Among}
use Rattle.um_model.proofs.TimersLaws.{among_keys}
use Rattle.um_model.proofs.UnitLaws.{IsTidy}

-- ---- which starts are taken along

-- the start of a unit that is taken along waits
along_waits : (s : State) (failed unit : List ℕ) → IsTakenAlong s failed unit → (jobs_of_unit s.pending unit).start ≡ Some Waiting
along_waits s failed unit (first needs) = needs.waits
along_waits s failed unit (next reached needs) = needs.waits

along_held : (s : State) (failed unit : List ℕ) → IsTakenAlong s failed unit → Among (map.keys s.pending) unit
along_held s failed unit along =
    among_keys s.pending unit (held s.pending (start_job unit) (λ none. none-some Waiting (sym none ∙ along_waits s failed unit along)))

-- ---- the state without them

-- the one value if it holds, the other if it doesn't
abbrev either_value : {P A : Type 0} → IsDecided P → A → A → A
either_value (inl is) a b = a
either_value (inr isnt) a b = b

value_where : {P A : Type 0} (decided : IsDecided P) (a b : A) → P → either_value decided a b ≡ a
value_where (inl is) a b holds = refl
value_where (inr isnt) a b holds = absurd (isnt holds)

value_elsewhere : {P A : Type 0} (decided : IsDecided P) (a b : A) → ¬ P → either_value decided a b ≡ b
value_elsewhere (inl is) a b fails = absurd (fails is)
value_elsewhere (inr isnt) a b fails = refl

module _ (s : State) (failed : List ℕ) (decided : (unit : List ℕ) → IsDecided (IsTakenAlong s failed unit)) where
  abbrev jobs_without : List ℕ → UnitJobs
  jobs_without unit = either_value (decided unit) (without_start (jobs_of_unit s.pending unit)) (jobs_of_unit s.pending unit)

  abbrev state_without : List ℕ → UnitState
  state_without unit = either_value (decided unit) (with_result_dependency (state_of_unit s.units unit)) (state_of_unit s.units unit)

  abbrev concerned : List (List ℕ)
  concerned = map.keys s.pending ++ map.keys s.units

  not_along : (unit : List ℕ) → ¬ (Among concerned unit) → ¬ (IsTakenAlong s failed unit)
  not_along unit none along = none (among_left (map.keys s.pending) (map.keys s.units) unit (along_held s failed unit along))

  jobs_elsewhere : (unit : List ℕ) → ¬ (Among concerned unit) → jobs_without unit ≡ no_jobs
  jobs_elsewhere unit none =
      value_elsewhere (decided unit) (without_start (jobs_of_unit s.pending unit)) (jobs_of_unit s.pending unit) (not_along unit none)
      ∙ not_held no_jobs s.pending unit (λ key. none (among_left (map.keys s.pending) (map.keys s.units) unit key))

  state_elsewhere : (unit : List ℕ) → ¬ (Among concerned unit) → state_without unit ≡ dead_unit
  state_elsewhere unit none =
      value_elsewhere (decided unit) (with_result_dependency (state_of_unit s.units unit)) (state_of_unit s.units unit) (not_along unit none)
      ∙ not_held dead_unit s.units unit (λ key. none (among_right (map.keys s.pending) (map.keys s.units) unit key))

  -- if it is decided which starts are taken along, there is a state without them
  an_along_by : (s' : State) × TakesAlong s failed s'
  an_along_by = by_maps (a_job_map jobs_without concerned jobs_elsewhere) (a_unit_map state_without concerned state_elsewhere)
    where
      by_maps : (p : ByUnit UnitJobs) × IsTidy no_jobs p × ((unit : List ℕ) → jobs_of_unit p unit ≡ jobs_without unit)
          → (u : ByUnit UnitState) × IsTidy dead_unit u × ((unit : List ℕ) → state_of_unit u unit ≡ state_without unit) → (s' : State) × TakesAlong s failed s'
      by_maps (p, tidy_p, jobs_are) (u, tidy_u, states_are) = (
        record s { units = u; pending = p },
        record {
          starts = λ unit along. jobs_are unit ∙ value_where (decided unit) _ _ along;
          results = λ unit along. states_are unit ∙ value_where (decided unit) _ _ along;
          other_jobs = λ unit other. jobs_are unit ∙ value_elsewhere (decided unit) _ _ other;
          other_units = λ unit other. states_are unit ∙ value_elsewhere (decided unit) _ _ other;
          tidy_jobs = tidy_p;
          tidy_units = tidy_u;
          rest = refl;
        },
      )

-- there is a state in which the starts that a failed start takes along are gone
pub an_along : (s : State) (failed : List ℕ) → (s' : State) × TakesAlong s failed s'
an_along s failed = an_along_by s failed (taken_along_or_not s failed)
