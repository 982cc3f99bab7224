-- Tidy maps of given values: of any jobs of units, and of any states, if all but those of a list are empty.
use Rattle.std.proofs.Common.{ℕ, ◌≡◌, ◌≢◌, ◌∙◌, List, [], ◌∷◌, Option, Some, None, is_some, unwrap_or, refl, sym, ap, inl, inr}
use Rattle.std.specs.FinMap as map
use Rattle.std.specs.Cmp.Lexicographic.{slice_cmp}
use Rattle.std.specs.Ordering.{nat_cmp}
use Rattle.um_model.specs.Jobs.{jobs_of_unit, no_jobs, with_jobs}
use Rattle.um_model.specs.Service.{ByUnit, dead_unit, state_of_unit, with_unit}
use Rattle.um_model.specs.declared.jobs.UnitJobs.{UnitJobs}
use Rattle.um_model.specs.declared.service.UnitState.{UnitState}
use Rattle.um_model.proofs.LeastLaws.{Among}
use Rattle.um_model.proofs.TimersLaws.{among_keys, same_name}
use Rattle.um_model.proofs.UnitLaws.{IsTidy, jobs_apart, jobs_here, state_apart, state_here, tidy_empty, tidy_jobs, tidy_units}

-- the value of a name in a map, or the empty value if the map has none
abbrev pub held_of : {A : Type 0} → A → ByUnit A → List ℕ → A
held_of nothing m unit = unwrap_or (map.get m unit) nothing

module _ {A : Type 0} (nothing : A) (put : ByUnit A → List ℕ → A → ByUnit A)
    (here : (m : ByUnit A) (unit : List ℕ) (a : A) → held_of nothing (put m unit a) unit ≡ a)
    (apart : (m : ByUnit A) (unit : List ℕ) (a : A) (other : List ℕ) → other ≢ unit → held_of nothing (put m unit a) other ≡ held_of nothing m other)
    (tidy : (m : ByUnit A) (unit : List ℕ) (a : A) → IsTidy nothing m → IsTidy nothing (put m unit a)) (value : List ℕ → A) where
  -- the values of these units, put into an empty map
  put_all : List (List ℕ) → ByUnit A
  put_all [] = map.empty
  put_all (unit ∷ others) = put (put_all others) unit (value unit)

  all_tidy : (units : List (List ℕ)) → IsTidy nothing (put_all units)
  unfolding put_all
  all_tidy [] = tidy_empty nothing
  all_tidy (unit ∷ others) = tidy (put_all others) unit (value unit) (all_tidy others)

  all_held : (units : List (List ℕ)) (unit : List ℕ) → (¬ (Among units unit) → value unit ≡ nothing) → held_of nothing (put_all units) unit ≡ value unit
  unfolding put_all
  all_held [] unit empty = ap (λ o. unwrap_or o nothing) (map.get-empty (slice_cmp nat_cmp) unit) ∙ sym (empty (λ none. none))
  all_held (other ∷ others) unit empty =
      elim (same_name unit other) as (λ _. held_of nothing (put (put_all others) other (value other)) unit ≡ value unit) [
        | inl is ↦ ap (held_of nothing (put (put_all others) other (value other))) is ∙ (here (put_all others) other (value other) ∙ ap value (sym is))
        | inr differs ↦ apart (put_all others) other (value other) unit differs
            ∙ all_held others unit (λ none. empty (λ among. elim among as (λ _. ⊥) [ inl is ↦ differs is | inr later ↦ none later ]))
      ]

  -- if all others have the empty value, a tidy map has just these values
  a_map : (units : List (List ℕ)) → ((unit : List ℕ) → ¬ (Among units unit) → value unit ≡ nothing)
      → (m : ByUnit A) × IsTidy nothing m × ((unit : List ℕ) → held_of nothing m unit ≡ value unit)
  a_map units empty = (put_all units, all_tidy units, λ unit. all_held units unit (empty unit))

-- if all other units have no jobs, tidy pending jobs are just these
pub a_job_map : (value : List ℕ → UnitJobs) (units : List (List ℕ)) → ((unit : List ℕ) → ¬ (Among units unit) → value unit ≡ no_jobs)
    → (m : ByUnit UnitJobs) × IsTidy no_jobs m × ((unit : List ℕ) → jobs_of_unit m unit ≡ value unit)
a_job_map = a_map no_jobs with_jobs jobs_here jobs_apart tidy_jobs

-- if all other units are dead, tidy units are just these
pub a_unit_map : (value : List ℕ → UnitState) (units : List (List ℕ)) → ((unit : List ℕ) → ¬ (Among units unit) → value unit ≡ dead_unit)
    → (m : ByUnit UnitState) × IsTidy dead_unit m × ((unit : List ℕ) → state_of_unit m unit ≡ value unit)
a_unit_map = a_map dead_unit with_unit state_here state_apart tidy_units

-- a map holds nothing of a name that isn't among its names
pub not_held : {A : Type 0} (nothing : A) (m : ByUnit A) (unit : List ℕ) → ¬ (Among (map.keys m) unit) → held_of nothing m unit ≡ nothing
not_held {A} nothing m unit none = by_entry (map.get m unit) refl
  where
    by_entry : (o : Option A) → map.get m unit ≡ o → unwrap_or (map.get m unit) nothing ≡ nothing
    by_entry None e = ap (λ o. unwrap_or o nothing) e
    by_entry (Some a) e = absurd (none (among_keys m unit (ap is_some e)))
