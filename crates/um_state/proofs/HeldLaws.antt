-- The units of which a state holds something, by the names that its maps have.
use Rattle.std.proofs.Common.{ℕ, ◌≡◌, ◌≢◌, ◌∙◌, ◌↔◌, ◌⊎◌, ◌++◌, Bool, true, false, not, List, Option, Some, None, is_some, unwrap_or, refl, sym, ap, inl, inr, true≢false}
use Rattle.std.specs.Prelude.{Contains}
use Rattle.std.specs.Cmp.{eq_by_cmp_equiv}
use Rattle.std.specs.Cmp.Lexicographic.{nat_list_cmp_total}
use Rattle.std.specs.FinMap as map
use Rattle.std.proofs.lemmas.List.Elements.{Contains-append_left, Contains-append_right, Contains-append_cases}
use Rattle.std.proofs.lemmas.Map.Views.{list_any-from_Contains}
use Rattle.std.proofs.lemmas.Option.{none-some}
use Rattle.um_laws.proofs.AmongLaws.{contains_among}
use Rattle.um_model.proofs.TimersLaws.{among_keys}
use Rattle.um_model.proofs.UnitLaws.{IsTidy, no_job_held, nothing_held}
use Rattle.um_model.specs.Jobs.{has_job, jobs_of_unit, no_jobs}
use Rattle.um_model.specs.Service.{ByUnit, dead_unit, holds_nothing, state_of_unit}
use Rattle.um_model.specs.declared.jobs.UnitJobs.{UnitJobs}
use Rattle.um_model.specs.declared.service.UnitState.{UnitState}

some_there : {A : Type 0} (o : Option A) → o ≢ None → is_some o ≡ true
some_there None h = absurd (h refl)
some_there (Some x) h = refl

pub key_there : {A : Type 0} (m : ByUnit A) (unit : List ℕ) → Contains (map.keys m) unit → map.get m unit ≢ None
key_there m unit key = λ none.
    let some : is_some (map.get m unit) ≡ true = map.contains_key-keys m unit ∙ list_any-from_Contains (eq_by_cmp_equiv nat_list_cmp_total) unit (map.keys m) key in
    true≢false (sym some ∙ ap is_some none)

pub there_key : {A : Type 0} (m : ByUnit A) (unit : List ℕ) → map.get m unit ≢ None → Contains (map.keys m) unit
there_key m unit there = contains_among (map.keys m) unit (among_keys m unit (some_there (map.get m unit) there))

-- a name that isn't held has no value
pub nothing_there : {A : Type 0} (nothing : A) (m : ByUnit A) (x : List ℕ) → (map.get m x ≢ None → ⊥) → unwrap_or (map.get m x) nothing ≡ nothing
nothing_there {A = A} nothing m x free = by (map.get m x) free
  where
    by : (o : Option A) → (o ≢ None → ⊥) → unwrap_or o nothing ≡ nothing
    by None h = refl
    by (Some v) h = absurd (h (λ e. none-some v (sym e)))

-- the names of two maps are those that either of them holds
pub keys_held : {A B : Type 0} (m : ByUnit A) (n : ByUnit B) (unit : List ℕ) → Contains (map.keys m ++ map.keys n) unit ↔ ((map.get m unit ≢ None) ⊎ (map.get n unit ≢ None))
keys_held m n unit = (
  λ key. elim (Contains-append_cases (map.keys m) (map.keys n) unit key) as (λ _. (map.get m unit ≢ None) ⊎ (map.get n unit ≢ None)) [
    | inl one ↦ inl (key_there m unit one)
    | inr other ↦ inr (key_there n unit other)
  ],
  λ held. elim held as (λ _. Contains (map.keys m ++ map.keys n) unit) [
    | inl one ↦ Contains-append_left (map.keys m) (map.keys n) unit (there_key m unit one)
    | inr other ↦ Contains-append_right (map.keys m) (map.keys n) unit (there_key n unit other)
  ],
)

-- ---- of which names something is held, by their values

held_unit : (v : UnitState) → v ≢ dead_unit → not (holds_nothing v) ≡ true
held_unit v other = by (holds_nothing v) refl
  where
    by : (b : Bool) → holds_nothing v ≡ b → not b ≡ true
    by true e = absurd (other (nothing_held v e))
    by false e = refl

pub unit_there : (m : ByUnit UnitState) → IsTidy dead_unit m → (x : List ℕ) → not (holds_nothing (state_of_unit m x)) ≡ is_some (map.get m x)
unit_there m tidy x = by (map.get m x) refl
  where
    by : (o : Option UnitState) → map.get m x ≡ o → not (holds_nothing (unwrap_or o dead_unit)) ≡ is_some o
    by None e = refl
    by (Some v) e = held_unit v (λ same. tidy x (e ∙ ap Some same))

held_jobs : (v : UnitJobs) → v ≢ no_jobs → has_job v ≡ true
held_jobs v other = by (has_job v) refl
  where
    by : (b : Bool) → has_job v ≡ b → b ≡ true
    by true e = refl
    by false e = absurd (other (no_job_held v e))

pub jobs_there : (m : ByUnit UnitJobs) → IsTidy no_jobs m → (x : List ℕ) → has_job (jobs_of_unit m x) ≡ is_some (map.get m x)
jobs_there m tidy x = by (map.get m x) refl
  where
    by : (o : Option UnitJobs) → map.get m x ≡ o → has_job (unwrap_or o no_jobs) ≡ is_some o
    by None e = refl
    by (Some v) e = held_jobs v (λ same. tidy x (e ∙ ap Some same))
