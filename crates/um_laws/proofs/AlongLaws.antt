-- It is decided which starts a failed start takes along, and so one state is left after it.
use Rattle.std.proofs.Common.{◌≡◌, ◌∙◌, ℕ, List, [], ◌∷◌, Some, refl, sym, inl, inr}
use Rattle.std.proofs.lemmas.Option.{none-some}
use Rattle.std.specs.FinMap as map
use Rattle.um_model.specs.Dependencies.{Depends, extra}
use Rattle.um_model.specs.Jobs.{jobs_of_unit, no_jobs, start_job}
use Rattle.um_model.specs.Machine.{State, IsBefore, NeedsStart, IsTakenAlong, TakesAlong}
use Rattle.um_model.specs.Reached.{first, next}
use Rattle.um_model.specs.Service.{dead_unit, state_of_unit}
use Rattle.um_model.specs.Profiles.{ReadTree}
use Rattle.um_model.specs.declared.dependencies.DependencyKind.{DependencyKind}
use Rattle.um_model.specs.declared.dependencies.DependencyKind.TheVariants.{Requires, BindsTo}
use Rattle.um_model.specs.declared.jobs.JobState.TheVariants.{Waiting}
use Rattle.um_model.specs.declared.service.UnitResult.TheVariants.{Dependency}
use Rattle.um_model.specs.declared.service.UnitState.{UnitState}
use Rattle.um_laws.proofs.AmongLaws.{both_decided, either_decided, decided_as, IsListOf}
use Rattle.um_laws.proofs.CycleLaws.{held}
use Rattle.um_laws.proofs.KnownLaws.{depends_or_not, precedes_or_not}
use Rattle.um_model.proofs.LeastLaws.{IsDecided, Among}
use Rattle.um_model.proofs.OwnNameLaws.{depends_anyhow, precedes_anyhow}
use Rattle.um_laws.proofs.ReachedLaws.{reached_or_not}
use Rattle.um_model.proofs.SameUnits.{same_job_state}
use Rattle.um_model.proofs.TimersLaws.{among_keys, same_option}
use Rattle.um_model.proofs.UnitLaws.{same_tidy}

-- a unit whose start was taken along
abbrev pub with_result_dependency : UnitState → UnitState
with_result_dependency u = record u { result = Dependency }

-- ---- whatever else is known, two units are

abbrev pub Everything : List ℕ → Type 0
Everything unit = Unit {0}

-- the two units alone
abbrev These : List ℕ → List ℕ → List ℕ → Type 0
These x y = Among (x ∷ y ∷ [])

these_listed : (x y : List ℕ) → IsListOf (These x y) (x ∷ y ∷ [])
these_listed x y = record { has = λ a is. is; all = λ a is. is }

-- one unit goes before another by the tree, or not
pub before_or_not : (tree : ReadTree) (x y : List ℕ) → IsDecided (IsBefore tree x y)
before_or_not tree x y =
    decided_as (precedes_anyhow tree (These x y) Everything x y (first (extra tt)) (first (extra tt)))
    (precedes_anyhow tree Everything (These x y) x y (first (extra (inl refl))) (first (extra (inr (inl refl)))))
    (precedes_or_not tree (These x y) (x ∷ y ∷ []) (these_listed x y) x y)

-- one unit depends on another in this kind, or not
pub depends_by_all : (tree : ReadTree) (kind : DependencyKind) (x y : List ℕ) → IsDecided (Depends tree Everything kind x y)
depends_by_all tree kind x y =
    decided_as (depends_anyhow tree (These x y) Everything kind x y (first (extra tt)) (first (extra tt)))
    (depends_anyhow tree Everything (These x y) kind x y (first (extra (inl refl))) (first (extra (inr (inl refl)))))
    (depends_or_not tree (These x y) (x ∷ y ∷ []) (these_listed x y) kind x y)

-- ---- the starts that a failed start takes along

-- the start of a unit waits for that of another, or not
pub needs_or_not : (s : State) (other unit : List ℕ) → IsDecided (NeedsStart s other unit)
needs_or_not s other unit =
    decided_as (λ h. record { needs = h.0; later = h.1.0; waits = h.1.1 }) (λ h. (h.needs, (h.later, h.waits)))
    (both_decided (either_decided (depends_by_all s.loaded Requires unit other) (depends_by_all s.loaded BindsTo unit other))
    (both_decided (before_or_not s.loaded other unit) (same_option same_job_state (jobs_of_unit s.pending unit).start (Some Waiting))))

needs_pending : (s : State) (other unit : List ℕ) → NeedsStart s other unit → Among (map.keys s.pending) unit
needs_pending s other unit h = among_keys s.pending unit (held s.pending (start_job unit) (λ none. none-some Waiting (sym none ∙ h.waits)))

taken_pending : (s : State) (failed unit : List ℕ) → IsTakenAlong s failed unit → Among (map.keys s.pending) unit
taken_pending s failed unit (first h) = needs_pending s failed unit h
taken_pending s failed unit (next {a = other} taken h) = needs_pending s other unit h

-- the start of a unit is taken along, or not
pub taken_along_or_not : (s : State) (failed unit : List ℕ) → IsDecided (IsTakenAlong s failed unit)
taken_along_or_not s failed = reached_or_not (NeedsStart s failed) (NeedsStart s) (map.keys s.pending) (taken_pending s failed) (needs_or_not s failed) (needs_or_not s)

module _ (s : State) (failed : List ℕ) (u v : State) (h : TakesAlong s failed u) (k : TakesAlong s failed v) where
  same_jobs : (unit : List ℕ) → jobs_of_unit u.pending unit ≡ jobs_of_unit v.pending unit
  same_jobs unit = elim (taken_along_or_not s failed unit) as (λ _. jobs_of_unit u.pending unit ≡ jobs_of_unit v.pending unit) [
    | inl taken ↦ h.starts unit taken ∙ sym (k.starts unit taken)
    | inr stays ↦ h.other_jobs unit stays ∙ sym (k.other_jobs unit stays)
  ]

  same_states : (unit : List ℕ) → state_of_unit u.units unit ≡ state_of_unit v.units unit
  same_states unit = elim (taken_along_or_not s failed unit) as (λ _. state_of_unit u.units unit ≡ state_of_unit v.units unit) [
    | inl taken ↦ h.results unit taken ∙ sym (k.results unit taken)
    | inr stays ↦ h.other_units unit stays ∙ sym (k.other_units unit stays)
  ]

  -- one state is left after a failed start took others along
  pub one_along : u ≡ v
  one_along =
      let pending = same_tidy no_jobs u.pending v.pending h.tidy_jobs k.tidy_jobs same_jobs in
      let units = same_tidy dead_unit u.units v.units h.tidy_units k.tidy_units same_states in
      h.rest ∙ ((λ i. record s { units = units i; pending = pending i }) ∙ sym k.rest)
