-- `Known` is exact if the state holds each unit for which the graph was made. Rows that let none of these go keep it exact.
use Rattle.std.proofs.Common.{◌≡◌, ◌≢◌, ◌⊎◌, ◌∙◌, ◌<◌, ◌≤◌, ℕ, Bool, true, false, true≢false, not, All, List, [], ◌∷◌, Contains, Some, None, length, refl, sym, ap, subst, inl, inr}
use Rattle.std.proofs.lemmas.Bool.{cases_lt}
use Rattle.std.proofs.lemmas.List.Elements.{All-head, All-tail}
use Rattle.std.specs.FinMap as map
use Rattle.std.specs.Prelude.{◌&&◌, IfOk, Result, Ok, Err, slice_get, unwrap_or}
use Rattle.um_laws.proofs.FewLaws.{step_few}
use Rattle.um_laws.proofs.KnownLaws.{more_known}
use Rattle.um_model.specs.Profiles.{ReadTree, lasting_tree}
use Rattle.um_model.specs.Dependencies.{extra}
use Rattle.um_model.specs.Jobs.{has_job, no_jobs, with_jobs}
use Rattle.um_model.specs.Machine.{State, Input, IsHeld, Reply, Step}
use Rattle.um_model.specs.Reached.{first}
use Rattle.um_model.specs.Servable.{IsFew}
use Rattle.um_model.specs.Refusals.{too_large}
use Rattle.um_model.specs.Service.{Action, ByUnit, dead_unit, holds_nothing, with_unit}
use Rattle.um_model.specs.Standing.{Standing}
use Rattle.um_model.specs.declared.jobs.UnitJobs.{UnitJobs}
use Rattle.um_model.specs.declared.refusals.Limit.TheVariants.{Units}
use Rattle.um_model.specs.declared.service.UnitState.{UnitState}
use Rattle.um_model.proofs.TimersLaws.{same_name}
use Rattle.um_model.proofs.UnitLaws.{jobs_here, state_here}
use Rattle.um_name.specs.Names.{name_at}
use Rattle.um_graph.proofs.NamedLaws.{name_got}
use Rattle.um_state.specs.Rows.{put_row, rows_after, timed}
use Rattle.um_state.specs.View.{state_of}
use Rattle.um_state.specs.declared.delta.Delta.{Delta}
use Rattle.um_state.specs.declared.row.Row.{Row}
use Rattle.um_state.proofs.PutLaws.{jobs_put_well, units_put}
use Rattle.um_state.proofs.TableLaws.{put_past, put_within}
use Rattle.um_falling.proofs.AlongLaws.{pending_apart, units_apart}
use Rattle.um_engine.specs.Engine.{KeepsExact, changed, served_by}
use Rattle.um_engine.specs.Exact.{IsExact, IsExactIfFew, LetsNoneGo, holds_none}
use Rattle.um_engine.specs.Known.{IsFull, KnownView, KnowsFor}
use Rattle.um_engine.specs.Served.{ServedView, standing_of}
use Rattle.um_engine.specs.declared.engine.Change.{Change}
use Rattle.um_engine.specs.declared.engine.Change.TheVariants.{Nothing, Rows, Tables}
use Rattle.um_engine.proofs.KnownLaws.{exact_for}
use Rattle.um_engine.proofs.RowLaws.{delta_knows}

-- ---- where the state holds all for which the graph was made

pub exact_made : (v : ServedView) → KnowsFor v.known v.state → ((x : List ℕ) → Contains v.known.extra x → IsHeld v.state x) → IsExactIfFew v
exact_made v knows made few = record { just = (exact_for v.state v.known knows made).known; made = made; few = few }

-- the same for a state that is numbered, and whose `Known` is for it
pub exact_at : (u : ServedView) (k : KnownView) (s : State) → u.state ≡ s → u.known ≡ k → KnowsFor k s → ((x : List ℕ) → Contains k.extra x → IsHeld s x) → IsExactIfFew u
exact_at u k s state known knows made =
    exact_made u (subst (λ (x : State). KnowsFor u.known x) (sym state) (subst (λ (x : KnownView). KnowsFor x s) (sym known) knows))
    (λ x among. subst (λ (y : State). IsHeld y x) (sym state) (made x (subst (λ (j : KnownView). Contains j.extra x) known among)))

pub exact_on : {E : Type 0} (result : Result ServedView E) (k : KnownView) (s : State) → IfOk result (λ u. u.state ≡ s) → IfOk result (λ u. u.known ≡ k) → KnowsFor k s
    → ((x : List ℕ) → Contains k.extra x → IsHeld s x) → IfOk result IsExactIfFew
exact_on (Ok u) k s state known knows made = exact_at u k s state known knows made
exact_on (Err e) k s state known knows made = state

-- too many units are known with some where they are with fewer
pub full_less : (tree : ReadTree) (E F : List ℕ → Type 0) → ((x : List ℕ) → E x → F x) → IsFull tree E → IsFull tree F
full_less tree E F into (inl many) = inl (more_known tree E F (λ x e. first (extra (into x e))) many)
full_less tree E F into (inr many) = inr (more_known (lasting_tree tree) E F (λ x e. first (extra (into x e))) many)

-- if too many units would be known for the state, nothing is claimed
pub exact_full : (v : ServedView) → IsFull v.state.loaded (IsHeld v.state) → IsExactIfFew v
exact_full v full few = absurd (few (too_large Units) (record { many = full; refusal = refl }))

-- ---- a row that is put

both_false : (a b : Bool) → (a && not b) ≡ false → (a ≡ false) ⊎ (b ≡ true)
both_false true true e = inr refl
both_false true false e = absurd (true≢false e)
both_false false b e = inl refl

unit_held : (units : ByUnit UnitState) (x : List ℕ) (u : UnitState) → holds_nothing u ≡ false → ¬ (map.get (with_unit units x u) x ≡ None)
unit_held units x u holds none =
    let dead : dead_unit ≡ u = sym (ap (λ o. unwrap_or o dead_unit) none) ∙ state_here units x u in
    true≢false (ap holds_nothing dead ∙ holds)

jobs_held : (pending : ByUnit UnitJobs) (x : List ℕ) (j : UnitJobs) → has_job j ≡ true → ¬ (map.get (with_jobs pending x j) x ≡ None)
jobs_held pending x j has none =
    let without : no_jobs ≡ j = sym (ap (λ o. unwrap_or o no_jobs) none) ∙ jobs_here pending x j in
    true≢false (sym has ∙ ap has_job (sym without))

module _ (x : List ℕ) (r : Row) (s : Standing) where
  -- past the last name nothing is put
  put_beyond : length s.names ≤ r.number → IsHeld s.state x → IsHeld (put_row r s).state x
  put_beyond past (inl h) = inl (λ e. h (sym (ap (λ m. map.get m x) (put_past dead_unit with_unit units_put s.names s.state.units r.number r.unit past)) ∙ e))
  put_beyond past (inr h) = inr (λ e. h (sym (ap (λ m. map.get m x) (put_past no_jobs with_jobs jobs_put_well s.names s.state.pending r.number r.jobs past)) ∙ e))

  module _ (within : r.number < length s.names) where
    units_are : (put_row r s).state.units ≡ with_unit s.state.units (name_at s.names r.number) r.unit
    units_are = put_within dead_unit with_unit units_put s.names s.state.units r.number r.unit within

    jobs_are : (put_row r s).state.pending ≡ with_jobs s.state.pending (name_at s.names r.number) r.jobs
    jobs_are = put_within no_jobs with_jobs jobs_put_well s.names s.state.pending r.number r.jobs within

    -- of another unit the same is held as before
    put_other : x ≢ name_at s.names r.number → IsHeld s.state x → IsHeld (put_row r s).state x
    put_other apart (inl h) = inl (λ e. h (sym (units_apart s.state.units (name_at s.names r.number) r.unit x apart) ∙ (sym (ap (λ m. map.get m x) units_are) ∙ e)))
    put_other apart (inr h) = inr (λ e. h (sym (pending_apart s.state.pending (name_at s.names r.number) r.jobs x apart) ∙ (sym (ap (λ m. map.get m x) jobs_are) ∙ e)))

    -- of its own unit the row's contents are held
    put_own : x ≡ name_at s.names r.number → (holds_nothing r.unit ≡ false) ⊎ (has_job r.jobs ≡ true) → IsHeld (put_row r s).state x
    put_own is (inl h) =
        inl (λ e. unit_held s.state.units x r.unit h (ap (λ n. map.get (with_unit s.state.units n r.unit) x) is ∙ (sym (ap (λ m. map.get m x) units_are) ∙ e)))
    put_own is (inr h) =
        inr (λ e. jobs_held s.state.pending x r.jobs h (ap (λ n. map.get (with_jobs s.state.pending n r.jobs) x) is ∙ (sym (ap (λ m. map.get m x) jobs_are) ∙ e)))

  put_held : (slice_get s.names r.number ≡ Some x → holds_none r ≡ false) → IsHeld s.state x → IsHeld (put_row r s).state x
  put_held holds held = elim (cases_lt r.number (length s.names)) as (λ _. IsHeld (put_row r s).state x) [
    | inl within ↦ elim (same_name x (name_at s.names r.number)) as (λ _. IsHeld (put_row r s).state x) [
      | inl is ↦ put_own within is (both_false (holds_nothing r.unit) (has_job r.jobs) (holds (name_got s.names r.number within ∙ ap Some (sym is))))
      | inr apart ↦ put_other within apart held
    ]
    | inr past ↦ put_beyond past held
  ]

-- ---- rows that let none go

-- a row lets its unit go where it is one for which the graph was made, and nothing is held of it by the row
pub one_goes : (k : KnownView) (r : Row) → r.number < length k.graph.names → ((unit : List ℕ) → slice_get k.graph.names r.number ≡ Some unit → Contains k.extra unit) → holds_none r ≡ true
    → ¬ LetsNoneGo k r
one_goes k r within among holds none =
    let at = name_got k.graph.names r.number within in
    true≢false (sym holds ∙ none (name_at k.graph.names r.number) at (among (name_at k.graph.names r.number) at))

rows_held : (x : List ℕ) (rows : List Row) (s : Standing) → All (λ r. slice_get s.names r.number ≡ Some x → holds_none r ≡ false) rows → IsHeld s.state x → IsHeld (rows_after rows s).state x
rows_held x [] s all held = held
rows_held x (r ∷ rows) s all held =
    let Holds : Row → Type 0 = λ r. slice_get s.names r.number ≡ Some x → holds_none r ≡ false in
    rows_held x rows (put_row r s) (All-tail Holds r rows all) (put_held x r s (All-head Holds r rows all) held)

-- a delta whose rows let no unit go leaves `Known` exact
pub rows_exact : (v : ServedView) (d : Delta) → KnowsFor v.known v.state → All (LetsNoneGo v.known) d.rows.items → KeepsExact v (Rows d)
rows_exact v d knows none exact =
    exact_made (served_by (Rows d) v) (delta_knows v.known d (standing_of v) ((refl, refl), knows)).1
    (λ x among. rows_held x d.rows.items (timed d.clock d.next (standing_of v)) (λ i default within number. none i default within x number among) (exact.made x among))

-- and so it is when `Known` is made again
pub given_exact : (v after : ServedView) (change : Change) → served_by change v ≡ after → IsExactIfFew after → KeepsExact v change
given_exact v after change is made exact = subst IsExactIfFew (sym is) made

-- the state that a change leads to is that of the value served after it
pub same_state : (v : ServedView) (change : Change) → state_of (changed change (standing_of v)) ≡ (served_by change v).state
same_state v Nothing = refl
same_state v (Rows delta) = refl
same_state v (Tables given rows) = refl

-- so a step from a state for which `Known` is exact leads to one for which it is exact
pub exact_after : (size : ℕ) (v : ServedView) (i : Input) (reply : Reply) (actions : List Action) (change : Change) → Step size v.state i reply actions (state_of (changed change (standing_of v)))
    → KeepsExact v change → IsExact v → IsExact (served_by change v)
exact_after size v i reply actions change step keeps exact =
    keeps exact (subst IsFew (same_state v change) (step_few size v.state i reply actions (state_of (changed change (standing_of v))) step exact.few))
