-- The checks of one unit, and the plan, one unit after another.
use Rattle.std.proofs.Common.{◌≡◌, ◌≢◌, ◌∙◌, ◌+◌, ◌<◌, ℕ, true, false, List, [], ◌∷◌, ◌++◌, length, None, Result, Ok, Err, IfErr, unwrap_or, slice_get, codes, sym, ap, subst, inl, inr, is_some, arith}
use Rattle.std.proofs.lemmas.Bool.{cases_lt}
use Rattle.std.specs.Result.{IsErrAnd}
use Rattle.std.proofs.lemmas.List.{get_or_append_left, get_or_push}
use Rattle.std.proofs.lemmas.Option.{unwrap_or-slice_get}
use Rattle.um_model.specs.Dependencies.{loadable_of}
use Rattle.um_model.specs.Jobs.{no_jobs}
use Rattle.um_model.specs.Machine as machine
use Rattle.um_model.specs.Machine.{CannotStart}
use Rattle.um_model.specs.Names.{is_template}
use Rattle.um_model.specs.Refusals.{Refused, not_found, masked, bad_setting}
use Rattle.um_model.specs.Units.{LoadedUnit, Found, Masked, NotFound, BadSetting}
use Rattle.um_model.specs.declared.jobs.UnitJobs.{UnitJobs}
use Rattle.um_unit.specs.View.{loading_of}
use Rattle.um_unit.specs.declared.loaded.Loading.TheVariants as loading
use Rattle.um_wire.specs.Gives.{RefusesBy}
use Rattle.um_wire.specs.Refusal.{refused_of}
use Rattle.um_wire.specs.declared.refusal.Refusal.{Refusal}
use Rattle.um_wire.specs.declared.refusal.Refusal.TheVariants.{NoMemory}
use Rattle.um_graph.specs.Graph.{GraphView}
use Rattle.um_transact.specs.Checks.{BarsBy, CannotStartBy, is_started}
use Rattle.um_jobs.specs.Named.{jobs_at}
use Rattle.um_graph.specs.Named.{name_at}
use Rattle.um_transact.specs.Situation.{is_loadable_at}
use Rattle.um_transact.specs.Walk.{marks_at}
use Rattle.um_transact.specs.declared.walk.Marks.{Marks}

-- ---- past the last unit
pub none_loadable : (g : GraphView) (u : ℕ) → slice_get g.loadings u ≡ None → is_loadable_at g u ≡ false
none_loadable g u e = ap (λ l. is_some (loadable_of (loading_of l))) (sym (unwrap_or-slice_get g.loadings u loading.NotFound) ∙ ap (λ o. unwrap_or o loading.NotFound) e)

pub none_named : (names : List (List ℕ)) (u : ℕ) → slice_get names u ≡ None → name_at names u ≡ []
none_named names u e = sym (unwrap_or-slice_get names u []) ∙ ap (λ o. unwrap_or o []) e

-- ---- why a unit can't be started
pub a_template : (asked : List ℕ) (l : LoadedUnit) (r : Refused) → is_template l.name ≡ true → r ≡ bad_setting l.name (codes "template") → CannotStart asked (Found l) r
a_template asked l r template is = subst (CannotStart asked (Found l)) (sym is) (machine.is_a_template template)

pub nowhere : (asked : List ℕ) (r : Refused) → r ≡ not_found asked → CannotStart asked NotFound r
nowhere asked r is = subst (CannotStart asked NotFound) (sym is) machine.isnt_found

pub behind_a_mask : (asked unit : List ℕ) (r : Refused) → r ≡ masked unit → CannotStart asked (Masked unit) r
behind_a_mask asked unit r is = subst (CannotStart asked (Masked unit)) (sym is) machine.is_masked

pub of_bad_setting : (asked unit reason : List ℕ) (r : Refused) → r ≡ bad_setting unit reason → CannotStart asked (BadSetting unit reason) r
of_bad_setting asked unit reason r is = subst (CannotStart asked (BadSetting unit reason)) (sym is) machine.has_bad_setting

-- a unit that is started is barred if it can't be
pub bars_by : {X : Type 0} (g : GraphView) (marks : List Marks) (u : ℕ) (result : Result X Refusal) → is_started (marks_at marks u) ≡ true
    → RefusesBy (CannotStartBy g u) result → RefusesBy (BarsBy g marks u) result
bars_by g marks u (Ok done) s h = λ r b. h r b.cause
bars_by g marks u (Err e) s h = λ differs. record { started = s; cause = h differs }

-- a property of a refusal is one of the result that passes it on
pub err_is : {X : Type 0} (P : Refusal → Type 0) (result : Result X Refusal) (e : Refusal) → IsErrAnd result (λ f. f ≡ e) → P e → IfErr result P
err_is P (Ok done) e h p = absurd h
err_is P (Err f) e h p = subst P (sym h) p

-- a call that passes on another's refusal is refused for its cause
pub refuses_on : {X : Type 0} (Cause : Refused → Type 0) (result : Result X Refusal) (e : Refusal) → IsErrAnd result (λ f. f ≡ e) → (e ≢ NoMemory → Cause (refused_of e))
    → RefusesBy Cause result
refuses_on Cause (Ok done) e h cause = absurd h
refuses_on Cause (Err f) e h cause = subst (λ (r : Refusal). r ≢ NoMemory → Cause (refused_of r)) (sym h) cause

-- ---- the plan
pub planned_more : (f : ℕ → UnitJobs) (plan new : List UnitJobs) (n : ℕ) (j : UnitJobs) → length plan ≡ n → new ≡ plan ++ j ∷ [] → j ≡ f n → ((u : ℕ) → u < n → jobs_at plan u ≡ f u) → (u : ℕ) → u < n + 1 → jobs_at new u ≡ f u
planned_more f plan new n j len e is each u h = elim (cases_lt u n) as (λ _. jobs_at new u ≡ f u) [
  | inl lower ↦ ap (λ xs. jobs_at xs u) e ∙ (get_or_append_left plan (j ∷ []) no_jobs u (omega arith) ∙ each u lower)
  | inr past ↦ let at : length plan ≡ u = omega arith in let here : n ≡ u = omega arith in ap (λ xs. jobs_at xs u) e ∙ (get_or_push plan j no_jobs u at ∙ (is ∙ ap f here))
]
