-- Rows in work that are marked where they are set: the others are as they were.
use Rattle.std.proofs.Common.{◌≡◌, ◌∙◌, ◌<◌, ℕ, Bool, true, false, true≢false, List, length, set, not, ap, sym}
use Rattle.std.proofs.lemmas.List.{get_or-set_same, get_or-set_other}
use Rattle.um_model.specs.Jobs.{no_jobs}
use Rattle.um_model.specs.Service.{dead_unit}
use Rattle.um_model.specs.declared.jobs.UnitJobs.{UnitJobs}
use Rattle.um_model.specs.declared.service.UnitState.{UnitState}
use Rattle.um_state.specs.Finding.{row_at}
use Rattle.um_state.specs.Working.{KeepUnmarked, differ_at, mark_at, pending_at}
use Rattle.um_state.proofs.SameRows.{same_rows}

-- what hasn't changed is unchanged under any marks
pub all_kept : (marks : List Bool) (was units : List UnitState) (had jobs : List UnitJobs) → units ≡ was → jobs ≡ had → KeepUnmarked marks was had units jobs
all_kept marks was units had jobs u j = record { same_unit = λ i e. ap (λ us. row_at us i) u; same_jobs = λ i e. ap (λ js. pending_at js i) j }

-- a row without a mark doesn't differ
pub no_difference : (marks : List Bool) (was units : List UnitState) (had jobs : List UnitJobs) → KeepUnmarked marks was had units jobs
    → (i : ℕ) → mark_at marks i ≡ false → differ_at was had units jobs i ≡ false
no_difference marks was units had jobs kept i e = ap not (same_rows _ _ _ _ (sym (kept.same_unit i e)) (sym (kept.same_jobs i e)))

module _ (marks : List Bool) (i : ℕ) (here : i < length marks) where
  -- a number that has no mark then isn't the one that got it
  other : (k : ℕ) → mark_at (set marks i true) k ≡ false → k ≡ i → ⊥
  other k e same = true≢false (sym (get_or-set_same marks i true false here) ∙ (ap (mark_at (set marks i true)) (sym same) ∙ e))

  unmarked : (k : ℕ) → mark_at (set marks i true) k ≡ false → mark_at marks k ≡ false
  unmarked k e = sym (get_or-set_other marks i k true false (other k e)) ∙ e

  module _ (was units : List UnitState) (had jobs : List UnitJobs) (kept : KeepUnmarked marks was had units jobs) where
    pub unit_marked : (u : UnitState) (new : List UnitState) → new ≡ set units i u → KeepUnmarked (set marks i true) was had new jobs
    unit_marked u new is = record {
      same_unit = λ k e. ap (λ us. row_at us k) is ∙ (get_or-set_other units i k u dead_unit (other k e) ∙ kept.same_unit k (unmarked k e));
      same_jobs = λ k e. kept.same_jobs k (unmarked k e);
    }

    pub jobs_marked : (j : UnitJobs) → KeepUnmarked (set marks i true) was had units (set jobs i j)
    jobs_marked j = record {
      same_unit = λ k e. kept.same_unit k (unmarked k e);
      same_jobs = λ k e. get_or-set_other jobs i k j no_jobs (other k e) ∙ kept.same_jobs k (unmarked k e);
    }
