-- The code's test for a dropped job agrees with the definition.
use Rattle.std.proofs.Common.{◌≡◌, ◌∙◌, Bool, true, false, true≢false, ◌||◌, Option, Some, None, refl, sym, ap}
use Rattle.um_model.specs.Jobs.{DropsOne, drops, job_of, no_jobs}
use Rattle.um_model.specs.declared.jobs.JobKind.{JobKind}
use Rattle.um_model.specs.declared.jobs.JobKind.TheVariants.{Stop, Start}
use Rattle.um_model.specs.declared.jobs.JobState.{JobState}
use Rattle.um_model.specs.declared.jobs.JobState.TheVariants.{Waiting, Running}
use Rattle.um_model.specs.declared.jobs.UnitJobs.{UnitJobs}
use Rattle.um_jobs.specs.Drops.{is_dropped, drops_one}

-- one job
gone : (before after : Option JobState) → is_dropped before after ≡ true → (state : JobState) × (before ≡ Some state) × (after ≡ Some state → ⊥)
gone None after e = absurd (true≢false (sym e))
gone (Some Waiting) (Some Waiting) e = absurd (true≢false (sym e))
gone (Some Waiting) (Some Running) e = (Waiting, refl, λ f. cc)
gone (Some Waiting) None e = (Waiting, refl, λ f. cc)
gone (Some Running) (Some Running) e = absurd (true≢false (sym e))
gone (Some Running) (Some Waiting) e = (Running, refl, λ f. cc)
gone (Some Running) None e = (Running, refl, λ f. cc)

stays : (before after : Option JobState) (state : JobState) → before ≡ Some state → (after ≡ Some state → ⊥) → is_dropped before after ≡ true
stays None after state e f = cc
stays (Some Waiting) (Some Waiting) state e f = absurd (f e)
stays (Some Waiting) (Some Running) state e f = refl
stays (Some Waiting) None state e f = refl
stays (Some Running) (Some Running) state e f = absurd (f e)
stays (Some Running) (Some Waiting) state e f = refl
stays (Some Running) None state e f = refl

or_true : (a : Bool) → (a || true) ≡ true
or_true true = refl
or_true false = refl

-- if the test says so, a job is dropped
pub told_dropped : (before after : UnitJobs) → drops_one before after ≡ true → DropsOne before after
told_dropped before after t = elim (is_dropped before.stop after.stop) as (λ b. is_dropped before.stop after.stop ≡ b → (b || is_dropped before.start after.start) ≡ true → DropsOne before after) [
  | true ↦ λ e _. let g = gone before.stop after.stop e in drops Stop g.0 g.1 g.2
  | false ↦ λ _ e. let g = gone before.start after.start e in drops Start g.0 g.1 g.2
] refl t

dropped_of : (kind : JobKind) (before after : UnitJobs) (state : JobState) → job_of kind before ≡ Some state → (job_of kind after ≡ Some state → ⊥) → drops_one before after ≡ true
dropped_of Stop before after state e f = ap (λ b. b || is_dropped before.start after.start) (stays before.stop after.stop state e f)
dropped_of Start before after state e f = ap (λ b. is_dropped before.stop after.stop || b) (stays before.start after.start state e f) ∙ or_true (is_dropped before.stop after.stop)

-- if a job is dropped, the test says so
pub dropped_told : (before after : UnitJobs) → DropsOne before after → drops_one before after ≡ true
dropped_told before after (drops kind state e f) = dropped_of kind before after state e f

none_of : (kind : JobKind) (state : JobState) → job_of kind no_jobs ≡ Some state → ⊥
none_of Stop state e = cc
none_of Start state e = cc

-- no job of a unit without jobs is dropped
pub none_dropped : (after : UnitJobs) → DropsOne no_jobs after → ⊥
none_dropped after (drops kind state e f) = none_of kind state e
