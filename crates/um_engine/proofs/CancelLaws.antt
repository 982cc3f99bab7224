-- A cancel in a work that begins in the served state.
use Rattle.std.proofs.Common.{◌≡◌, ◌∙◌, ℕ, false, List, ap}
use Rattle.um_model.specs.declared.profile.Profile.{Profile}
use Rattle.um_model.specs.Profiles.{current}
use Rattle.um_model.specs.Jobs.{cancelled, jobs_of_unit}
use Rattle.um_model.specs.Machine.{State, Cancel, Changes, IsMissing, Refuses, unit_asked, with_plan}
use Rattle.um_model.specs.Refusals.{Refused, no_such_job}
use Rattle.um_model.specs.Waiting.{has_waiting}
use Rattle.um_state.specs.View.{state_of}
use Rattle.um_falling.specs.Work.{WorkView}
use Rattle.um_engine.specs.Served.{ServedView, begun_at, standing_of}
use Rattle.um_engine.proofs.Causes.{by_none_waiting, cancels_to, free_to_cancel, none_waits, some_waits}

module _ (v : ServedView) (t : ℕ) (asked unit : List ℕ) (u : WorkView) (begun : u ≡ begun_at (standing_of v) v.known.graph t) (is : unit ≡ unit_asked v.state asked) where
  -- no job of the unit waits, which is refused
  abbrev pub HasNone : Refused → Type 0
  HasNone r = (has_waiting (jobs_of_unit (state_of u.now).pending unit) ≡ false) × (r ≡ no_such_job unit)

  state_is : state_of u.now ≡ v.state
  state_is = ap (λ (x : WorkView). state_of x.now) begun

  jobs_are : jobs_of_unit (state_of u.now).pending unit ≡ jobs_of_unit v.state.pending unit
  jobs_are = ap (λ (x : State). jobs_of_unit x.pending unit) state_is

  module _ (there : (q : Refused) → ¬ IsMissing v.state asked q) where
    pub cancels_none : (r : Refused) → HasNone r → Refuses current v.state (Cancel asked) r
    cancels_none r h = by_none_waiting v.state asked r there (none_waits v.state asked unit (jobs_of_unit (state_of u.now).pending unit) is jobs_are r h)

    pub cancels_some : ((r : Refused) → ¬ HasNone r) → (r : Refused) → ¬ Refuses current v.state (Cancel asked) r
    cancels_some some = free_to_cancel v.state asked there (some_waits v.state asked unit (jobs_of_unit (state_of u.now).pending unit) is jobs_are some)

  module _ (w : WorkView) (put : state_of w.now ≡ with_plan (state_of u.now) unit (cancelled (jobs_of_unit (state_of u.now).pending unit))) where
    pub cancels_so : {profile : Profile} → Changes profile v.state (Cancel asked) (state_of w.now)
    cancels_so =
        cancels_to v.state asked (state_of u.now) (state_of w.now) unit (cancelled (jobs_of_unit (state_of u.now).pending unit)) state_is is
        (ap cancelled (jobs_are ∙ ap (jobs_of_unit v.state.pending) is)) put
