use Rattle.std.proofs.Common.{◌∙◌, ap}
use Rattle.um_jobs.specs.Jobs.{with_held_at, with_jobs_at}
use Rattle.um_model.specs.Jobs.{jobs_of_unit}
use Rattle.um_model.specs.Service.{active_state_of}
use Rattle.um_state.specs.View.{state_of}
use Rattle.um_engine.specs.Filled.{is_deactivating}
use Rattle.um_engine.proofs.numbered.tell.Goals as goal

pub returns : goal.returns
returns c x number =
    let s = state_of c.args.work.now.now in
    let v = c.args.jobs.now in
    let unit = c.args.unit in
    c.hold.ensures
    ∙ (ap (λ w. with_held_at w unit c.is_deactivating.result) c.tell_jobs.ensures
    ∙ (ap (λ j. with_held_at (with_jobs_at v unit j) unit c.is_deactivating.result) (c.jobs.ensures.jobs x number)
    ∙ ap (λ d. with_held_at (with_jobs_at v unit (jobs_of_unit s.pending x)) unit d)
    (c.is_deactivating.ensures ∙ ap (λ u. is_deactivating (active_state_of u.sub)) (c.unit.ensures.state x number))))
