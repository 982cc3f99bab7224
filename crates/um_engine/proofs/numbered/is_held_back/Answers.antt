use Rattle.std.proofs.Common.{◌∙◌, sym, ap}
use Rattle.um_model.specs.Service.{active_state_of}
use Rattle.um_state.specs.View.{state_of}
use Rattle.um_engine.specs.Filled.{is_deactivating, is_held_back}
use Rattle.um_engine.proofs.numbered.is_held_back.Goals as goal

pub returns-in-Start : goal.returns-in-Start
returns-in-Start c x number =
    c.is_deactivating.ensures
    ∙ (ap (λ u. is_deactivating (active_state_of u.sub)) (c.unit.ensures.state x number) ∙ ap (is_held_back (state_of c.args.work.now.now) x) (sym c.in-Start.is))
