use Rattle.std.proofs.Common.{◌∙◌, ap}
use Rattle.um_model.specs.Machine as model
use Rattle.um_model.specs.Machine.{State}
use Rattle.um_engine.proofs.commands.with_loaded.Goals as goal

pub returns : goal.returns
returns c = c.in_ok-reload.ensures.ok ∙ ap (λ (x : State). record x { loaded = model.as_loaded c.args.profile x x.tree }) c.in_ok-changed.ensures
