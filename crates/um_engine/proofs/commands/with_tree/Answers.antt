use Rattle.std.proofs.Common.{◌∙◌, ap}
use Rattle.um_model.specs.Machine as model
use Rattle.um_model.specs.Machine.{State}
use Rattle.um_state.specs.View.{state_of}
use Rattle.um_engine.proofs.KnownLaws.{knows_loaded}
use Rattle.um_engine.proofs.commands.with_tree.Goals as goal

pub numbered-requires : goal.numbered-requires
numbered-requires c =
    knows_loaded c.args.known.value (state_of c.args.state.now) (state_of c.load_tree.new.self) c.args.tree (model.as_loaded c.args.profile (state_of c.args.state.now) c.args.tree) c.requires
    (c.in_ok-load_tree.ensures.ok ∙ ap (λ (x : State). record x { tree = c.args.tree; loaded = model.as_loaded c.args.profile x c.args.tree }) c.in_ok-changed.ensures)
