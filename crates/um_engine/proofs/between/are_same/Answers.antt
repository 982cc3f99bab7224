use Rattle.std.proofs.Common.{refl, subst, sym, true≢false}
use Rattle.um_state.specs.View.{state_of}
use Rattle.um_engine.specs.Engine.{AreTrees}
use Rattle.um_engine.proofs.between.are_same.Goals as goal

pub returns-in-Stay : goal.returns-in-Stay
returns-in-Stay c = (λ t. subst (λ trees. AreTrees trees (state_of c.args.state.now) (state_of c.args.other.now)) c.in-Stay.is c.requires, λ same. refl)

pub returns-in-Differ : goal.returns-in-Differ
returns-in-Differ c = (
  λ t. absurd (true≢false (sym t)),
  λ same. absurd (subst (λ trees. AreTrees trees (state_of c.args.state.now) (state_of c.args.other.now)) c.in-Differ.is c.requires same.tree),
)

pub returns-in-Untold : goal.returns-in-Untold
returns-in-Untold c = (
  λ t. let e = c.has_same_trees.ensures.0 t in record { tree = e.0; loaded = e.1; boot = e.2 },
  λ same. c.has_same_trees.ensures.1 (same.tree, same.loaded, same.boot),
)
