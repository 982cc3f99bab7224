use Rattle.std.proofs.Common.{◌≡◌, IsTrue}
use Rattle.um_manager.specs.Orders.{LetGo}
use Rattle.um_manager.proofs.round.forget_ended.Given as goal

abbrev pub invariant-loop-number : goal.invariant-loop-number
invariant-loop-number g l = record {
  let_go : IsTrue (g.C.Children.honest l.initial.children) → IsTrue (g.C.Children.whole l.children) → LetGo l.units.held (g.C.Children.past l.initial.children) (g.C.Children.past l.children);
  whole : IsTrue (g.C.Children.whole l.children) → IsTrue (g.C.Children.whole l.initial.children);
  honest : g.C.Children.honest l.children ≡ g.C.Children.honest l.initial.children;
}
