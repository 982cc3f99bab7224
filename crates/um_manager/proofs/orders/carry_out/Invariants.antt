use Rattle.std.proofs.Common.{◌≡◌, List, ℕ, length, IsTrue, Bool}
use Rattle.um_model.specs.Children.{Call}
use Rattle.um_manager.specs.Orders.{Carries}
use Rattle.um_manager.proofs.orders.carry_out.Given as goal

abbrev pub decreases-loop-handed : goal.decreases-loop-handed
decreases-loop-handed g l = length l.receipt.1

abbrev pub invariant-loop-handed : goal.invariant-loop-handed
invariant-loop-handed g l = record {
  done : (past : List Call) (marks : List ℕ) (b : Bool) → (IsTrue b → IsTrue (g.C.Children.whole l.children)) → Carries (g.C.Children.honest l.children) b l.units.held (g.C.Children.past l.children) past l.marks marks l.receipt.1 → Carries (g.C.Children.honest l.initial.children) b l.units.held (g.C.Children.past l.initial.children) past l.initial.marks marks l.fn.receipt.1;
  whole : IsTrue (g.C.Children.whole l.children) → IsTrue (g.C.Children.whole l.initial.children);
  honest : g.C.Children.honest l.children ≡ g.C.Children.honest l.initial.children;
  reply : l.receipt.0 ≡ l.fn.receipt.0;
}
