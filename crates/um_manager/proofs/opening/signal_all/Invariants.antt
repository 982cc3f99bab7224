use Rattle.std.proofs.Common.{◌≡◌, IsTrue, take}
use Rattle.um_manager.specs.Opening.{Signalled}
use Rattle.um_manager.proofs.opening.signal_all.Given as goal

abbrev pub invariant-loop-number : goal.invariant-loop-number
invariant-loop-number g l = record {
  done : IsTrue (g.C.Children.honest l.initial.children) → IsTrue (g.C.Children.whole l.children) → Signalled l.units.held l.sub l.signal (take l.number-index l.numbers) (g.C.Children.past l.initial.children) (g.C.Children.past l.children);
  whole : IsTrue (g.C.Children.whole l.children) → IsTrue (g.C.Children.whole l.initial.children);
  honest : g.C.Children.honest l.children ≡ g.C.Children.honest l.initial.children;
}
