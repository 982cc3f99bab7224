use Rattle.std.proofs.Common.{IsTrue, ◌≡◌, ◌+◌, ◌*◌, ◌≤◌, take, vec_len, vec_capacity}
use Rattle.um_fates.specs.Fates.{Heard, inputs_in}
use Rattle.um_fates.specs.Live.{has}
use Rattle.um_fates.proofs.fates.hear.Given as goal

abbrev pub invariant-loop-number : goal.invariant-loop-number
invariant-loop-number g l = record {
  done : Heard l.absent l.moment (λ n. has n l.marks) (g.C.Children.honest l.initial.children) (g.C.Children.whole l.children) (g.C.Children.past l.initial.children) (g.C.Children.past l.children) (take l.number-index l.live) (inputs_in l.initial.inputs.items) (inputs_in l.inputs.items);
  len : vec_len l.inputs ≤ vec_len l.initial.inputs + 2 * l.number-index;
  capacity : vec_capacity l.initial.inputs ≤ vec_capacity l.inputs;
  whole : IsTrue (g.C.Children.whole l.children) → IsTrue (g.C.Children.whole l.initial.children);
  honest : g.C.Children.honest l.children ≡ g.C.Children.honest l.initial.children;
}
