use Rattle.std.proofs.Common.{◌≡◌, ◌++◌, ◌+◌, ◌≤◌, List, ℕ, IsTrue, Bool, map, vec_len, vec_capacity}
use Rattle.std.specs.Vec.Iter.{into_iter_items, into_iter_len}
use Rattle.um_keeper.specs.Answering.{all_asked}
use Rattle.um_model.specs.Children.{Call}
use Rattle.um_state.specs.View.{reply_of}
use Rattle.um_manager.specs.Orders.{Carries}
use Rattle.um_manager.specs.Replies.{reply_in}
use Rattle.um_manager.proofs.orders.carry_all.Given as goal

abbrev pub decreases-loop-answer : goal.decreases-loop-answer
decreases-loop-answer g l = into_iter_len l.rest

abbrev pub invariant-loop-answer : goal.invariant-loop-answer
invariant-loop-answer g l = record {
  done : (past : List Call) (marks : List ℕ) (b : Bool) → (IsTrue b → IsTrue (g.C.Children.whole l.children)) → Carries (g.C.Children.honest l.children) b l.units.held (g.C.Children.past l.children) past l.marks marks (all_asked (into_iter_items l.rest)) → Carries (g.C.Children.honest l.initial.children) b l.units.held (g.C.Children.past l.initial.children) past l.initial.marks marks (all_asked l.fn.answers.items);
  whole : IsTrue (g.C.Children.whole l.children) → IsTrue (g.C.Children.whole l.initial.children);
  honest : g.C.Children.honest l.children ≡ g.C.Children.honest l.initial.children;
  replies : map reply_of l.replies.items ++ map reply_in (into_iter_items l.rest) ≡ map reply_of l.initial.replies.items ++ map reply_in l.fn.answers.items;
  room : vec_len l.replies + into_iter_len l.rest ≤ vec_capacity l.replies;
}
