use Rattle.std.proofs.Common.{◌≡◌, length}
use Rattle.um_graph.specs.Known.{LeavesOut}
use Rattle.um_graph.proofs.known.Known.next.Given as goal

abbrev pub decreases-loop-name : goal.decreases-loop-name
decreases-loop-name l = length l.self.left.items

abbrev pub invariant-loop-name : goal.invariant-loop-name
invariant-loop-name l = record {
  out : LeavesOut l.initial.self.loaded l.initial.self.left.items l.self.left.items;
  loaded : l.self.loaded ≡ l.initial.self.loaded;
  told : l.self.told ≡ l.initial.self.told;
  followed : l.self.followed ≡ l.initial.self.followed;
}
