use Rattle.std.proofs.Common.{◌≡◌}
use Rattle.std.specs.BTreeMap.{IsOrdered, btree_map_len}
use Rattle.std.specs.Cmp.Lexicographic.{slice_cmp}
use Rattle.std.specs.Ordering.{nat_cmp}
use Rattle.um_unit.specs.View.{tree_read}
use Rattle.um_graph.specs.Followed.{AreFollowed}
use Rattle.um_graph.specs.Known.{IsUnderWay}
use Rattle.um_graph.proofs.known.Known.of.Given as goal

abbrev pub invariant-loop : goal.invariant-loop
invariant-loop l = record {
  whole : IsUnderWay (tree_read l.reading) l.extra l.known.loaded l.known.left.items l.known.told.items;
  count : btree_map_len l.known.loaded ≡ l.counter;
  ordered : IsOrdered (slice_cmp nat_cmp) l.known.loaded;
  resolved : l.resolved ≡ l.reading.tree.now;
  followed : AreFollowed l.known.loaded l.known.followed;
}
