use Rattle.std.proofs.Common.{◌≡◌, ◌-◌, ◌^◌}
use Rattle.std.specs.BTreeMap.{IsOrdered, btree_map_len}
use Rattle.std.specs.Cmp.Lexicographic.{slice_cmp}
use Rattle.std.specs.Ordering.{nat_cmp}
use Rattle.um_unit.specs.View.{tree_read}
use Rattle.um_graph.specs.Followed.{AreFollowed}
use Rattle.um_graph.specs.Known.{IsUnderWay}
use Rattle.um_graph.proofs.known.Known.all.Given as goal

abbrev pub invariant-loop-name : goal.invariant-loop-name
invariant-loop-name l = record {
  whole : IsUnderWay (tree_read l.reading) l.extra l.known.loaded l.known.left.items l.known.told.items;
  ordered : IsOrdered (slice_cmp nat_cmp) l.known.loaded;
  resolved : l.resolved ≡ l.reading.tree.now;
  followed : AreFollowed l.known.loaded l.known.followed;
}

-- how many more names a machine could count
abbrev pub decreases-loop-name : goal.decreases-loop-name
decreases-loop-name l = 2 ^ 64 - btree_map_len l.known.loaded
