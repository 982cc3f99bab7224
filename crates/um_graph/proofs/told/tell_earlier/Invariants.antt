use Rattle.std.proofs.Common.{◌≡◌, ◌++◌, map as each, string_bytes, take}
use Rattle.std.specs.List.{flat_map}
use Rattle.um_graph.specs.Tells.{follows_by}
use Rattle.um_graph.proofs.told.tell_earlier.Given as goal

abbrev pub invariant-loop-name : goal.invariant-loop-name
invariant-loop-name l = record {
  told : l.told.items ≡ l.initial.told.items ++ flat_map (follows_by l.initial.resolved l.unit) (each string_bytes (take l.name-index l.names));
  tree : l.resolved ≡ l.initial.resolved;
}
