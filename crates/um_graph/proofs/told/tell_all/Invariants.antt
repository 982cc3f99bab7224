use Rattle.std.proofs.Common.{◌≡◌, ◌++◌, map as each, string_bytes, take}
use Rattle.std.specs.List.{flat_map}
use Rattle.um_graph.specs.Tells.{names_given}
use Rattle.um_graph.proofs.told.tell_all.Given as goal

abbrev pub invariant-loop-name : goal.invariant-loop-name
invariant-loop-name l = record {
  told : l.told.items ≡ l.initial.told.items ++ flat_map (names_given l.initial.resolved l.link l.unit) (each string_bytes (take l.name-index l.names));
  tree : l.resolved ≡ l.initial.resolved;
}
