use Rattle.std.proofs.Common.{◌≡◌, ◌++◌}
use Rattle.std.specs.List.{flat_map}
use Rattle.um_graph.specs.Tells.{entry_names, entry_told}
use Rattle.um_graph.proofs.entries.Found.add_tree.Given as goal

-- those found so far and those of the entries left are all
abbrev pub invariant-loop-path : goal.invariant-loop-path
invariant-loop-path l = record {
  names : l.self.names.items ++ flat_map entry_names l.path-iterator ≡ l.initial.self.names.items ++ flat_map entry_names l.initial.path-iterator;
  told : l.self.told.items ++ flat_map (entry_told l.tree) l.path-iterator ≡ l.initial.self.told.items ++ flat_map (entry_told l.tree) l.initial.path-iterator;
}
