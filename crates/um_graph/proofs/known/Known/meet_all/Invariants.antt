use Rattle.std.proofs.Common.{◌≡◌, ◌++◌, take}
use Rattle.std.specs.List.{flat_map}
use Rattle.um_graph.specs.Known.{ends_left}
use Rattle.um_graph.proofs.known.Known.meet_all.Given as goal

abbrev pub invariant-loop-each : goal.invariant-loop-each
invariant-loop-each l = record {
  left : l.self.left.items ≡ l.initial.self.left.items ++ flat_map (ends_left l.initial.self.loaded) (take l.each-index l.told);
  loaded : l.self.loaded ≡ l.initial.self.loaded;
  told : l.self.told ≡ l.initial.self.told;
  followed : l.self.followed ≡ l.initial.self.followed;
}
