use Rattle.std.proofs.Common.{◌≡◌, length}
use Rattle.std.specs.List.{AllByRecursion}
use Rattle.um_manager.specs.Connections.{IsNew}
use Rattle.um_manager.proofs.opening.new_sessions.Given as goal

abbrev pub invariant-loop : goal.invariant-loop
invariant-loop l = record {
  each : length l.sessions.items ≡ l.counter;
  anew : AllByRecursion IsNew l.sessions.items;
}
