use Rattle.std.proofs.Common.{◌≡◌, ◌<◌, List, Ok, false, length, IsTrue}
use Rattle.um_keeper.specs.Keepers.{disk_in, has_failed, IsSamePlace}
use Rattle.um_manager.specs.Places.{place_in}
use Rattle.um_manager.specs.Turns.{now_in}
use Rattle.um_serve.specs.Rounds.{Round, trust, Serves, served}
use Rattle.um_serve.proofs.rounds.serve.Given as goal

abbrev pub invariant-loop : goal.invariant-loop
invariant-loop g l = record {
  done : (all : List Round) × (length all ≡ l.counter)
      × Serves
      (trust (g.C.Children.honest l.initial.manager.children) (g.C.Children.whole l.manager.children) (g.G.Gate.honest l.initial.gate.gate) (g.G.Gate.whole l.gate.gate) (g.M.Moments.honest l.initial.clock) (g.M.Moments.whole l.clock))
      (place_in (g.D.Disk.honest (disk_in l.initial.manager.keeper)) l.initial.manager.keeper) all (Ok tt)
      (served (g.G.Gate.past l.initial.gate.gate) (g.M.Moments.given l.initial.clock) l.initial.gate.backlog l.initial.gate.was_busy l.initial.gate.turned l.initial.gate.has_lost
      (now_in l.initial.manager.keeper (g.C.Children.past l.initial.manager.children) l.initial.manager.marks l.initial.manager.sessions.items (g.D.Disk.past (disk_in l.initial.manager.keeper))))
      (served (g.G.Gate.past l.gate.gate) (g.M.Moments.given l.clock) l.gate.backlog l.gate.was_busy l.gate.turned l.gate.has_lost
      (now_in l.manager.keeper (g.C.Children.past l.manager.children) l.manager.marks l.manager.sessions.items (g.D.Disk.past (disk_in l.manager.keeper))));
  whole : IsTrue (g.C.Children.whole l.manager.children) → IsTrue (g.C.Children.whole l.initial.manager.children);
  honest : g.C.Children.honest l.manager.children ≡ g.C.Children.honest l.initial.manager.children;
  events : IsTrue (g.G.Gate.whole l.gate.gate) → IsTrue (g.G.Gate.whole l.initial.gate.gate);
  gate : g.G.Gate.honest l.gate.gate ≡ g.G.Gate.honest l.initial.gate.gate;
  moments : IsTrue (g.M.Moments.whole l.clock) → IsTrue (g.M.Moments.whole l.initial.clock);
  clock : g.M.Moments.honest l.clock ≡ g.M.Moments.honest l.initial.clock;
  place : IsSamePlace l.initial.manager.keeper l.manager.keeper;
  disk : g.D.Disk.honest (disk_in l.manager.keeper) ≡ g.D.Disk.honest (disk_in l.initial.manager.keeper);
  failures : g.D.Disk.failures (disk_in l.manager.keeper) ≡ g.D.Disk.failures (disk_in l.initial.manager.keeper);
  worked : 0 < l.counter → has_failed l.initial.manager.keeper ≡ false;
  failed : has_failed l.manager.keeper ≡ has_failed l.initial.manager.keeper;
}
