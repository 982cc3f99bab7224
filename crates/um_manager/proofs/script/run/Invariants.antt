use Rattle.std.proofs.Common.{◌≡◌, ◌<◌, Bool, false, drop, length, IsTrue, Result}
use Rattle.um_keeper.specs.Keepers.{disk_in, has_failed, IsSamePlace}
use Rattle.um_manager.specs.Places.{place_in}
use Rattle.um_manager.specs.Scripts.{Runs}
use Rattle.um_manager.specs.Turns.{Now, now_in}
use Rattle.um_wire.specs.declared.refusal.Refusal.{Refusal}
use Rattle.um_manager.proofs.script.run.Given as goal

abbrev pub invariant-loop-step : goal.invariant-loop-step
invariant-loop-step g l = record {
  done : (result : Result Unit Refusal) (b : Now) (w : Bool) → (IsTrue w → IsTrue (g.C.Children.whole l.children))
      → Runs (place_in (g.D.Disk.honest (disk_in l.initial.keeper)) l.initial.keeper) (g.C.Children.honest l.initial.children) w (drop l.step-index l.steps) result
      (now_in l.keeper (g.C.Children.past l.children) l.marks l.sessions (g.D.Disk.past (disk_in l.keeper))) b
      → Runs (place_in (g.D.Disk.honest (disk_in l.initial.keeper)) l.initial.keeper) (g.C.Children.honest l.initial.children) w l.steps result
      (now_in l.initial.keeper (g.C.Children.past l.initial.children) l.initial.marks l.initial.sessions (g.D.Disk.past (disk_in l.initial.keeper))) b;
  whole : IsTrue (g.C.Children.whole l.children) → IsTrue (g.C.Children.whole l.initial.children);
  honest : g.C.Children.honest l.children ≡ g.C.Children.honest l.initial.children;
  place : IsSamePlace l.initial.keeper l.keeper;
  disk : g.D.Disk.honest (disk_in l.keeper) ≡ g.D.Disk.honest (disk_in l.initial.keeper);
  failures : g.D.Disk.failures (disk_in l.keeper) ≡ g.D.Disk.failures (disk_in l.initial.keeper);
  worked : 0 < l.step-index → has_failed l.initial.keeper ≡ false;
  failed : has_failed l.keeper ≡ has_failed l.initial.keeper;
  each : length l.sessions ≡ length l.initial.sessions;
}
