use Rattle.std.specs.Prelude.{◌≡◌, ◌⊎◌, ◌+◌, ◌-◌, ◌<◌, ◌≤◌, ℕ, IsTrue}
use Rattle.um_model.specs.Disk.{seen}
use Rattle.um_model.specs.Store.{IsOf}
use Rattle.um_log.specs.Following.{Follows, StopsBefore}
use Rattle.um_log.specs.Greatest.{IsTold}
use Rattle.um_log.specs.Uncounted.{Counts, EndsUncounted, EndsLater}
use Rattle.um_log.proofs.read.Reader.remains.Given as goal

abbrev pub invariant-loop-j : goal.invariant-loop-j
invariant-loop-j g l =
    let past = g.D.Disk.past in
    let image = seen (past l.fn.disk) in
    record {
      least : l.self.generation ≤ l.greatest;
      most : IsTrue (g.D.Disk.honest l.fn.disk) → (theirs i : ℕ) → l.self.next ≤ i → i < l.j → IsOf theirs (image i) → theirs ≤ l.greatest;
      stands : IsTrue (g.D.Disk.honest l.fn.disk) → (l.greatest ≡ l.self.generation) ⊎ IsTold l.self.layout image l.greatest;
      followed : IsTrue (g.D.Disk.honest l.fn.disk) → Follows l.self.format l.self.generation image l.self.next l.j l.run;
      stops : IsTrue (g.D.Disk.honest l.fn.disk) → StopsBefore l.self.format l.self.layout l.self.generation image l.self.number l.self.next l.j l.stop;
      uncounted : IsTrue (g.D.Disk.honest l.fn.disk) → Counts (EndsUncounted l.self.format l.self.layout image l.self.next l.self.generation l.self.number) l.self.next l.j l.uncounted;
      later : IsTrue (g.D.Disk.honest l.fn.disk) → Counts (EndsLater l.self.format l.self.layout image l.self.next l.self.generation) l.self.next l.j l.later;
      few : (l.uncounted ≤ l.j - l.self.next) × (l.later ≤ l.j - l.self.next);
      past : IsTrue (g.D.Disk.honest l.fn.disk) → past l.disk ≡ past l.fn.disk;
      low : l.self.next ≤ l.j;
      calls : g.D.Disk.calls l.disk ≤ g.D.Disk.calls l.fn.disk + (l.j - l.self.next);
      failures : g.D.Disk.failures l.disk ≡ g.D.Disk.failures l.fn.disk;
      disk_size : g.D.Disk.size l.disk ≡ g.D.Disk.size l.fn.disk;
      honest : g.D.Disk.honest l.disk ≡ g.D.Disk.honest l.fn.disk;
    }
