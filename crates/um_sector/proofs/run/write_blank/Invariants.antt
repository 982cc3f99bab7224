use Rattle.std.proofs.Common.{◌≡◌, take}
use Rattle.std.specs.Prelude.{IsTrue, replicate}
use Rattle.um_model.specs.Disk.{seen, During}
use Rattle.um_sector.specs.Runs.{IsLaid, AfterRun, more}
use Rattle.um_sector.specs.Noted.{blank}
use Rattle.um_sector.proofs.run.write_blank.Given as goal

abbrev pub invariant-loop-i : goal.invariant-loop-i
invariant-loop-i g l =
    let past = g.D.Disk.past in
    record {
      during : IsTrue (g.D.Disk.honest l.fn.disk) → During (past l.fn.disk) (past l.disk) (AfterRun (past l.fn.disk) l.at (replicate l.count blank));
      laid : IsTrue (g.D.Disk.honest l.fn.disk) → IsLaid (seen (past l.fn.disk)) l.at (take l.i (replicate l.count blank)) (seen (past l.disk));
      calls : g.D.Disk.calls l.disk ≡ more (g.D.Disk.calls l.fn.disk) l.i;
      failures : g.D.Disk.failures l.disk ≡ g.D.Disk.failures l.fn.disk;
      size : g.D.Disk.size l.disk ≡ g.D.Disk.size l.fn.disk;
      honest : g.D.Disk.honest l.disk ≡ g.D.Disk.honest l.fn.disk;
    }
