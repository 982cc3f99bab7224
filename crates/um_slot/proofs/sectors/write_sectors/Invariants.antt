use Rattle.std.specs.Prelude.{◌≡◌, ◌+◌, ◌*◌, take, drop, IsTrue}
use Rattle.um_model.specs.Disk.{seen, During}
use Rattle.um_sector.specs.Runs.{IsLaid, AfterRun, more}
use Rattle.um_sector.specs.Unsynced.{sync_count}
use Rattle.um_slot.specs.Snapshots.{part_run}
use Rattle.um_slot.proofs.sectors.write_sectors.Given as goal

abbrev pub invariant-loop-i : goal.invariant-loop-i
invariant-loop-i g l =
    let past = g.D.Disk.past in
    record {
      rest : l.rest ≡ drop (512 * (l.from + l.i)) l.body;
      during : IsTrue (g.D.Disk.honest l.fn.disk) → During (past l.fn.disk) (past l.disk) (AfterRun (past l.fn.disk) l.at (part_run l.body l.from l.count));
      laid : IsTrue (g.D.Disk.honest l.fn.disk) → IsLaid (seen (past l.fn.disk)) l.at (take l.i (part_run l.body l.from l.count)) (seen (past l.disk));
      syncs : IsTrue (g.D.Disk.honest l.fn.disk) → sync_count (past l.disk) ≡ sync_count (past l.fn.disk);
      calls : g.D.Disk.calls l.disk ≡ more (g.D.Disk.calls l.fn.disk) l.i;
      failures : g.D.Disk.failures l.disk ≡ g.D.Disk.failures l.fn.disk;
      size : g.D.Disk.size l.disk ≡ g.D.Disk.size l.fn.disk;
      honest : g.D.Disk.honest l.disk ≡ g.D.Disk.honest l.fn.disk;
    }
