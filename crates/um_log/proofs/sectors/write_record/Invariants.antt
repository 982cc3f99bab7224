use Rattle.std.specs.Prelude.{◌≡◌, ◌+◌, ◌*◌, ◌≤◌, take, drop, IsTrue}
use Rattle.um_model.specs.Disk.{seen, During}
use Rattle.um_sector.specs.Runs.{IsLaid, AfterRun}
use Rattle.um_sector.specs.Unsynced.{sync_count}
use Rattle.um_log.specs.Appending.{record_run}
use Rattle.um_log.proofs.sectors.write_record.Given as goal

abbrev pub invariant-loop-part : goal.invariant-loop-part
invariant-loop-part g l =
    let past = g.D.Disk.past in
    let run = record_run l.generation l.number l.bytes in
    record {
      rest : l.rest ≡ drop (480 * l.part) l.bytes;
      during : IsTrue (g.D.Disk.honest l.fn.disk) → During (past l.fn.disk) (past l.disk) (AfterRun (past l.fn.disk) l.at run);
      laid : IsTrue (g.D.Disk.honest l.fn.disk) → IsLaid (seen (past l.fn.disk)) l.at (take l.part run) (seen (past l.disk));
      calls : g.D.Disk.calls l.disk ≤ g.D.Disk.calls l.fn.disk + l.part;
      syncs : IsTrue (g.D.Disk.honest l.fn.disk) → sync_count (past l.disk) ≡ sync_count (past l.fn.disk);
      failures : g.D.Disk.failures l.disk ≡ g.D.Disk.failures l.fn.disk;
      size : g.D.Disk.size l.disk ≡ g.D.Disk.size l.fn.disk;
      honest : g.D.Disk.honest l.disk ≡ g.D.Disk.honest l.fn.disk;
    }
