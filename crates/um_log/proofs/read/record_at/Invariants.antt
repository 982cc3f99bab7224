use Rattle.std.specs.Prelude.{◌≡◌, ◌+◌, ◌*◌, ◌<◌, ◌≤◌, min, max, ℕ, length, IsTrue}
use Rattle.um_model.specs.Disk.{seen}
use Rattle.um_model.specs.Store.{log_sector, part_of}
use Rattle.um_log.proofs.read.record_at.Given as goal

abbrev pub invariant-loop-part : goal.invariant-loop-part
invariant-loop-part g l =
    let past = g.D.Disk.past in
    let image = seen (past l.fn.disk) in
    record {
      parts : IsTrue (g.D.Disk.honest l.fn.disk) → (i : ℕ) → i < l.part → image (l.at + i) ≡ log_sector l.generation l.number i l.size (part_of l.bytes.items i);
      long : length l.bytes.items ≡ min (480 * l.part) l.size;
      held : IsTrue (g.D.Disk.honest l.fn.disk) → l.part ≡ 0 → l.sector ≡ image l.at;
      calls : g.D.Disk.calls l.disk ≤ g.D.Disk.calls l.fn.disk + max 1 l.part;
      past : IsTrue (g.D.Disk.honest l.fn.disk) → past l.disk ≡ past l.fn.disk;
      failures : g.D.Disk.failures l.disk ≡ g.D.Disk.failures l.fn.disk;
      disk_size : g.D.Disk.size l.disk ≡ g.D.Disk.size l.fn.disk;
      honest : g.D.Disk.honest l.disk ≡ g.D.Disk.honest l.fn.disk;
    }
