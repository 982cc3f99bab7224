use Rattle.std.specs.Prelude.{◌≡◌, ◌+◌, ◌-◌, ◌*◌, ◌≤◌, ◌++◌, min, length, take, IsTrue}
use Rattle.um_model.specs.Disk.{seen}
use Rattle.um_model.specs.Store.{sector_count, joined}
use Rattle.um_slot.proofs.read.read_body.Given as goal

abbrev pub invariant-loop-i : goal.invariant-loop-i
invariant-loop-i g l =
    let past = g.D.Disk.past in
    let image = seen (past l.fn.disk) in
    record {
      read : IsTrue (g.D.Disk.honest l.fn.disk) → l.body.items ++ take (l.size - 512 * l.i) (joined (sector_count l.size - l.i) image (l.at + l.i)) ≡ take l.size (joined (sector_count l.size) image l.at);
      long : length l.body.items ≡ min (512 * l.i) l.size;
      calls : g.D.Disk.calls l.disk ≤ g.D.Disk.calls l.fn.disk + l.i;
      past : IsTrue (g.D.Disk.honest l.fn.disk) → past l.disk ≡ past l.fn.disk;
      failures : g.D.Disk.failures l.disk ≡ g.D.Disk.failures l.fn.disk;
      size : g.D.Disk.size l.disk ≡ g.D.Disk.size l.fn.disk;
      honest : g.D.Disk.honest l.disk ≡ g.D.Disk.honest l.fn.disk;
    }
