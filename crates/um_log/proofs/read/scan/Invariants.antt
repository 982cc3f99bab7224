use Rattle.std.specs.Prelude.{◌≡◌, ◌+◌, ◌-◌, ◌≤◌, ◌++◌, ℕ, List, IsTrue}
use Rattle.um_model.specs.Disk.{seen}
use Rattle.um_model.specs.Store.{area_start, area_end, sectors_of, placed, AreRecords, HasRecords}
use Rattle.um_log.specs.Reading.{bytes_of, places_of}
use Rattle.um_log.proofs.read.scan.Given as goal

abbrev pub invariant-loop-records : goal.invariant-loop-records
invariant-loop-records g l =
    let past = g.D.Disk.past in
    let image = seen (past l.fn.disk) in
    record {
      serves : IsTrue (g.D.Disk.honest l.fn.disk) → (more : List (List ℕ)) → AreRecords l.fn.format l.fn.layout l.generation image l.reader.number l.reader.next more → HasRecords l.fn.format l.fn.layout l.generation image (bytes_of l.records.items ++ more);
      places : places_of l.records.items ≡ placed (area_start l.fn.format l.fn.layout l.generation) (bytes_of l.records.items);
      place : l.reader.next ≡ area_start l.fn.format l.fn.layout l.generation + sectors_of (bytes_of l.records.items);
      format_is : l.reader.format ≡ l.fn.format;
      layout_is : l.reader.layout ≡ l.fn.layout;
      generation_is : l.reader.generation ≡ l.generation;
      calls : g.D.Disk.calls l.disk ≤ g.D.Disk.calls l.fn.disk + (l.reader.next - area_start l.fn.format l.fn.layout l.generation);
      past : IsTrue (g.D.Disk.honest l.fn.disk) → past l.disk ≡ past l.fn.disk;
      failures : g.D.Disk.failures l.disk ≡ g.D.Disk.failures l.fn.disk;
      disk_size : g.D.Disk.size l.disk ≡ g.D.Disk.size l.fn.disk;
      honest : g.D.Disk.honest l.disk ≡ g.D.Disk.honest l.fn.disk;
    }

abbrev pub decreases-loop-records : goal.decreases-loop-records
decreases-loop-records g l = area_end l.fn.format l.fn.layout l.generation - l.reader.next
