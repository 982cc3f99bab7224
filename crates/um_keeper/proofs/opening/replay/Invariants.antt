use Rattle.std.proofs.Common.{◌≡◌, ◌-◌, IsTrue}
use Rattle.um_engine.specs.Engine.{state_in, size_in}
use Rattle.um_model.specs.Disk.{seen}
use Rattle.um_model.specs.Servable.{IsServable}
use Rattle.um_model.specs.Store.{area_end}
use Rattle.um_keeper.proofs.Replaying.{IsReached}
use Rattle.um_keeper.proofs.opening.replay.Given as goal

abbrev pub invariant-loop-found : goal.invariant-loop-found
invariant-loop-found g l =
    let past = g.D.Disk.past in
    record {
      reached : IsTrue (g.D.Disk.honest l.fn.disk)
          → IsReached l.fn.reader.format l.fn.reader.layout l.fn.reader.generation (seen (past l.fn.disk)) (size_in l.fn.engine) (state_in l.fn.engine) (state_in l.engine) l.reader.number l.reader.next;
      servable : IsServable (size_in l.engine) (state_in l.engine);
      size : size_in l.engine ≡ size_in l.fn.engine;
      format_is : l.reader.format ≡ l.fn.reader.format;
      layout_is : l.reader.layout ≡ l.fn.reader.layout;
      generation_is : l.reader.generation ≡ l.fn.reader.generation;
      past : IsTrue (g.D.Disk.honest l.fn.disk) → past l.disk ≡ past l.fn.disk;
      failures : g.D.Disk.failures l.disk ≡ g.D.Disk.failures l.fn.disk;
      disk_size : g.D.Disk.size l.disk ≡ g.D.Disk.size l.fn.disk;
      honest : g.D.Disk.honest l.disk ≡ g.D.Disk.honest l.fn.disk;
    }

abbrev pub decreases-loop-found : goal.decreases-loop-found
decreases-loop-found g l = area_end l.fn.reader.format l.fn.reader.layout l.fn.reader.generation - l.reader.next
