use Rattle.std.proofs.Common.{◌≡◌}
use Rattle.um_sector.specs.Unsynced.{unsynced}
use Rattle.um_sector.specs.Noted.{past_of}
use Rattle.um_sector.proofs.memory.MemDisk.unsynced.Given as goal

abbrev pub invariant-loop-k : goal.invariant-loop-k
invariant-loop-k l = l.list.items ≡ unsynced (past_of l.self.start.items l.self.noted.items) l.k
