use Rattle.std.proofs.Common.{◌≡◌, ◌≤◌, length, map, get_or}
use Rattle.std.specs.List.{range_with_len}
use Rattle.um_sector.specs.Unsynced.{unsynced}
use Rattle.um_sector.specs.Noted.{past_of}
use Rattle.um_sector.proofs.memory.MemDisk.turns.Given as goal

abbrev pub invariant-loop-k : goal.invariant-loop-k
invariant-loop-k l =
    let past = past_of l.self.start.items l.self.noted.items in
    record {
      list : l.list.items ≡ map (λ k. get_or l.picks (length (unsynced past k)) 0) (range_with_len 0 l.k);
      turn : l.turn ≡ length (unsynced past l.k);
      below : l.turn ≤ l.k;
    }
