use Rattle.std.proofs.Common.{◌≡◌, ◌+◌, ◌<◌, ◌≤◌, ℕ, length, take, get_or}
use Rattle.um_model.specs.Disk.{candidates}
use Rattle.um_sector.specs.Noted.{past_of}
use Rattle.um_sector.proofs.memory.MemDisk.counts.Given as goal

abbrev pub invariant-loop-call : goal.invariant-loop-call
invariant-loop-call l =
    let past = past_of l.self.start.items (take (l.self.since + l.call-index) l.self.noted.items) in
    record {
      long : length l.list.items ≡ length l.self.held.items;
      counts : (k : ℕ) → k < length l.list.items → get_or l.list.items k 0 ≡ length (candidates past k);
      most : (k : ℕ) → k < length l.list.items → get_or l.list.items k 0 ≤ l.call-index + 1;
    }
