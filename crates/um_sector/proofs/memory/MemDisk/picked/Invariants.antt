use Rattle.std.proofs.Common.{◌≡◌, ◌+◌, ◌-◌, ◌<◌, ℕ, [], length, take, get_or}
use Rattle.um_model.specs.Disk.{candidates}
use Rattle.um_sector.specs.Unsynced.{unsynced}
use Rattle.um_sector.specs.Noted.{past_of}
use Rattle.um_sector.proofs.memory.MemDisk.picked.Given as goal

abbrev pub invariant-loop-call : goal.invariant-loop-call
invariant-loop-call l =
    let past = past_of l.self.start.items (take (l.self.since + l.call-index) l.self.noted.items) in
    let pick : ℕ → ℕ = λ k. get_or l.picks (length (unsynced (past_of l.self.start.items l.self.noted.items) k)) 0 in
    record {
      held : length l.list.items ≡ length l.self.held.items;
      long : length l.left.items ≡ length l.self.held.items;
      left : (k : ℕ) → k < length l.left.items → get_or l.left.items k 0 ≡ pick k + 1 - length (candidates past k);
      list : (k : ℕ) → k < length l.list.items → get_or l.list.items k [] ≡ get_or (candidates past k) (pick k) (get_or (candidates past k) 0 []);
    }
