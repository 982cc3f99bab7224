use Rattle.std.proofs.Common.{◌≡◌, ℕ, [], length, take, get_or}
use Rattle.um_model.specs.Disk.{seen}
use Rattle.um_sector.specs.Noted.{past_of}
use Rattle.um_sector.proofs.memory.replay.Given as goal

abbrev pub invariant-loop-call : goal.invariant-loop-call
invariant-loop-call l = record {
  shown : (k : ℕ) → get_or l.sectors k [] ≡ seen (past_of l.fn.sectors (take l.call-index l.calls)) k;
  long : length l.sectors ≡ length l.fn.sectors;
}
