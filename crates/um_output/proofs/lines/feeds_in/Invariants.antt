use Rattle.std.proofs.Common.{◌≡◌, ◌==◌, take, count_by}
use Rattle.um_output.proofs.lines.feeds_in.Given as goal

-- the feeds among the bytes so far are counted
abbrev pub invariant-loop-byte : goal.invariant-loop-byte
invariant-loop-byte l = l.feeds ≡ count_by (λ b. b == 10) (take l.byte-index l.bytes)
