use Rattle.std.proofs.Common.{◌≡◌, take}
use Rattle.um_state.proofs.named.listed.Given as goal

-- the names so far
abbrev pub invariant-loop-i : goal.invariant-loop-i
invariant-loop-i l = l.listed.items ≡ take l.i l.names
