use Rattle.std.proofs.Common.{◌≡◌, take}
use Rattle.um_output.specs.Kept as model
use Rattle.um_output.proofs.kept.is_old.Given as goal

-- the newer ones so far are counted
abbrev pub invariant-loop-other : goal.invariant-loop-other
invariant-loop-other l = l.newer ≡ model.newer (take l.other-index l.numbers) l.number
