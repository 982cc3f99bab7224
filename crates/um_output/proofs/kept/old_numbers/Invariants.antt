use Rattle.std.proofs.Common.{◌≡◌, filter, take}
use Rattle.um_output.specs.Kept as model
use Rattle.um_output.proofs.kept.old_numbers.Given as goal

-- the old ones so far are noted
abbrev pub invariant-loop-number : goal.invariant-loop-number
invariant-loop-number l = l.old.items ≡ filter (model.is_old l.kept l.numbers) (take l.number-index l.numbers)
