use Rattle.std.proofs.Common.{◌-◌, ◌^◌}
use Rattle.um_unit.specs.View.{tree_read}
use Rattle.um_install.specs.View.{units_of}
use Rattle.um_install.specs.Walk.{IsUnderWay}
use Rattle.um_install.proofs.walk.walk.Given as goal

abbrev pub invariant-loop-next : goal.invariant-loop-next
invariant-loop-next l = IsUnderWay l.naming (tree_read l.reading) l.asked (units_of l.units.entries) l.waiting.items l.next

-- a list has fewer items than this
abbrev pub decreases-loop-next : goal.decreases-loop-next
decreases-loop-next l = 2 ^ 64 - l.next
