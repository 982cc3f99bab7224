use Rattle.std.proofs.Common.{◌≡◌, map, take, filter_map}
use Rattle.um_unit.specs.Tests.{tells_any}
use Rattle.um_model.specs.Values.{exits_of}
use Rattle.um_model.specs.declared.service.End.{End}
use Rattle.um_value.specs.ExitSet.{holds}
use Rattle.um_unit.proofs.lists.exits_in.Given as goal

-- the ends of the values so far
abbrev pub invariant-loop-value : goal.invariant-loop-value
invariant-loop-value l = (end : End) → holds l.exits end ≡ tells_any (filter_map exits_of (map (λ v. v.now) (take l.value-index l.value-items))) end
