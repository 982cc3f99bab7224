use Rattle.std.proofs.Common.{◌≡◌, length}
use Rattle.std.specs.String.{string_bytes}
use Rattle.um_model.specs.Bytes.{ascends}
use Rattle.um_wire.specs.Entries.{seen}
use Rattle.um_wire.proofs.maps.ascend.Given as goal

abbrev pub invariant-loop-rest : goal.invariant-loop-rest
invariant-loop-rest g l = ascends (seen string_bytes g.V.Canon.value l.rest) ≡ ascends (seen string_bytes g.V.Canon.value l.entries)

abbrev pub decreases-loop-rest : goal.decreases-loop-rest
decreases-loop-rest g l = length l.rest
