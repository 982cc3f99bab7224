use Rattle.std.proofs.Common.{◌≡◌, map, take}
use Rattle.um_verify.specs.Findings.{starts_in}
use Rattle.um_verify.specs.View.{spot_of}
use Rattle.um_verify.proofs.starts.starts_in.Given as goal

-- those of the assignments so far
abbrev pub invariant-loop-spot : goal.invariant-loop-spot
invariant-loop-spot l = map spot_of l.found.items ≡ starts_in l.unit (map spot_of (take l.spot-index l.spots))
