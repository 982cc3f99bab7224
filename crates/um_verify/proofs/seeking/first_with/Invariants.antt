use Rattle.std.proofs.Common.{◌≡◌, map, drop}
use Rattle.um_verify.specs.Findings.{first_with}
use Rattle.um_verify.specs.View.{spot_of}
use Rattle.um_verify.proofs.seeking.first_with.Given as goal

-- none of those so far gives the key a value
abbrev pub invariant-loop-spot : goal.invariant-loop-spot
invariant-loop-spot l = first_with l.key (map spot_of (drop l.spot-index l.spots)) ≡ first_with l.key (map spot_of l.spots)
