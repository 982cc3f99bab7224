use Rattle.std.proofs.Common.{◌≡◌, map, option_map, take}
use Rattle.um_verify.specs.Findings.{last_with}
use Rattle.um_verify.specs.View.{spot_of}
use Rattle.um_verify.proofs.seeking.last_with.Given as goal

-- the last one so far
abbrev pub invariant-loop-spot : goal.invariant-loop-spot
invariant-loop-spot l = option_map spot_of l.last ≡ last_with l.key (map (λ s. s.now) l.values) (map spot_of (take l.spot-index l.spots))
