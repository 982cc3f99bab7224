use Rattle.std.proofs.Common.{◌≡◌, map, take}
use Rattle.um_model.specs.Units as model
use Rattle.um_unit.specs.Sources.{assigned_of}
use Rattle.um_unit.proofs.assignments.values_of.Given as goal

-- the values so far
abbrev pub invariant-loop-one : goal.invariant-loop-one
invariant-loop-one l = map (λ v. v.now) l.values.items ≡ model.values_of (map (λ k. (k.0.now, k.1.now)) l.keys) (map assigned_of (take l.one-index l.assigned))
