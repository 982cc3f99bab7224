use Rattle.std.proofs.Common.{◌≡◌, map, drop}
use Rattle.um_unit.specs.Sources.{assigned_of}
use Rattle.um_unit.specs.Tests.{assigns}
use Rattle.um_unit.proofs.assignments.assigns.Given as goal

-- it is none of the keys so far
abbrev pub invariant-loop-section : goal.invariant-loop-section
invariant-loop-section l = assigns (map (λ k. (k.0.now, k.1.now)) (drop l.section-index l.keys)) (assigned_of l.assigned) ≡ assigns (map (λ k. (k.0.now, k.1.now)) l.keys) (assigned_of l.assigned)
