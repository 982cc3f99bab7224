use Rattle.std.proofs.Common.{◌≡◌, drop}
use Rattle.um_children.specs.Fakes.{end_of}
use Rattle.um_children.proofs.fake.end_of.Given as goal

-- none of the ends that were passed is of the number
abbrev pub invariant-loop-process : goal.invariant-loop-process
invariant-loop-process l = end_of (drop l.process-index l.ends) l.number ≡ end_of l.ends l.number
