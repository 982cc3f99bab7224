use Rattle.std.proofs.Common.{map}
use Rattle.um_verify.specs.Findings.{Tells}
use Rattle.um_verify.specs.View.{told_of}
use Rattle.um_verify.proofs.reasons.look_at.Given as goal

-- the reasons so far are reported
abbrev pub invariant-loop : goal.invariant-loop
invariant-loop l = Tells l.initial.tree l.unit (map told_of l.findings.items) l.tree
