use Rattle.std.proofs.Common.{◌≡◌, drop}
use Rattle.um_children.specs.History.{was_absent}
use Rattle.um_children.specs.Calls.{calls_of}
use Rattle.um_children.proofs.fake.was_absent.Given as goal

-- the calls that are left decide
abbrev pub invariant-loop-call : goal.invariant-loop-call
invariant-loop-call l = was_absent (calls_of (drop l.call-index l.calls)) l.number ≡ was_absent (calls_of l.calls) l.number
