use Rattle.std.proofs.Common.{◌≡◌, drop}
use Rattle.um_children.specs.History.{has_started}
use Rattle.um_children.specs.Calls.{calls_of}
use Rattle.um_children.proofs.fake.has_started.Given as goal

-- the calls that are left decide
abbrev pub invariant-loop-call : goal.invariant-loop-call
invariant-loop-call l = has_started (calls_of (drop l.call-index l.calls)) l.number ≡ has_started (calls_of l.calls) l.number
