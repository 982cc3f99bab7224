use Rattle.std.proofs.Common.{◌≡◌, ◌++◌, drop}
use Rattle.um_children.specs.Calls.{calls_of}
use Rattle.um_children.proofs.fake.copied.Given as goal

-- the copies and the calls that are left are all calls
abbrev pub invariant-loop-call : goal.invariant-loop-call
invariant-loop-call l = calls_of l.copies.items ++ calls_of (drop l.call-index l.calls) ≡ calls_of l.calls
