use Rattle.um_engine.proofs.PassingLaws.{PassingBelow}
use Rattle.um_engine.proofs.known.not_among.Given as goal

-- each number so far is among those found, or is that of one of the names
abbrev pub invariant-loop-number : goal.invariant-loop-number
invariant-loop-number l = PassingBelow l.graph.names l.names l.number l.passing.items
