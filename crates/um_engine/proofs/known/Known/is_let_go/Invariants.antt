use Rattle.std.proofs.Common.{All, take}
use Rattle.um_engine.specs.Exact.{LetsNoneGo}
use Rattle.um_engine.proofs.known.Known.is_let_go.Given as goal

-- none of the rows so far lets one go
abbrev pub invariant-loop-row : goal.invariant-loop-row
invariant-loop-row l = All (LetsNoneGo l.self) (take l.row-index l.rows)
