use Rattle.std.proofs.Common.{◌≡◌, replicate}
use Rattle.um_manager.specs.declared.pieces.Piece.TheVariants.{Nothing}
use Rattle.um_manager.proofs.pieces.Pieces.none.Given as goal

abbrev pub invariant-loop : goal.invariant-loop
invariant-loop l = l.pieces.items ≡ replicate l.counter Nothing
