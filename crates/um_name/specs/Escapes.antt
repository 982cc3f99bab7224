-- The front of an escaped text, as the code returns it.
use Rattle.std.specs.Prelude.{ℕ, [], ◌∷◌, Option, Some, None}
use Rattle.um_model.specs.Pieces.{Front, Unreadable, Gives}
use Rattle.um_name.specs.declared.escapes.Piece.{Piece}

-- a byte, and how many bytes of the text stand for it
abbrev pub front_of : Option Piece → Front ℕ
front_of None = Unreadable
front_of (Some piece) = Gives (piece.byte ∷ []) piece.size
