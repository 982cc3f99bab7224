-- The front of a text that begins with `%`, as the code returns it.
use Rattle.std.specs.Prelude.{ℕ, Option, Some, None}
use Rattle.um_model.specs.Pieces.{Front, Unreadable, Gives}
use Rattle.um_spec.specs.declared.expansion.Piece.{Piece}

-- a text, and how many bytes stand for it
abbrev pub front_of : Option Piece → Front ℕ
front_of None = Unreadable
front_of (Some piece) = Gives piece.text.now piece.size
