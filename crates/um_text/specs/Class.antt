-- The test of a class of characters.
use Rattle.std.specs.Prelude.{ℕ, Bool, ◌&&◌, nat_le}
use Rattle.um_model.specs.Ascii.{is_space, is_digit, is_letter}
use Rattle.um_text.specs.declared.classes.Class.{Class}
use Rattle.um_text.specs.declared.classes.Class.TheVariants.{Space, Digit, SmallLetter, Letter}

-- the character of this code is of the class
abbrev pub is_of : Class → ℕ → Bool
is_of Space b = is_space b
is_of Digit b = is_digit b
is_of SmallLetter b = nat_le 97 b && nat_le b 122
is_of Letter b = is_letter b
