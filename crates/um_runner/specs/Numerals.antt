-- Which texts may be a number without zeros in front, by their first byte.
-- Follows no manual page.
-- The readers of pids and ends cite it.
use Rattle.std.specs.Prelude.{ℕ, Bool, false, ◌&&◌, ◌||◌, ◌==◌, nat_le, List, [], ◌∷◌}
use Rattle.um_model.specs.Text.{is_empty}

-- `0` alone, or another digit in front
abbrev pub is_plain : List ℕ → Bool
is_plain [] = false
is_plain (b ∷ bs) = nat_le 49 b && nat_le b 57 || b == 48 && is_empty bs
