-- Classes of ASCII characters, by their codes. A text is the list of its bytes in UTF-8.
-- Follows systemd.syntax(7) in what counts as whitespace: spaces and tabs.
-- Names, unit files and values depend on this file.
use Rattle.std.specs.Prelude.{ℕ, Bool, ◌&&◌, ◌||◌, ◌==◌, nat_le}

-- a space or a tab
abbrev pub is_space : ℕ → Bool
is_space b = b == 32 || b == 9

-- 0 to 9
abbrev pub is_digit : ℕ → Bool
is_digit b = nat_le 48 b && nat_le b 57

-- A to Z, a to z
abbrev pub is_letter : ℕ → Bool
is_letter b = (nat_le 65 b && nat_le b 90) || (nat_le 97 b && nat_le b 122)
