-- How a text is shown: no character of it can mislead a terminal, or a script that reads lines.
-- No manual page has this; the escapes are those of systemd-escape(1), and on a terminal's standard output those of JSON.
-- The client, and the text that the program prints, stand on this file.
use Rattle.std.specs.Prelude.{ℕ, List, [], ◌∷◌, ◌/◌, ◌%◌, Bool, ◌||◌, ◌==◌, flat_map, if◌then◌else◌}
use Rattle.std.specs.Char.{digit_char, encode_utf8, is_control}
use Rattle.std.specs.Int.{is_in_range}
use Rattle.std.specs.Str.{chars, encode_utf8_all}
use Rattle.um_model.specs.Names.{byte_escape}

-- a mark by which a terminal may turn the direction of text: U+061C, U+200E, U+200F, U+202A to U+202E, U+2066 to U+2069
abbrev pub is_direction : ℕ → Bool
is_direction c = c == 1564 || (is_in_range 8206 8207 c || (is_in_range 8234 8238 c || is_in_range 8294 8297 c))

-- a character that isn't shown as it is
abbrev pub misleads : ℕ → Bool
misleads c = is_control c || is_direction c

-- the text for a character: `\x` and two hexadecimal digits for each of its bytes if it misleads, otherwise itself
abbrev pub shown_char : ℕ → List ℕ
shown_char c = if misleads c then flat_map byte_escape (encode_utf8 c) else c ∷ []

-- the characters of the shown text
abbrev pub shown_chars : List ℕ → List ℕ
shown_chars text = flat_map shown_char (chars text)

-- the text of these
abbrev pub shown : List ℕ → List ℕ
shown text = encode_utf8_all (shown_chars text)

-- a character that misleads a terminal and that JSON doesn't escape: U+007F to U+009F, and the marks of direction
abbrev pub misleads_in_json : ℕ → Bool
misleads_in_json c = is_in_range 127 159 c || is_direction c

-- JSON's escape of a character below U+10000: `\u` and four hexadecimal digits
abbrev pub json_escape : ℕ → List ℕ
json_escape c = 92 ∷ 117 ∷ digit_char ((c / 4096) % 16) ∷ digit_char ((c / 256) % 16) ∷ digit_char ((c / 16) % 16) ∷ digit_char (c % 16) ∷ []

-- the characters that go to a terminal for a character of JSON
abbrev pub terminal_char : ℕ → List ℕ
terminal_char c = if misleads_in_json c then json_escape c else c ∷ []

-- the characters that go to a terminal for a text of JSON
abbrev pub terminal_chars : List ℕ → List ℕ
terminal_chars text = flat_map terminal_char (chars text)

-- the text of these
abbrev pub on_terminal : List ℕ → List ℕ
on_terminal text = encode_utf8_all (terminal_chars text)
