-- The output of processes, as it is shown: no byte of it can mislead a terminal.
-- No manual page has this: it is the project's own (docs/FORMATS.md, "The program"); the escapes are those of systemd-escape(1).
-- Output stands on this file.
use Rattle.std.specs.Prelude.{◌≡◌, ◌<◌, ◌≤◌, ◌-◌, ℕ, List, [], ◌∷◌, ◌++◌, Bool, ◌||◌, ◌&&◌, ◌==◌, not, drop, length, slice_index, take, flat_map, Option, Some, None, if◌then◌else◌}
use Rattle.std.specs.Char.{is_control}
use Rattle.std.specs.Int.{is_in_range}
use Rattle.bstr.specs.Utf8.{Decoded, decoded, lead_len, pieces}
use Rattle.um_model.specs.Names.{byte_escape}

-- a mark by which a terminal may turn the direction of text: U+061C, U+200E, U+200F, U+202A to U+202E, U+2066 to U+2069
abbrev pub is_direction : ℕ → Bool
is_direction c = c == 1564 || (is_in_range 8206 8207 c || (is_in_range 8234 8238 c || is_in_range 8294 8297 c))

-- a character that isn't shown as it is: such a mark, or a control character other than line feed and tab
abbrev pub misleads : ℕ → Bool
misleads c = (is_control c && (not (c == 10) && not (c == 9))) || is_direction c

-- the text for a piece: its bytes if it is a character that doesn't mislead, otherwise `\x` and two digits for each byte
abbrev pub piece_shown : Option ℕ → List ℕ → List ℕ
piece_shown None bytes = flat_map byte_escape bytes
piece_shown (Some c) bytes = if misleads c then flat_map byte_escape bytes else bytes

-- the text for bytes that are cut into these pieces
unfoldable pub shown_by : List Decoded → List ℕ → List ℕ
shown_by [] bytes = []
shown_by (p ∷ ps) bytes = piece_shown p.char (take p.size bytes) ++ shown_by ps (drop p.size bytes)

-- the text for bytes: a piece is a character in UTF-8, or the longest front that could begin one
abbrev pub shown : List ℕ → List ℕ
shown bytes = shown_by (pieces bytes) bytes

-- this number of bytes at the end begin a character, and lack bytes of it
abbrev pub IsOpenEnd : List ℕ → ℕ → Type 0
IsOpenEnd bytes size =
    let end = drop (length bytes - size) bytes in (0 < size) × (size ≤ length bytes) × ((decoded end).char ≡ None) × ((decoded end).size ≡ size)
    × (size < lead_len (slice_index end 0))
