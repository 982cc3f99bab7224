-- The text of the file by which the manager hands a runner the entries of a start.
-- No manual page has this: the file is the project's own (docs/FORMATS.md, "The files of a process").
-- The contracts of entries_text and read_entries cite it, and the law of texts that are read back.
use Rattle.std.specs.Prelude.{◌==◌, ◌-◌, ◌++◌, ◌∷◌, ◌&&◌, [], ℕ, Bool, not, List, length, replicate, Option, Some, None, option_map, if◌then◌else◌}
use Rattle.std.specs.List.{list_any}
use Rattle.um_model.specs.Text.{is_empty}

-- the least length of the text, in bytes, four blocks of 4 KiB: once the file is gone, claim, pid and status have that
-- room
abbrev pub least_bytes : ℕ
least_bytes = 16384

-- a zero byte after each entry, and one more at the end
abbrev pub ended : List (List ℕ) → List ℕ
ended [] = 0 ∷ []
ended (entry ∷ entries) = entry ++ 0 ∷ ended entries

-- the text for entries: zero bytes fill it up
abbrev pub entries_text : List (List ℕ) → List ℕ
entries_text entries = ended entries ++ replicate (least_bytes - length (ended entries)) 0

abbrev pub is_zero : ℕ → Bool
is_zero b = b == 0

-- the text can hold the entry: it isn't empty, and has no zero byte
abbrev pub can_be_handed : List ℕ → Bool
can_be_handed entry = not (is_empty entry) && not (list_any is_zero entry)

-- the entries that a text holds after these bytes of the first: each ends with a zero byte, and an empty one is the end
-- of them
abbrev pub entries_behind : List ℕ → List ℕ → Option (List (List ℕ))
entries_behind begun [] = None
entries_behind begun (b ∷ bs) =
    if is_zero b then (if is_empty begun then Some [] else option_map (λ entries. begun ∷ entries) (entries_behind [] bs))
    else entries_behind (begun ++ b ∷ []) bs

-- the entries that a text holds; none if their end is missing
abbrev pub entries_in : List ℕ → Option (List (List ℕ))
entries_in text = entries_behind [] text
