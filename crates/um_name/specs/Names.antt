-- Names in ascending order of their bytes; the number of a name is its place.
-- Follows no manual page: numbers of names are this project's own.
-- The contracts of Names, and all tables whose rows stand under names, stand on this file.
use Rattle.std.specs.Prelude.{◌≡◌, ◌≢◌, ◌<◌, ℕ, List, [], AllPairs, length, slice_index_or}
use Rattle.um_model.specs.Least.{IsNamedBefore}

-- each name comes before all later ones
abbrev pub AreAscending : List (List ℕ) → Type 0
AreAscending names = AllPairs IsNamedBefore names

-- the name with this number
abbrev pub name_at : List (List ℕ) → ℕ → List ℕ
name_at names i = slice_index_or names i []

-- the name is that of none of them
abbrev pub IsApart : List (List ℕ) → List ℕ → Type 0
IsApart names name = (i : ℕ) → i < length names → name_at names i ≢ name

-- the name has this number
abbrev pub HasPlace : List (List ℕ) → List ℕ → ℕ → Type 0
HasPlace names name i = (i < length names) × (name_at names i ≡ name)
