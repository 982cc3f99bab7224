-- Which numbers' files stay in the folder of a unit, and which are another store's.
-- No manual page has this: it is the project's own (docs/FORMATS.md, "Output").
-- Output stands on this file.
use Rattle.std.specs.Prelude.{◌≡◌, ◌≤◌, ◌==◌, ℕ, Bool, true, List, All, count_by, nat_lt, nat_le}
use Rattle.std.specs.List.{list_any}
use Rattle.um_output.specs.declared.files.OutputFile.{OutputFile}

-- the number is one of these
abbrev pub has : ℕ → List ℕ → Bool
has n numbers = list_any (λ m. m == n) numbers

-- one of these files is the number's
abbrev pub has_file : ℕ → List OutputFile → Bool
has_file n files = list_any (λ f. f.number == n) files

-- how many of the numbers are newer than this one
abbrev pub newer : List ℕ → ℕ → ℕ
newer numbers n = count_by (λ m. nat_lt n m) numbers

-- at least `kept` of the numbers are newer than this one
abbrev pub is_old : ℕ → List ℕ → ℕ → Bool
is_old kept numbers n = nat_le kept (newer numbers n)

-- the greatest number of these files, which is at least the next number of the store
abbrev pub IsGreatestFrom : ℕ → ℕ → List OutputFile → Type 0
IsGreatestFrom next greatest files = (next ≤ greatest) × (has_file greatest files ≡ true) × All (λ f. f.number ≤ greatest) files
