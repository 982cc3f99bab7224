-- A set of numbers below a limit, and a tree that has its least number at the root.
-- Follows no manual page: it is how the least number is found in one look.
-- The set of units with a ready job stands on this file.
use Rattle.std.specs.Prelude.{◌≡◌, ℕ, ◌+◌, ◌<◌, ◌≤◌, min, Bool, true, false, if◌then◌else◌, List, length, get_or}

-- the least number of the set
pub record IsLeastIn (marks : List Bool) (i : ℕ) : Type 0 where
  pub within : i < length marks
  pub has : get_or marks i false ≡ true
  pub first : (j : ℕ) → j < i → get_or marks j false ≡ false

-- no number is in the set
abbrev pub IsNone : List Bool → Type 0
IsNone marks = (i : ℕ) → i < length marks → get_or marks i false ≡ false

-- the leaf of a number: the number if it is in the set, else the limit
abbrev pub leaf_of : Bool → ℕ → ℕ → ℕ
leaf_of is_in i limit = if is_in then i else limit

-- each place from 1 on below the limit holds the lesser of the numbers at twice the place and at the next one
abbrev pub HoldsLesser : List ℕ → ℕ → Type 0
HoldsLesser tree limit = (i : ℕ) → 1 ≤ i → i < limit → get_or tree i 0 ≡ min (get_or tree (i + i) 0) (get_or tree (i + i + 1) 0)

-- the leaves follow the inner places, in the order of their numbers
pub record IsTreeOf (marks : List Bool) (tree : List ℕ) : Type 0 where
  pub size : length tree ≡ length marks + length marks
  pub leaves : (i : ℕ) → i < length marks → get_or tree (length marks + i) 0 ≡ leaf_of (get_or marks i false) i (length marks)
  pub lesser : HoldsLesser tree (length marks)
