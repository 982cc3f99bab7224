-- A text without the spaces and tabs at its ends.
-- Follows systemd.syntax(7) in what counts as whitespace.
-- Unit files, values and words depend on this file.
use Rattle.std.specs.Prelude.{ℕ, Bool, true, false, List, [], ◌∷◌, reverse, if◌then◌else◌, ◌≡◌, ◌++◌}
use Rattle.um_model.specs.Ascii.{is_space}
use Rattle.std.specs.List.{list_all}

-- without the whitespace in front
abbrev pub trim_start : List ℕ → List ℕ
trim_start [] = []
trim_start (b ∷ bs) = if is_space b then trim_start bs else b ∷ bs

-- without the whitespace at both ends
abbrev pub trim : List ℕ → List ℕ
trim text = reverse (trim_start (reverse (trim_start text)))

-- a text without a byte, or another list with nothing in it
abbrev pub is_empty : {A : Type 0} → List A → Bool
is_empty [] = true
is_empty (a ∷ others) = false

-- nothing but whitespace
abbrev pub is_blank : List ℕ → Bool
is_blank text = is_empty (trim_start text)

-- there is a first byte, and it passes
abbrev pub first_passes : (ℕ → Bool) → List ℕ → Bool
first_passes passes [] = false
first_passes passes (b ∷ bs) = passes b

-- whitespace alone was cut off in front, and none is left there
pub record IsCutInFront (text rest : List ℕ) : Type 0 where
  pub front : List ℕ
  pub parts : text ≡ front ++ rest
  pub spaces : list_all is_space front ≡ true
  pub stops : first_passes is_space rest ≡ false

-- whitespace alone was cut off at the end, and none is left there
pub record IsCutAtEnd (text rest : List ℕ) : Type 0 where
  pub back : List ℕ
  pub parts : text ≡ rest ++ back
  pub spaces : list_all is_space back ≡ true
  pub stops : first_passes is_space (reverse rest) ≡ false
