-- How the logic stores an entry and a tree.
use Rattle.std.specs.Prelude.{◌≡◌, ℕ, List, ◌⊎◌, refl}
use Rattle.std.specs.Coded.{Coded, code_by, coded_ℕ, coded_list, coded⊎}
use Rattle.std.specs.FinMap as map
use mathlib.Core.Logic.{inl, inr}
use Rattle.um_model.specs.Tree.{Entry, File, Link, Tree}

-- an entry as one of two texts, and back
abbrev pub entry_sides : Entry → List ℕ ⊎ List ℕ
entry_sides (File text) = inl text
entry_sides (Link target) = inr target

abbrev pub entry_of_sides : List ℕ ⊎ List ℕ → Entry
entry_of_sides (inl text) = File text
entry_of_sides (inr target) = Link target

pub entry_of_sides-entry_sides : (e : Entry) → entry_of_sides (entry_sides e) ≡ e
entry_of_sides-entry_sides (File text) = refl
entry_of_sides-entry_sides (Link target) = refl

-- how the logic stores an entry
abbrev pub entry_code : Coded Entry
entry_code = code_by (List ℕ ⊎ List ℕ) (coded⊎ (coded_list coded_ℕ) (coded_list coded_ℕ)) entry_sides entry_of_sides entry_of_sides-entry_sides

-- how the logic stores a tree
abbrev pub tree_code : Coded Tree
tree_code = map.code (coded_list coded_ℕ) entry_code
