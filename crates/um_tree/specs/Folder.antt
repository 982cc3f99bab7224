-- The entries in a folder of the tree.
use Rattle.std.specs.Prelude.{ℕ, List, ◌++◌, codes, filter}
use Rattle.std.specs.FinMap as map
use Rattle.std.specs.List.{starts_with}
use Rattle.std.specs.Prelude.{nat_eq}
use Rattle.um_model.specs.Tree.{Tree, Entry}

-- a folder's path with the slash after it
abbrev pub with_slash : List ℕ → List ℕ
with_slash folder = folder ++ codes "/"

-- those entries whose paths begin with the folder's and a slash
abbrev pub entries_in : List ℕ → Tree → List (List ℕ × Entry)
entries_in folder tree = filter (λ e. starts_with nat_eq e.0 (with_slash folder)) (map.entries tree)
