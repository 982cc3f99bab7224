-- The weight of a state: an upper bound of the bytes that a snapshot of it takes.
-- Follows no manual page: the store is this project's own (docs/FORMATS.md, "Weight").
-- The machine depends on this file.
use Rattle.std.specs.Prelude.{ℕ, ◌+◌, ◌*◌, List, length, map as each}
use Rattle.std.specs.List.{sum}
use Rattle.std.specs.FinMap as map
use Rattle.um_model.specs.Tree.{Tree, Entry, File, Link}

-- the text of a file, or a link's target
abbrev pub text_of_entry : Entry → List ℕ
text_of_entry (File text) = text
text_of_entry (Link target) = target

-- an entry weighs 32 bytes beside its path and its text or target
abbrev pub entry_weight : List ℕ → Entry → ℕ
entry_weight path entry = 32 + length path + length (text_of_entry entry)

abbrev pub tree_weight : Tree → ℕ
tree_weight tree = sum (each (λ e. entry_weight e.0 e.1) (map.entries tree))

-- both trees, and 2,048 bytes for each known unit
abbrev pub weight_of : (tree loaded : Tree) (units : ℕ) → ℕ
weight_of tree loaded units = 256 + tree_weight tree + tree_weight loaded + 2048 * units
