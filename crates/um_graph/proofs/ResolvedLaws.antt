-- The search for known units goes on by the tree in which names are resolved.
use Rattle.std.proofs.Common.{◌≡◌, ℕ, List, sym, subst}
use Rattle.um_model.specs.Profiles.{ReadTree, read_by}
use Rattle.um_model.specs.Tree.{Tree}
use Rattle.um_graph.specs.Known.{IsUnderWay, Loaded}
use Rattle.um_graph.specs.declared.told.Told.{Told}

-- a step of the search by a tree that hasn't changed
pub followed_in : (tree : ReadTree) (other : Tree) (extra : List (List ℕ)) (m n : Loaded) (left rest : List (List ℕ)) (told more : List Told) → other ≡ tree.entries
    → (IsUnderWay (read_by tree.profile other) extra m left told → IsUnderWay (read_by tree.profile other) extra n rest more) → IsUnderWay tree extra m left told → IsUnderWay tree extra n rest more
followed_in tree other extra m n left rest told more same step w =
    subst (λ t. IsUnderWay (read_by tree.profile t) extra n rest more) same (step (subst (λ t. IsUnderWay (read_by tree.profile t) extra m left told) (sym same) w))
