use Rattle.std.proofs.Common.{rules, ◌≡◌, true}
use Rattle.um_model.specs.StateSpellings.{is_tree}
use Rattle.um_model.proofs.StateSpellingsLaws.{passes_tree}
use Rattle.um_tree.specs.View.{tree_of}
use Rattle.um_tree.proofs.bytes.TreeCanon.get.Goals as goal

pub invariant_of-result : goal.invariant_of-result
invariant_of-result c =
    let is : is_tree (tree_of c.in-Some.entries.entries) ≡ true = search rules in
    passes_tree (tree_of c.in-Some.entries.entries) is
