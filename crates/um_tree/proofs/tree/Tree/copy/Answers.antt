use Rattle.std.proofs.Common.{sym, subst, ◌∙◌}
use Rattle.um_model.specs.Tree.{IsTree}
use Rattle.um_tree.specs.View.{stored_entry}
use Rattle.um_tree.proofs.TextMaps.{map_of_clone}
use Rattle.um_tree.proofs.tree.Tree.copy.Goals as goal

pub invariant_of-result : goal.invariant_of-result
invariant_of-result c =
    subst IsTree (sym (map_of_clone stored_entry c.self.inside.entries.entries c.in_ok-clone.field-0.entries c.in_ok-clone.ensures.cases)) c.self.invariant

pub returns : goal.returns
returns c = map_of_clone stored_entry c.self.inside.entries.entries c.in_ok-clone.field-0.entries c.in_ok-clone.ensures.cases ∙ c.self.view_is
