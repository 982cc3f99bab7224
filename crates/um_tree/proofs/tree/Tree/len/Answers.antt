use Rattle.std.proofs.Common.{ap, sym, ◌∙◌}
use Rattle.std.specs.FinMap as map
use Rattle.um_tree.specs.View.{stored_entry}
use Rattle.um_tree.proofs.TextMaps.{len-map_of}
use Rattle.um_tree.proofs.tree.Tree.len.Goals as goal

pub returns-clause-len : goal.returns-clause-len
returns-clause-len c = c.len.ensures.len ∙ sym (len-map_of stored_entry c.self.inside.entries c.len.ensures.ordered) ∙ ap map.len c.self.view_is
