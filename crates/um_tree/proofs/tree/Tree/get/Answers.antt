use Rattle.std.proofs.Common.{Some, ap, sym, ◌∙◌, option_map}
use Rattle.std.specs.FinMap as map
use Rattle.um_tree.specs.View.{stored_entry}
use Rattle.um_tree.proofs.TextMaps.{get-map_of}
use Rattle.um_tree.proofs.tree.Tree.get.Goals as goal

pub returns-in-Some : goal.returns-in-Some
returns-in-Some c =
    ap Some c.as_entry.ensures ∙ ap (option_map stored_entry) c.in-Some.ensures.value
    ∙ sym (get-map_of stored_entry c.self.inside.entries c.args.path.now) ∙ ap (λ m. map.get m c.args.path.now) c.self.view_is

pub returns-in-None : goal.returns-in-None
returns-in-None c =
    ap (option_map stored_entry) c.in-None.ensures.value ∙ sym (get-map_of stored_entry c.self.inside.entries c.args.path.now) ∙ ap (λ m. map.get m c.args.path.now) c.self.view_is
