use Rattle.std.proofs.Common.{rules, None, map, ap, ◌∙◌}
use Rattle.std.proofs.lemmas.Fn.{filter_same}
use Rattle.um_model.specs.FileForms.{in_sections}
use Rattle.um_syntax.specs.Items.{item_of}
use Rattle.um_unit.proofs.HeardLemmas.{said_assigned}
use Rattle.um_unit.specs.Sources.{assigned_in}
use Rattle.um_unit.proofs.contents.said.Goals as goal

pub returns : goal.returns
returns c = λ suffix.
    let kept = filter_same _ _ _ (λ x b f' k. search rules) _ _ c.retain.ensures.filtered in
    ap (λ items. assigned_in suffix (in_sections None (map item_of items))) (c.shrink_to_fit.ensures.items ∙ kept) ∙ said_assigned suffix None c.args.source.items.items
