use Rattle.std.proofs.Common.{ap, option_copied, [], ◌≡◌, ◌∙◌}
use Rattle.std.specs.List.{flat_map}
use Rattle.std.specs.Option.{option_map_or}
use Rattle.um_model.specs.Names.{template_of}
use Rattle.um_model.specs.Resolution as model
use Rattle.um_resolve.specs.View.{added, by_file_of}
use Rattle.um_resolve.proofs.ByFileLemmas.{added_both}
use Rattle.um_resolve.proofs.drop_ins.by_file.Goals as goal

pub returns : goal.returns
returns c =
    let tree = c.args.tree.now in
    let empty = by_file_of c.new-found.result.entries in
    let own = by_file_of c.add_unit.new.by_file.entries in
    let all = by_file_of c.add_template.new.by_file.entries in
    let template : option_copied c.as_ref.result ≡ template_of c.args.unit.now = c.as_ref.ensures.value ∙ c.in_ok-template.ensures in
    added_both (model.drop_ins_in tree) (model.folders_of c.args.unit.now) (option_map_or model.folders_of (template_of c.args.unit.now) []) empty own all
    (ap by_file_of c.new-found.ensures.empty)
    (c.in_ok-add_unit.ensures ∙ ap (λ unit. added empty (flat_map (model.drop_ins_in tree) (model.folders_of unit))) c.as_str.ensures.value)
    (c.in_ok-add_template.ensures ∙ ap (λ t. added own (flat_map (model.drop_ins_in tree) (option_map_or model.folders_of t []))) template)
