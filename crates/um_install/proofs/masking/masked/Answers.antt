use Rattle.std.proofs.Common.{◌≢◌, codes, option_map, ap, sym, ◌∙◌, rules}
use Rattle.um_model.specs.Install.{RefusesLinks}
use Rattle.um_model.specs.Tree.{put_link}
use Rattle.um_model.specs.declared.install.InstallVerb.TheVariants as verbs
use Rattle.um_tree.specs.View.{refused_by}
use Rattle.um_wire.specs.Refusal.{refused_of}
use Rattle.um_wire.specs.declared.refusal.Refusal.TheVariants.{NoMemory}
use Rattle.um_unit.specs.View.{tree_read}
use Rattle.um_install.proofs.StepLaws.{masks_to, masks_none_to, link_refused}
use Rattle.um_install.proofs.masking.masked.Goals as goal

pub returns-in-Some-clause-refused : goal.returns-in-Some-clause-refused
returns-in-Some-clause-refused c = λ differs.
    masks_none_to (tree_read c.args.reading) c.args.unit.now c.as_str.result.now (refused_of c.refusal.result) (c.as_str.ensures.value ∙ c.in_ok-path.ensures)
    (link_refused c.args.reading.tree.now c.as_str.result.now (codes "/dev/null") (refused_by c.in-Some.cause) (refused_of c.refusal.result)
    (sym c.link_cause.ensures ∙ ap (option_map refused_by) c.in-Some.is) (c.refusal.ensures.told differs))

pub returns-in_err-link-clause-refused : goal.returns-in_err-link-clause-refused
returns-in_err-link-clause-refused c =
    let step : c.in_err-link.field-0.0 ≢ NoMemory → RefusesLinks (tree_read c.args.reading) verbs.Mask c.args.unit.now (refused_of c.in_err-link.field-0.0) =
    λ differs.
    masks_none_to (tree_read c.args.reading) c.args.unit.now c.as_str-2.result.now (refused_of c.in_err-link.field-0.0) (c.as_str-2.ensures.value ∙ c.in_ok-path.ensures)
    (ap (λ t. put_link t c.as_str-2.result.now (codes "/dev/null")) (sym c.in_ok-changed.ensures) ∙ c.in_err-link.ensures.refused differs) in
    search (rules, step)

pub returns-clause-installs : goal.returns-clause-installs
returns-clause-installs c =
    masks_to (tree_read c.args.reading) c.link.new.self c.args.unit.now c.as_str-2.result.now (c.as_str-2.ensures.value ∙ c.in_ok-path.ensures)
    (ap (λ t. put_link t c.as_str-2.result.now (codes "/dev/null")) (sym c.in_ok-changed.ensures) ∙ c.in_ok-link.ensures.ok)
