use Rattle.std.proofs.Common.{ap, sym, ◌∙◌, None, Some}
use Rattle.um_model.specs.Names.{after_at}
use Rattle.um_name.proofs.Splits.{split_at}
use Rattle.um_name.proofs.Stems.{is_template-after_at}
use Rattle.um_name.proofs.text.is_template.Goals as goal

pub returns-in-Some : goal.returns-in-Some
returns-in-Some c =
    c.is_empty.ensures
    ∙ is_template-after_at c.args.text.now (Some c.in-Some.instance.now)
    (ap after_at (sym c.stem_of.ensures) ∙ (split_at c.stem_of.result.now (Some (c.in-Some.field-0-0, c.in-Some.instance)) c.in-Some.ensures.cases).1)

pub returns-in-None : goal.returns-in-None
returns-in-None c =
    is_template-after_at c.args.text.now None
    (ap after_at (sym c.stem_of.ensures) ∙ (split_at c.stem_of.result.now None c.in-None.ensures.cases).1)
