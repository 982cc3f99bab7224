use Rattle.std.proofs.Common.{Some, None, ap, sym, ◌∙◌, option_copied}
use Rattle.um_model.specs.Names.{instance_of, after_at}
use Rattle.um_name.proofs.Splits.{split_at}
use Rattle.um_name.proofs.unit_name.UnitName.instance.Goals as goal

pub returns-in_err-instance : goal.returns-in_err-instance
unfolding instance_of
returns-in_err-instance c =
    ap option_copied c.from_residual.ensures ∙ sym (ap after_at (sym c.stem.ensures) ∙ (split_at c.stem.result.now None c.in_err-instance.ensures.cases).1)

pub returns : goal.returns
unfolding instance_of
returns c =
    sym (ap after_at (sym c.stem.ensures) ∙ (split_at c.stem.result.now (Some (c.in_ok-instance.field-0-0, c.in_ok-instance.instance)) c.in_ok-instance.ensures.cases).1)
