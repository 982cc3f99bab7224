use Rattle.std.proofs.Common.{Some, None, ap, sym, ◌∙◌}
use Rattle.um_model.specs.Names.{prefix_of, before_at}
use Rattle.um_name.proofs.Splits.{split_at}
use Rattle.um_name.proofs.text.prefix_of.Goals as goal

pub returns-in-Some : goal.returns-in-Some
unfolding prefix_of
returns-in-Some c = sym (ap before_at (sym c.stem_of-stem.ensures) ∙ (split_at c.stem_of-stem.result.now (Some (c.in-Some.prefix, c.in-Some.field-0-1)) c.in-Some.ensures.cases).0)

pub returns-in-None : goal.returns-in-None
unfolding prefix_of
returns-in-None c = sym (ap before_at (sym c.stem_of-stem.ensures) ∙ (split_at c.stem_of-stem.result.now None c.in-None.ensures.cases).0)
