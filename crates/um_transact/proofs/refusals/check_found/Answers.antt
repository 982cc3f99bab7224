use Rattle.std.proofs.Common.{◌∙◌, sym}
use Rattle.um_unit.specs.View.{unit_of}
use Rattle.um_transact.proofs.CheckLaws.{a_template}
use Rattle.um_transact.proofs.refusals.check_found.Goals as goal

pub returns-then-is_template : goal.returns-then-is_template
returns-then-is_template c = λ differs.
    a_template c.args.asked.now (unit_of c.args.found.now) _ (sym c.is_template.ensures ∙ c.if-is_template.true) (rw c.as_str.ensures.value at c.in_ok-bad_setting.ensures)
