use Rattle.std.proofs.Common.{sym, ◌∙◌}
use Rattle.um_unit.specs.View.{unit_of}
use Rattle.um_wire.specs.Refusal.{refused_of}
use Rattle.um_install.proofs.StepLaws.{of_no_instance, free_to_enable}
use Rattle.um_install.proofs.enabling.check_found.Goals as goal

pub returns-then-branch : goal.returns-then-branch
returns-then-branch c = λ differs.
    of_no_instance c.args.unit.now (unit_of c.args.found.now) (refused_of c.in_ok-bad_setting.field-0) (sym c.in_ok-lacks_instance.ensures ∙ c.if-branch.true)
    (rw c.as_str.ensures.value at c.in_ok-bad_setting.ensures)

pub returns : goal.returns
returns c = free_to_enable c.args.unit.now (unit_of c.args.found.now) (sym c.in_ok-lacks_instance.ensures ∙ c.if-branch.false)
