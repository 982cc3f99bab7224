use Rattle.std.proofs.Common.{ap, sym, ◌∙◌}
use Rattle.std.specs.FinMap as map
use Rattle.um_model.specs.Install.{is_masking}
use Rattle.um_model.specs.Tree.{remove_at}
use Rattle.um_unit.specs.View.{tree_read}
use Rattle.um_install.proofs.StepLaws.{unmasks_none, unmasks_one}
use Rattle.um_install.proofs.masking.unmasked.Goals as goal

pub returns-then-not-is_masking-clause-installs : goal.returns-then-not-is_masking-clause-installs
returns-then-not-is_masking-clause-installs c =
    unmasks_none (tree_read c.args.reading) c.in_ok-changed.changed c.args.unit.now c.as_str.result.now (c.as_str.ensures.value ∙ c.in_ok-path.ensures)
    (ap is_masking (sym c.get.ensures) ∙ sym c.is_masking.ensures ∙ c.if-not-is_masking.true) c.in_ok-changed.ensures

pub returns-clause-installs : goal.returns-clause-installs
returns-clause-installs c =
    unmasks_one (tree_read c.args.reading) c.remove.new.self c.args.unit.now c.as_str-2.result.now (c.as_str-2.ensures.value ∙ c.in_ok-path.ensures)
    (ap (λ p. is_masking (map.get c.args.reading.tree.now p)) (c.as_str-2.ensures.value ∙ sym c.as_str.ensures.value)
    ∙ ap is_masking (sym c.get.ensures) ∙ sym c.is_masking.ensures ∙ c.if-not-is_masking.false)
    (ap (λ t. remove_at t c.as_str-2.result.now) (sym c.in_ok-changed.ensures) ∙ c.in_ok-remove.ensures.ok)
