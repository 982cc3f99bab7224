use Rattle.std.proofs.Common.{◌<◌, length, rules, sym, ap, ◌∙◌}
use Rattle.um_output.proofs.KeptLaws.{filter_no, filter_yes}
use Rattle.um_output.proofs.kept.old_numbers.Goals.{then-is_old+in_ok-push, else-is_old}
use Rattle.um_output.proofs.kept.old_numbers.Goals as goal

pub loop-number-preserved : goal.loop-number-preserved
loop-number-preserved c =
    let within : c.loop-number.number-index < length c.args.numbers.now = search rules in
    elim c.if-is_old.branch [
      | then-is_old+in_ok-push w ↦ ap (λ v. v.items) w.old-is ∙ w.in_ok-push.ensures.items
          ∙ filter_yes _ _ _ _ _ within c.loop-number.invariant c.number-item.is (sym c.is_old.ensures ∙ w.if-is_old.true)
      | else-is_old w ↦ ap (λ v. v.items) w.old-is ∙ filter_no _ _ _ _ _ within c.loop-number.invariant c.number-item.is (sym c.is_old.ensures ∙ w.if-is_old.false)
    ]
