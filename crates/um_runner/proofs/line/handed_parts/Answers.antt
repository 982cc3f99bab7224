use Rattle.std.proofs.Common.{sym, ◌∙◌}
use Rattle.um_runner.proofs.RunnerLines.{rest_alike}
use Rattle.um_runner.proofs.line.handed_parts.Goals as goal

pub returns-in_err-number : goal.returns-in_err-number
returns-in_err-number c = rw c.from_residual-in_err-number.ensures
    (λ f n words e. c.in_err-number.ensures n _ (rest_alike _ _ _ _ _ _ (sym c.in_ok-folder.ensures ∙ e)))

pub returns-in_err-words : goal.returns-in_err-words
returns-in_err-words c = rw c.from_residual-in_err-words.ensures
    (λ f n words e. c.in_err-words.ensures _ (rest_alike _ _ _ _ _ _ (sym c.in_ok-number.ensures ∙ rest_alike _ _ _ _ _ _ (sym c.in_ok-folder.ensures ∙ e))))
