use Rattle.std.proofs.Common.{sym, ◌∙◌}
use Rattle.um_runner.proofs.RunnerLines.{rest_alike}
use Rattle.um_runner.proofs.line.Options.of.Goals as goal

pub returns-in_err-number : goal.returns-in_err-number
returns-in_err-number c = rw c.from_residual-in_err-number.ensures
    (λ f n k words e. c.in_err-number.ensures n _ (rest_alike _ _ _ _ _ _ (sym c.in_ok-folder.ensures ∙ e)))
