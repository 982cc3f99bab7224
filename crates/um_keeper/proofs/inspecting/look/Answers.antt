use Rattle.std.proofs.Common.{◌∙◌, sym, subst}
use Rattle.um_model.specs.Disk.{seen}
use Rattle.um_keeper.specs.Inspecting.{IsSummed}
use Rattle.um_keeper.proofs.Looking.{summed}
use Rattle.um_keeper.proofs.inspecting.look.Goals as goal

pub returns-clause-stands : goal.returns-clause-stands
returns-clause-stands g c h =
    subst (λ s. IsSummed (g.D.Disk.size c.args.disk.now) (seen (g.D.Disk.past c.args.disk.now)) c.summary_of-summary.result s) (sym (c.in_ok-state.ensures ∙ c.state.ensures))
    (summed c.summary_of-summary.result c.in_ok-found.found.opened (c.in_ok-found.ensures.found h).taken (c.in_ok-found.ensures.read h)
    c.summary_of-summary.ensures.generation c.summary_of-summary.ensures.records c.summary_of-summary.ensures.cut_off c.summary_of-summary.ensures.damaged c.summary_of-summary.ensures.clock c.summary_of-summary.ensures.next)
