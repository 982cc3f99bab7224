use Rattle.std.proofs.Common.{◌≡◌, ◌∙◌, ap, length, subst, sym}
use Rattle.um_state.specs.Tables.{jobs_by}
use Rattle.um_state.specs.View.{state_of}
use Rattle.um_falling.specs.Work.{WorkView}
use Rattle.um_falling.proofs.work.Work.pending.Goals as goal

pub returns-clause-held : goal.returns-clause-held
returns-clause-held c =
    let rows = c.pending.result.now in
    subst (λ (w : WorkView). jobs_by w.graph.names rows ≡ (state_of w.now).pending) c.self.view_is
    (ap (λ ns. jobs_by ns rows) (sym c.self.invariant.0) ∙ c.pending.ensures.held)

pub returns-clause-len : goal.returns-clause-len
returns-clause-len c =
    subst (λ (w : WorkView). length c.pending.result.now ≡ length w.graph.names) c.self.view_is (c.pending.ensures.len ∙ ap length c.self.invariant.0)
