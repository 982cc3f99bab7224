use Rattle.std.proofs.Common.{◌∙◌, ◌≡◌, sym, ap}
use Rattle.um_state.specs.Rows.{rows_before}
use Rattle.um_state.proofs.DeltaLaws.{before_last}
use Rattle.um_state.proofs.delta.Delta.undo.Goals as goal

pub loop-row-preserved : goal.loop-row-preserved
loop-row-preserved c =
    ap (rows_before c.pop.new.self.items) c.put_row.ensures
    ∙ (sym (before_last c.pop.new.self.items c.in-Some.row c.loop-row.state)
    ∙ (ap (λ xs. rows_before xs c.loop-row.state) (sym c.in-Some.ensures.items) ∙ c.loop-row.invariant))
