use Rattle.std.proofs.Common.{◌≡◌, ◌∙◌, ℕ, Vec, Global, length, arith, subst, ap, sym}
use Rattle.um_model.specs.Jobs.{has_job}
use Rattle.um_transact.specs.Order.{ArePairs}
use Rattle.um_transact.proofs.PairLaws.{pairs_more, pairs_past}
use Rattle.um_transact.proofs.order.pairs.Goals as goal
use Rattle.um_transact.proofs.order.pairs.Goals.{then-has_job+in_ok-push_row, else-has_job}

pub loop-unit-preserved : goal.loop-unit-preserved
loop-unit-preserved c = elim c.if-has_job.branch [
  | then-has_job+in_ok-push_row w ↦
      pairs_more c.args.graph.now.rows c.args.plan.now c.loop-unit.unit c.loop-unit.pairs.items c.if-has_job.pairs.items c.loop-unit.invariant
      (ap (λ (v : Vec (ℕ × ℕ) Global). v.items) w.pairs-is ∙ w.in_ok-push_row.ensures)
  | else-has_job w ↦
      pairs_past c.args.graph.now.rows c.args.plan.now c.loop-unit.unit c.loop-unit.pairs.items c.if-has_job.pairs.items c.loop-unit.invariant
      (ap (λ (v : Vec (ℕ × ℕ) Global). v.items) w.pairs-is) (ap has_job (sym c.jobs_of.ensures) ∙ (sym c.has_job.ensures ∙ w.if-has_job.false))
]

pub returns : goal.returns
returns c =
    let at : c.loop-unit.unit ≡ length c.args.graph.now.names = omega arith in
    subst (λ n. ArePairs c.args.graph.now.rows c.args.plan.now n c.loop-unit.pairs.items) at c.loop-unit.invariant
