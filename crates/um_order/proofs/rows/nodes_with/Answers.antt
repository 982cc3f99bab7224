use Rattle.std.proofs.Common.{◌≡◌, ◌∙◌, ◌+◌, suc, max, get_or, take, ap, subst, arith}
use Rattle.std.proofs.Math.Seq.{take-suc}
use Rattle.um_order.specs.Pairs.{nodes_with}
use Rattle.um_order.proofs.RowSteps.{nodes_more}
use Rattle.um_order.proofs.rows.nodes_with.Goals as goal

pub loop-pair-preserved : goal.loop-pair-preserved
loop-pair-preserved c =
    let pairs = c.args.pairs.now in
    let i = c.loop-pair.pair-index in
    let next : nodes_with c.args.nodes (take (suc i) pairs) ≡ max (nodes_with c.args.nodes (take i pairs)) (suc (max (get_or pairs i (0, 0)).0 (get_or pairs i (0, 0)).1)) =
    ap (nodes_with c.args.nodes) (take-suc pairs i (0, 0) c.loop-pair-test.true) ∙ nodes_more c.args.nodes (take i pairs) (get_or pairs i (0, 0)) in
    let plus : suc i ≡ i + 1 = omega arith in
    subst (λ n. c.max-all.result ≡ nodes_with c.args.nodes (take n pairs)) plus (omega (arith, next, c.loop-pair.invariant, c.max-all.ensures, c.in-Some.ensures, c.max.ensures))
