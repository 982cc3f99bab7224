use Rattle.std.proofs.Common.{◌≡◌, ◌∙◌, ◌+◌, ap, length, arith}
use Rattle.um_transact.specs.Walk.{Met, all_met}
use Rattle.um_transact.proofs.TurnLaws.{met_long, met_more}
use Rattle.um_transact.proofs.walk.Walk.meet_all.Goals as goal

pub loop-demand-preserved : goal.loop-demand-preserved
loop-demand-preserved c =
    let s : Met = (c.loop-demand.self.marks.items, c.loop-demand.self.list.items) in
    let t : Met = (c.meet.new.self.marks.items, c.meet.new.self.list.items) in
    let kept : length t.0 ≡ length s.0 = ap (λ (x : Met). length x.0) c.in_ok-meet.ensures ∙ met_long _ s in
    record {
      long = omega (arith, kept, c.loop-demand.invariant.long);
      met = met_more c.args.found.now c.loop-demand.demand-index (c.loop-demand.demand-index + 1) _ s t (all_met c.args.found.now (c.args.self.now.marks.items, c.args.self.now.list.items)) (omega arith) c.loop-demand-test.true c.in_ok-meet.ensures c.loop-demand.invariant.met;
    }
