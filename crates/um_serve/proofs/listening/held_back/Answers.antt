use Rattle.std.proofs.Common.{◌∙◌, ◌<◌, length, arith}
use Rattle.um_serve.proofs.HeldLaws.{held_more, set_here, set_there, set_long}
use Rattle.um_serve.proofs.listening.held_back.Goals as goal

pub loop-number-preserved : goal.loop-number-preserved
loop-number-preserved g c =
    let n = c.loop-number.number in
    let held = c.loop-number.is_held in
    let each = c.loop-number.invariant.each in
    let low : n < length held = omega (arith, each, c.loop-number-test.true) in
    record {
      each = set_long held n _ ∙ each;
      told = held_more n c.args.manager.now.sessions.items c.args.backlog.now held _ c.is_held_back.result c.loop-number.invariant.told c.is_held_back.ensures
          (set_here held n _ low) (λ i other. set_there held n i _ other);
    }
