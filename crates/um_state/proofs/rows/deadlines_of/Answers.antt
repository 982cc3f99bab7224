use Rattle.std.proofs.Common.{◌∙◌, ◌-◌, ap, arith}
use Rattle.um_name.specs.Names.{name_at}
use Rattle.um_state.specs.Due.{with_deadline}
use Rattle.um_state.proofs.BackLaws.{all_deadlines, deadline_passed, no_deadline}
use Rattle.um_state.proofs.FindingLaws.{row_is}
use Rattle.um_state.proofs.rows.deadlines_of.Goals as goal

pub loop-i-init : goal.loop-i-init
loop-i-init c = record {
  within = omega (arith, c.requires.len);
  set = no_deadline c.args.names.now c.args.rows.now c.requires.ascending c.requires.len c.new-timers.result c.new-timers.ensures;
}

pub loop-i-preserved : goal.loop-i-preserved
loop-i-preserved c = record {
  within = omega (arith, c.loop-i.invariant.within);
  set = deadline_passed c.args.names.now c.args.rows.now c.requires.ascending c.requires.len c.loop-i.i (omega (arith, c.loop-i-test.true)) c.loop-i.invariant.within c.loop-i.timers
      c.set_deadline.new.timers
      (c.in_ok-set_deadline.ensures
      ∙ ap (λ u. with_deadline c.loop-i.timers (name_at c.args.names.now (c.loop-i.i - 1)) u.deadline) (row_is c.args.rows.now (c.loop-i.i - 1) c.index-rows-i.result (omega arith) c.index-rows-i.is))
      c.loop-i.invariant.set;
}

pub returns : goal.returns
returns c = all_deadlines c.args.names.now c.args.rows.now c.requires.ascending c.requires.len c.loop-i.i (omega (arith, c.loop-i-test.false)) c.loop-i.timers c.loop-i.invariant.set
