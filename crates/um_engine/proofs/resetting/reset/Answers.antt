use Rattle.std.proofs.Common.{◌∙◌, sym, true≢false}
use Rattle.um_state.specs.View.{state_of}
use Rattle.um_falling.proofs.WorkLaws.{keeps_all}
use Rattle.um_engine.proofs.ResetLaws.{resets_none, resets_one}
use Rattle.um_engine.proofs.resetting.reset.Goals as goal

pub returns-in_default-clause-resets : goal.returns-in_default-clause-resets
returns-in_default-clause-resets c =
    let w = c.args.work.now in
    resets_none w.moment (state_of w.now) c.args.unit.now (λ held. c.in_default.ensures (c.graph.ensures.serves.held c.args.unit.now held)) w.actions

pub returns-in_default-clause-keeps : goal.returns-in_default-clause-keeps
returns-in_default-clause-keeps c = keeps_all c.args.work.now

pub returns-then-not-holds-clause-resets : goal.returns-then-not-holds-clause-resets
returns-then-not-holds-clause-resets c =
    let w = c.args.work.now in
    resets_none w.moment (state_of w.now) c.args.unit.now (λ held. true≢false (sym ((c.holds.ensures c.args.unit.now c.in-Some.ensures).1 held) ∙ c.if-not-holds.true)) w.actions

pub returns-then-not-holds-clause-keeps : goal.returns-then-not-holds-clause-keeps
returns-then-not-holds-clause-keeps c = keeps_all c.args.work.now

pub returns-clause-resets : goal.returns-clause-resets
returns-clause-resets c =
    let w = c.args.work.now in
    let v = c.happen.new.work in
    resets_one w.moment c.args.unit.now (state_of w.now) (state_of v.now) w.actions v.actions (c.in_ok-happen.ensures.happens c.args.unit.now c.in-Some.ensures)
