use Rattle.std.proofs.Common.{subst}
use Rattle.um_model.proofs.TimersLaws.{fewer_timers}
use Rattle.um_state.specs.View.{state_of}
use Rattle.um_engine.specs.Engine.{IsDue, NoneIsDue}
use Rattle.um_engine.proofs.Steps.{tick_fires}
use Rattle.um_engine.proofs.WorkedLaws.{firing_done, firing_first, firing_more}
use Rattle.um_engine.proofs.settling.fire_all.Goals as goal

pub timers-init : goal.timers-init
timers-init c = firing_first c.args.work.now c.args.timers.now

pub timers-smaller : goal.timers-smaller
timers-smaller c =
    let due = rw c.in-Some.is at c.in_ok-due.ensures in
    fewer_timers c.timers.timers c.clear.new.self c.in-Some.due.deadline c.in-Some.due.unit c.clear.ensures due.0.has

pub timers-preserved : goal.timers-preserved
timers-preserved c =
    let u = c.args.work.now in
    let due = rw c.in-Some.is at c.in_ok-due.ensures in
    firing_more u c.timers.work c.args.timers.now c.timers.timers c.timers.invariant c.fire_one.new.work c.clear.new.self c.in-Some.due.deadline c.in-Some.due.unit
    (subst (λ m. IsDue m c.timers.timers c.in-Some.due.deadline c.in-Some.due.unit) c.moment-moment.ensures due) c.clear.ensures c.in_ok-fire_one.ensures.keeps c.in_ok-fire_one.ensures.fires

pub returns-clause-follows : goal.returns-clause-follows
returns-clause-follows c =
    let u = c.args.work.now in
    let v = c.timers.work in
    let none = rw c.in_default.is at c.in_ok-due.ensures in
    tick_fires u.moment c.args.timers.now (state_of u.now) (state_of v.now) u.actions v.actions c.requires
    (firing_done u v c.args.timers.now c.timers.timers c.timers.invariant (subst (λ m. NoneIsDue m c.timers.timers) c.moment-moment.ensures none))

pub returns-clause-keeps : goal.returns-clause-keeps
returns-clause-keeps c = c.timers.invariant.keeps
