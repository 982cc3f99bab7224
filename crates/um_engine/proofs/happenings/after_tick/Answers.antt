use Rattle.std.proofs.Common.{◌∙◌, map, refl, sym, ap, subst, true≢false}
use Rattle.um_model.specs.Machine.{State}
use Rattle.um_state.specs.Due.{NoneDue}
use Rattle.um_state.specs.View.{action_of}
use Rattle.um_engine.specs.Served.{begun_at, standing_of}
use Rattle.um_engine.proofs.DoneLaws.{tick_counts, tick_goes, tick_rests}
use Rattle.um_engine.proofs.Ticks.{none_due_idle}
use Rattle.um_engine.proofs.happenings.after_tick.Goals as goal

pub returns-then-none_due-clause-met : goal.returns-then-none_due-clause-met
returns-then-none_due-clause-met c = (
  none_due_idle c.args.moment c.args.served.now.state
      (subst (λ (s : State). NoneDue c.args.moment s.units) c.state-state.ensures.state (subst (NoneDue c.args.moment) c.units.ensures (c.none_due.ensures.0 c.if-none_due.true))),
  ap (map action_of) c.new.ensures.items,
)

pub returns-then-is_idle-clause-met : goal.returns-then-is_idle-clause-met
returns-then-is_idle-clause-met c =
    let idle = rw c.as_slice.ensures.value at (c.is_idle.ensures.0 c.if-is_idle.true) in
    tick_rests c.args.served.now c.args.moment (begun_at (standing_of c.args.served.now) c.args.served.now.known.graph c.args.moment) c.in_ok-work.work c.in_ok-delta.delta (map action_of c.in_ok-delta.actions.items) refl
    c.in_ok-work.ensures.keeps c.in_ok-work.ensures.follows c.in_ok-delta.ensures.after c.in_ok-delta.ensures.count c.in_ok-delta.ensures.actions idle.1
    (c.keeps_next-is_next.ensures.0 idle.0 ∙ ap (λ (s : State). s.next) c.state-state.ensures.state) idle.2

pub change_by-requires : goal.change_by-requires
change_by-requires c =
    tick_counts c.args.served.now c.args.moment (begun_at (standing_of c.args.served.now) c.args.served.now.known.graph c.args.moment) c.in_ok-work.work c.in_ok-delta.delta (map action_of c.in_ok-delta.actions.items) refl
    c.in_ok-work.ensures.keeps c.in_ok-work.ensures.follows c.in_ok-delta.ensures.after c.in_ok-delta.ensures.count c.in_ok-delta.ensures.actions

pub returns-clause-met : goal.returns-clause-met
returns-clause-met c =
    tick_goes c.args.served.now c.args.moment (begun_at (standing_of c.args.served.now) c.args.served.now.known.graph c.args.moment) c.in_ok-work.work c.in_ok-delta.delta (map action_of c.in_ok-delta.actions.items) refl
    c.in_ok-work.ensures.keeps c.in_ok-work.ensures.follows c.in_ok-delta.ensures.after c.in_ok-delta.ensures.count c.in_ok-delta.ensures.actions
    c.in_ok-change.change c.in_ok-change.ensures.leads c.in_ok-change.ensures.tells
    (λ none next nothing.
    true≢false
    (sym (c.is_idle.ensures.1
    (c.keeps_next-is_next.ensures.1 (next ∙ sym (ap (λ (s : State). s.next) c.state-state.ensures.state)), none, rw c.as_slice.ensures.value nothing))
    ∙ c.if-is_idle.false))
