use Rattle.std.proofs.Common.{◌≡◌, ◌<◌, ◌≤◌, ◌+◌, ◌∙◌, ◌∷◌, ◌++◌, [], ap, get_or, length, take, arith, rules, subst}
use Rattle.std.proofs.lemmas.List.{take_more, take_all}
use Rattle.um_model.specs.Machine.{AreReset}
use Rattle.um_state.specs.View.{state_of}
use Rattle.um_falling.specs.Work.{Goes}
use Rattle.um_falling.proofs.WorkLaws.{keeps_all, keeps_then}
use Rattle.um_engine.proofs.ResetLaws.{resets_no_unit}
use Rattle.um_engine.proofs.WorkedLaws.{resets_on}
use Rattle.um_engine.proofs.resetting.reset_all.Goals as goal

pub loop-unit-init : goal.loop-unit-init
loop-unit-init c =
    let w = c.args.work.now in
    record { keeps = keeps_all w; resets = resets_no_unit w.moment (state_of w.now) w.actions }

pub loop-unit-preserved : goal.loop-unit-preserved
loop-unit-preserved c =
    let u = c.args.work.now in
    let v = c.loop-unit.work in
    let w = c.reset.new.work in
    let units = c.args.units.now in
    let i = c.loop-unit.unit-index in
    let x = c.unit-item.result in
    let low : i < length units = omega (arith, c.loop-unit-test.true) in
    let here : get_or units i x ≡ x = search (rules, c.unit-item.is) in
    let before = c.loop-unit.invariant in
    record {
      keeps = keeps_then u v w before.keeps c.in_ok-reset.ensures.keeps;
      resets = resets_on u v w (take i units) (x ∷ []) (take (i + 1) units) (take_more units i x low ∙ ap (λ y. take i units ++ y ∷ []) here) before.keeps before.resets c.in_ok-reset.ensures.resets;
    }

pub returns-clause-resets : goal.returns-clause-resets
returns-clause-resets c =
    let u = c.args.work.now in
    let units = c.args.units.now in
    let high : length units ≤ c.loop-unit.unit-index = omega (arith, c.loop-unit-test.false) in
    subst (λ l. Goes (AreReset u.moment l (state_of u.now)) u c.loop-unit.work) (take_all c.loop-unit.unit-index units high) c.loop-unit.invariant.resets

pub returns-clause-keeps : goal.returns-clause-keeps
returns-clause-keeps c = c.loop-unit.invariant.keeps
