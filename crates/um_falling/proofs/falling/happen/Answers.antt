use Rattle.std.proofs.Common.{◌≡◌, ◌∙◌, Bool, true, false, true≢false, not, subst, sym, refl, arith}
use Rattle.std.proofs.lemmas.Bool.Decides.{Decides-eqb}
use Rattle.um_model.specs.Machine.{State}
use Rattle.um_falling.specs.Carrying.{KeepsOthers}
use Rattle.um_falling.proofs.AlongLaws.{known_by}
use Rattle.um_falling.proofs.Carried.{no_more_then}
use Rattle.um_falling.proofs.FallingLaws.{happened, length_none}
use Rattle.um_falling.proofs.WorkLaws.{falls_on, keeps_then, serves_still}
use Rattle.um_state.specs.View.{state_of}
use Rattle.um_falling.proofs.falling.happen.Goals as goal
use Rattle.um_falling.proofs.falling.happen.Goals.{then-fails, else-fails}

pub returns-clause-happens : goal.returns-clause-happens
returns-clause-happens c = λ name number.
    let u = c.args.work.now in
    let v = c.carry_on.new.work in
    let w = c.fall_all.new.work in
    let keeps = c.in_ok-fails.ensures.keeps in
    let list = c.carry_on.new.list.items in
    (happened u.graph u.moment name c.args.event (state_of u.now) (state_of v.now) (state_of w.now) u.actions v.actions w.actions list
    (c.in_ok-fails.ensures.carries name number, serves_still u v keeps c.graph.ensures.serves) c.graph.ensures.serves (known_by u.graph c.args.unit name number)
    (rw c.new-list.ensures.items at c.in_ok-fails.ensures.adds name number)
    (falls_on u v w keeps c.in_ok-fall_all.ensures.keeps list c.in_ok-fall_all.ensures.falls)).0

pub returns-clause-waits : goal.returns-clause-waits
returns-clause-waits c = λ name number.
    no_more_then (state_of c.args.work.now.now) (state_of c.carry_on.new.work.now) (state_of c.fall_all.new.work.now) (c.in_ok-fails.ensures.waits name number) c.in_ok-fall_all.ensures.waits

pub returns-clause-keeps : goal.returns-clause-keeps
returns-clause-keeps c = keeps_then c.args.work.now c.carry_on.new.work c.fall_all.new.work c.in_ok-fails.ensures.keeps c.in_ok-fall_all.ensures.keeps

-- the list is empty where nothing spreads
pub returns-clause-others : goal.returns-clause-others
returns-clause-others c = λ name number quiet.
    elim c.if-fails.branch as (λ _. KeepsOthers name (state_of c.args.work.now.now) (state_of c.fall_all.new.work.now)) [
      | then-fails w ↦ absurd (true≢false (sym w.if-fails.true ∙ (sym w.spreads-is ∙ quiet)))
      | else-fails w ↦
          let none = (Decides-eqb _ 0).0 (sym w.is_empty.ensures ∙ not_false w.is_empty.result (sym w.spreads-is ∙ quiet)) in
          subst (λ (s : State). KeepsOthers name (state_of c.args.work.now.now) s)
          (sym (c.in_ok-fall_all.ensures.none (length_none c.carry_on.new.list.items (omega (arith, none)))))
          (c.in_ok-fails.ensures.others name number w.if-fails.false)
    ]
  where
    not_false : (b : Bool) → not b ≡ false → b ≡ true
    not_false true e = refl
    not_false false e = sym e
