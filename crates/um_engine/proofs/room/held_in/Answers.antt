use Rattle.std.proofs.Common.{sym, subst, arith}
use Rattle.um_state.specs.View.{state_of}
use Rattle.um_falling.specs.Over.{Serves}
use Rattle.um_engine.proofs.HeldLaws.{AreHeldBelow, held_all, held_more, held_none}
use Rattle.um_engine.proofs.room.held_in.Goals as goal

pub loop-unit-init : goal.loop-unit-init
loop-unit-init c =
    let g = c.args.graph.now in
    let s = state_of c.args.work.now.now in
    subst (AreHeldBelow g s 0) (sym c.new-held.ensures.items) (held_none g s)

pub loop-unit-preserved : goal.loop-unit-preserved
loop-unit-preserved c =
    held_more c.args.graph.now (state_of c.args.work.now.now) c.loop-unit.unit c.loop-unit.held.items c.push_held.new.names.items
    (omega (arith, c.loop-unit-test.true, c.len-unit-end.ensures.len)) c.loop-unit.invariant c.in_ok-push_held.ensures

pub returns : goal.returns
returns c =
    let g = c.args.graph.now in
    let s = state_of c.args.work.now.now in
    held_all g s c.loop-unit.unit c.loop-unit.held.items (subst (λ h. Serves h s) c.requires c.graph.ensures.serves) c.loop-unit.invariant
    (omega (arith, c.loop-unit-test.false, c.len-unit-end.ensures.len))
