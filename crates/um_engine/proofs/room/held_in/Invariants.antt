use Rattle.um_state.specs.View.{state_of}
use Rattle.um_engine.proofs.HeldLaws.{AreHeldBelow}
use Rattle.um_engine.proofs.room.held_in.Given as goal

-- those of the units so far
abbrev pub invariant-loop-unit : goal.invariant-loop-unit
invariant-loop-unit l = AreHeldBelow l.graph (state_of l.work.now) l.unit l.held.items
