use Rattle.um_model.specs.Machine.{State}
use Rattle.um_state.specs.View.{state_of}
use Rattle.um_engine.specs.Filled.{Tells}
use Rattle.um_engine.proofs.TellingLaws.{TellsFirst}
use Rattle.um_engine.proofs.numbered.tell_all.Given as goal

abbrev pub invariant-loop-unit : goal.invariant-loop-unit
invariant-loop-unit l = (before : State) → Tells l.work.graph before l.initial.jobs → TellsFirst l.work.graph (state_of l.work.now) l.unit l.jobs
