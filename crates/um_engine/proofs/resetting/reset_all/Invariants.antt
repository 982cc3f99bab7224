use Rattle.std.proofs.Common.{take}
use Rattle.um_model.specs.Machine.{AreReset}
use Rattle.um_state.specs.View.{state_of}
use Rattle.um_falling.specs.Work.{Goes, Keeps}
use Rattle.um_engine.proofs.resetting.reset_all.Given as goal

-- the failures of the units so far are forgotten
abbrev pub invariant-loop-unit : goal.invariant-loop-unit
invariant-loop-unit l = record {
  keeps : Keeps l.initial.work l.work;
  resets : Goes (AreReset l.initial.work.moment (take l.unit-index l.units) (state_of l.initial.work.now)) l.initial.work l.work;
}
