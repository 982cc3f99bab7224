use Rattle.std.proofs.Common.{◌≡◌, ℕ, List}
use Rattle.um_model.specs.Waiting.{NoMoreWait}
use Rattle.um_model.specs.Jobs.{AreTidyJobs}
use Rattle.um_model.specs.Service.{AreTidyUnits}
use Rattle.um_graph.specs.Graph.{IsNumberOf}
use Rattle.um_state.specs.View.{state_of}
use Rattle.um_falling.specs.Falling.{KeepsSubs}
use Rattle.um_falling.specs.Work.{Keeps}
use Rattle.um_falling.proofs.AlongLaws.{left}
use Rattle.um_falling.proofs.TakenLaws.{IsGoing}
use Rattle.um_falling.proofs.along.take_along.Given as goal

abbrev pub invariant-units : goal.invariant-units
invariant-units l = record {
  going : (name : List ℕ) → IsNumberOf l.initial.work.graph l.failed name → AreTidyJobs (state_of l.initial.work.now).pending → AreTidyUnits (state_of l.initial.work.now).units
      → IsGoing l.initial.work.graph (state_of l.initial.work.now) name (state_of l.work.now) l.list.items;
  waits : NoMoreWait (state_of l.work.now).pending (state_of l.initial.work.now).pending;
  subs : KeepsSubs (state_of l.initial.work.now) (state_of l.work.now);
  keeps : Keeps l.initial.work l.work;
  actions : l.work.actions ≡ l.initial.work.actions;
}

-- the starts that wait, and the units that are to be followed
abbrev pub decreases-units : goal.decreases-units
decreases-units l = left l.initial.work.graph (state_of l.work.now, l.list.items)
