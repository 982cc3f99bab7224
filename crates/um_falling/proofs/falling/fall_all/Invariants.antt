use Rattle.std.proofs.Common.{◌≡◌, ℕ, List, []}
use Rattle.um_model.specs.Waiting.{NoMoreWait}
use Rattle.um_state.specs.View.{state_of}
use Rattle.um_falling.specs.Falling.{AreNamed}
use Rattle.um_falling.specs.Work.{Keeps}
use Rattle.um_falling.proofs.FallenLaws.{turns_left}
use Rattle.um_falling.proofs.FallingLaws.{IsOnTheWay}
use Rattle.um_falling.proofs.falling.fall_all.Given as goal

-- a run in which those that are left fall is one in which all fall
abbrev pub invariant-units : goal.invariant-units
invariant-units l = record {
  way : (names : List (List ℕ)) → AreNamed l.initial.work.graph l.initial.list.items names
      → IsOnTheWay l.initial.work.graph l.initial.work.moment names (state_of l.initial.work.now) (state_of l.work.now) l.initial.work.actions l.work.actions l.list.items;
  waits : NoMoreWait (state_of l.work.now).pending (state_of l.initial.work.now).pending;
  none : l.initial.list.items ≡ [] → (l.list.items ≡ []) × (state_of l.work.now ≡ state_of l.initial.work.now);
  keeps : Keeps l.initial.work l.work;
}

-- the units that are active or activating, and those that are yet to be stopped
abbrev pub decreases-units : goal.decreases-units
decreases-units l = turns_left l.initial.work.graph (state_of l.work.now) l.list.items
