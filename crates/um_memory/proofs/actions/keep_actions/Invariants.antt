use Rattle.std.proofs.Common.{◌≡◌, ◌++◌, length, map}
use Rattle.std.specs.Result.{OnOk}
use Rattle.um_state.specs.View.{action_of}
use Rattle.um_memory.proofs.actions.keep_actions.Given as goal

abbrev pub decreases-loop-handed : goal.decreases-loop-handed
decreases-loop-handed l = length l.receipt.1

-- the actions that are kept and those still in the receipt, where nothing was lost
abbrev pub invariant-loop-handed : goal.invariant-loop-handed
invariant-loop-handed l = record {
  kept : OnOk l.done (map action_of l.kept.items ++ l.receipt.1 ≡ map action_of l.initial.kept.items ++ l.fn.receipt.1);
  reply : l.receipt.0 ≡ l.fn.receipt.0;
}
