use Rattle.std.proofs.Common.{◌≡◌, ◌++◌, ◌+◌, ◌≤◌, map, replicate, vec_len, vec_capacity}
use Rattle.um_model.specs.Machine.{Refusal}
use Rattle.um_state.specs.View.{reply_of}
use Rattle.um_wire.specs.Refusal.{refused_of}
use Rattle.um_manager.specs.Stores.{refusal_of}
use Rattle.um_manager.proofs.submitting.deny.Given as goal

abbrev pub invariant-loop : goal.invariant-loop
invariant-loop l = record {
  items : map reply_of l.replies.items ≡ map reply_of l.initial.replies.items ++ replicate l.counter (Refusal (refused_of (refusal_of l.fault)));
  len : vec_len l.replies ≡ vec_len l.initial.replies + l.counter;
  capacity : vec_capacity l.initial.replies ≤ vec_capacity l.replies;
}
