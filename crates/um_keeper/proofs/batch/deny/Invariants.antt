use Rattle.std.proofs.Common.{◌≡◌, ◌++◌, ◌-◌, ◌≤◌, replicate, length, vec_len, vec_capacity, Err}
use Rattle.um_wire.specs.declared.refusal.Refusal.TheVariants.{Device}
use Rattle.um_keeper.proofs.batch.deny.Given as goal

abbrev pub invariant-loop : goal.invariant-loop
invariant-loop l = record {
  items : l.answers.items ++ replicate (l.count - l.counter) (Err Device) ≡ l.initial.answers.items ++ replicate (l.count - length l.initial.answers.items) (Err Device);
  len : vec_len l.answers ≡ l.counter;
  capacity : vec_capacity l.initial.answers ≤ vec_capacity l.answers;
}
