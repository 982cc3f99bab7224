use Rattle.std.proofs.Common.{◌≡◌, ◌+◌, ◌≤◌, ◌++◌, filter, vec_len, vec_capacity, take}
use Rattle.um_fates.specs.Live.{is_live}
use Rattle.um_fates.proofs.marks.pick_live.Given as goal

abbrev pub invariant-loop-number : goal.invariant-loop-number
invariant-loop-number l = record {
  items : l.picked.items ≡ l.initial.picked.items ++ filter (is_live l.units.held) (take l.number-index l.numbers);
  len : vec_len l.picked ≤ vec_len l.initial.picked + l.number-index;
  capacity : vec_capacity l.initial.picked ≤ vec_capacity l.picked;
}
