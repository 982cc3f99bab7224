use Rattle.std.proofs.Common.{◌≡◌, ◌≤◌, ℕ, true, take, length, vec_len, vec_capacity}
use Rattle.um_model.specs.StateSpellings.{are_distinct}
use Rattle.um_fates.specs.Live.{has}
use Rattle.um_fates.proofs.marks.Marks.of.Given as goal

abbrev pub invariant-loop-number : goal.invariant-loop-number
invariant-loop-number l = record {
  has : (n : ℕ) → has n l.noted.items ≡ has n (take l.number-index l.numbers);
  once : are_distinct l.noted.items ≡ true;
  len : vec_len l.noted ≤ l.number-index;
  capacity : length l.numbers ≤ vec_capacity l.noted;
  least : 2048 ≤ vec_capacity l.noted;
}
