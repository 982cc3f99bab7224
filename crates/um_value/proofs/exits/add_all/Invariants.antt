use Rattle.std.proofs.Common.{◌≡◌, ◌||◌, ◌<◌, ◌≤◌, ℕ, false, length, slice_index_or}
use Rattle.um_value.proofs.exits.add_all.Given as goal

-- the places before the index are joined, and the others as they were
abbrev pub invariant-loop-index : goal.invariant-loop-index
invariant-loop-index l = record {
  same : length l.set ≡ length l.fn.set;
  joined : (i : ℕ) → i < l.index → slice_index_or l.set i false ≡ (slice_index_or l.fn.set i false || slice_index_or l.other i false);
  later : (i : ℕ) → l.index ≤ i → slice_index_or l.set i false ≡ slice_index_or l.fn.set i false;
}
