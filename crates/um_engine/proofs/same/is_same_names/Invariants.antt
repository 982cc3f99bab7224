use Rattle.std.proofs.Common.{◌≡◌, ◌<◌, ℕ, slice_get}
use Rattle.um_engine.proofs.same.is_same_names.Given as goal

-- the names so far are the same
abbrev pub invariant-loop-number : goal.invariant-loop-number
invariant-loop-number l = (i : ℕ) → i < l.number → slice_get l.names i ≡ slice_get l.others i
