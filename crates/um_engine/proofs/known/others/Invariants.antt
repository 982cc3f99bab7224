use Rattle.std.proofs.Common.{◌⊎◌, ◌<◌, ℕ, List, Contains, get_or}
use Rattle.um_engine.proofs.known.others.Given as goal

-- each one so far was added, or is among those that are known; and no other was added
abbrev pub invariant-loop-unit : goal.invariant-loop-unit
invariant-loop-unit l = record {
  each : (i : ℕ) → i < l.unit-index → (d : List ℕ) → Contains l.others.items (get_or l.units i d) ⊎ Contains l.known (get_or l.units i d);
  only : (name : List ℕ) → Contains l.others.items name → Contains l.units name;
}
