use Rattle.std.proofs.Common.{◌≡◌, ◌≢◌, ◌+◌, ◌<◌, ◌≤◌, ℕ, min, get_or}
use Rattle.um_jobs.proofs.least.put_leaf.Given as goal

-- each place holds the lesser of its two, except the one above the place at hand; the leaves stay
abbrev pub invariant-loop-at : goal.invariant-loop-at
invariant-loop-at l = record {
  first : 1 ≤ l.at;
  within : l.at < l.limit + l.limit;
  lesser : (i : ℕ) → 1 ≤ i → i < l.limit → i + i ≢ l.at → i + i + 1 ≢ l.at
      → get_or l.tree i 0 ≡ min (get_or l.tree (i + i) 0) (get_or l.tree (i + i + 1) 0);
  leaves : (i : ℕ) → l.limit ≤ i → get_or l.tree i 0 ≡ get_or l.initial.tree i 0;
}

abbrev pub decreases-loop-at : goal.decreases-loop-at
decreases-loop-at l = l.at
