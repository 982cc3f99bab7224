use Rattle.std.proofs.Common.{◌≡◌, ◌≤◌, ◌+◌, ◌^◌, ℕ, length}
use denote.Text.{Utf8}
use denote.Shadow.{shadow}
use Rattle.um_model.specs.Text.{trim_start}
use Rattle.um_model.specs.ValueSpellings.{AddUpTo}
use Rattle.um_value.proofs.spans.sum_of_parts.Given as goal

-- the sums of the rest, with the parts before it, are those of the text
abbrev pub invariant-loop-rest : goal.invariant-loop-rest
invariant-loop-rest l = record {
  utf8 : shadow (Utf8 l.rest);
  trimmed : trim_start l.rest ≡ l.rest;
  small : l.total ≤ 2 ^ 62;
  found : (n : ℕ) → AddUpTo l.rest n → AddUpTo l.text (l.total + n);
  only : (n : ℕ) → AddUpTo l.text n → (m : ℕ) × AddUpTo l.rest m × (n ≡ l.total + m);
}

abbrev pub decreases-loop-rest : goal.decreases-loop-rest
decreases-loop-rest l = length l.rest
