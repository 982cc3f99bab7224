use Rattle.std.proofs.Common.{◌≡◌, ℕ, List, take}
use Rattle.um_words.specs.Environment.{variables_of}
use Rattle.um_words.proofs.ValueLemmas.{seen_at, given_at}
use Rattle.um_words.proofs.values.Values.of.Given as goal

-- the variables so far are stored under their names
abbrev pub invariant-loop-variable : goal.invariant-loop-variable
invariant-loop-variable l = (name : List ℕ) → seen_at l.by_name name ≡ given_at (variables_of (take l.variable-index l.environment)) name
