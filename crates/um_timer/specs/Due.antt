-- The timer that is due first, as a scan in the order of the names finds it.
use Rattle.std.specs.Prelude.{ℕ, List, [], ◌∷◌, Option, Some, None, option_map, nat_le, if◌then◌else◌}
use Rattle.std.specs.Borrow.{Bor}

-- the sooner one of a timer so far and the next one: the first of two with one deadline
abbrev pub sooner : Option (ℕ × List ℕ) → List ℕ × ℕ → Option (ℕ × List ℕ)
sooner None e = Some (e.1, e.0)
sooner (Some due) e = if nat_le due.0 e.1 then Some due else Some (e.1, e.0)

abbrev pub soonest : Option (ℕ × List ℕ) → List (List ℕ × ℕ) → Option (ℕ × List ℕ)
soonest due [] = due
soonest due (e ∷ es) = soonest (sooner due e) es

-- the timer so far, as the code holds it
abbrev pub seen_due : Option (ℕ × Bor (List ℕ)) → Option (ℕ × List ℕ)
seen_due due = option_map (λ d. (d.0, d.1.now)) due
