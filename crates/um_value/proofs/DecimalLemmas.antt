-- The number that is spelled so far, digit by digit.
use Rattle.std.proofs.Common.{◌≡◌, ◌<◌, ◌≤◌, ℕ, ◌+◌, ◌-◌, ◌*◌, List, [], ◌∷◌, length, get_or, drop, arith}
use Rattle.std.proofs.lemmas.List.{at_drop_more}
use Rattle.std.specs.Prelude.{fold}

-- the number that a number's digits followed by these digits spell
abbrev pub decimal_after : ℕ → List ℕ → ℕ
decimal_after n bs = fold (λ m b. 10 * m + (b - 48)) n bs

decimal_after-least : (n : ℕ) (bs : List ℕ) → n ≤ decimal_after n bs
decimal_after-least n [] = omega arith
decimal_after-least n (b ∷ bs) = omega (arith, decimal_after-least (10 * n + (b - 48)) bs)

-- one more digit
pub decimal_step : (n i : ℕ) (bs : List ℕ) → i < length bs → decimal_after n (drop i bs) ≡ decimal_after (10 * n + (get_or bs i 0 - 48)) (drop (i + 1) bs)
decimal_step n i bs below = at_drop_more (decimal_after n) bs i 0 below

-- while digits are left, the number is ten times greater at the end
pub decimal_ten : (n i : ℕ) (bs : List ℕ) → i < length bs → 10 * n ≤ decimal_after n (drop i bs)
decimal_ten n i bs below = omega (arith, decimal_step n i bs below, decimal_after-least (10 * n + (get_or bs i 0 - 48)) (drop (i + 1) bs))
