-- Properties of each low character and of each mark of direction.
use Rattle.std.proofs.Common.{◌≡◌, ◌<◌, ◌≤◌, ◌+◌, ◌-◌, ◌==◌, ◌⊎◌, ℕ, Bool, true, inl, inr, subst, arith, rules, tests, ⊎_elim}
use Rattle.std.proofs.lemmas.Bool.{cases_Bool, agree_below, agree_below_at}
use Rattle.um_ctl.specs.Shown.{is_direction}

-- a property of the first mark and of each character from U+200E to U+2069 holds for each mark
of_mark : (f : ℕ → Bool) (b : Bool) → f 1564 ≡ b → agree_below (λ k. f (8206 + k)) (λ k. b) 92 ≡ true → (c : ℕ) → is_direction c ≡ true → f c ≡ b
of_mark f b first others c mark =
    ⊎_elim
    (λ one. let at : 1564 ≡ c = search (rules, tests, arith) in subst (λ n. f n ≡ b) at first)
    (λ other.
    let least : 8206 ≤ c = search (rules, tests, arith) in
    let most : c < 8298 = search (rules, tests, arith) in
    let at : 8206 + (c - 8206) ≡ c = omega (arith, least) in
    let below : c - 8206 < 92 = omega (arith, least, most) in
    subst (λ n. f n ≡ b) at (agree_below_at (λ k. f (8206 + k)) (λ k. b) 92 (c - 8206) others below))
    (cases_Bool (c == 1564))

-- the same for marks and for each character below U+00A0
pub of_low_or_mark : (f : ℕ → Bool) (b : Bool) → agree_below f (λ k. b) 160 ≡ true → f 1564 ≡ b → agree_below (λ k. f (8206 + k)) (λ k. b) 92 ≡ true → (c : ℕ)
    → (c < 160) ⊎ (is_direction c ≡ true) → f c ≡ b
of_low_or_mark f b lows first others c (inl low) = agree_below_at f (λ k. b) 160 c lows low
of_low_or_mark f b lows first others c (inr mark) = of_mark f b first others c mark
