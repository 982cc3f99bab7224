-- The names of files give their numbers.
use Rattle.std.proofs.Common.{◌≡◌, ◌<◌, ◌≤◌, ◌^◌, ◌⊎◌, ◌++◌, ℕ, List, sym, subst, ◌∙◌, arith, ⊎_elim}
use Rattle.std.proofs.lemmas.Fmt.{decimal_injective}
use Rattle.std.proofs.lemmas.List.{append_cancel_right}
use Rattle.std.specs.Prelude.{decimal}
use Rattle.um_model.specs.Moments.{process_limit}

-- a number that no process has isn't the number of a process
pub other_number : (name digits end : List ℕ) (m : ℕ) → name ≡ digits ++ end → digits ≡ decimal m → m < 2 ^ 64 → (m ≡ 0) ⊎ (process_limit ≤ m)
    → (n : ℕ) → 1 ≤ n → n < process_limit → name ≡ decimal n ++ end → ⊥
other_number name digits end m splits tells fits past n some low is =
    let small : n < 2 ^ 64 = omega arith in
    let same : m ≡ n = decimal_injective m n fits small (sym tells ∙ append_cancel_right digits (decimal n) end (sym splits ∙ is)) in
    ⊎_elim (λ none. let bad : n ≡ 0 = sym same ∙ none in omega arith) (λ high. let bad : process_limit ≤ n = subst (λ k. process_limit ≤ k) same high in omega arith) past
