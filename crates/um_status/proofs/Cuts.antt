-- Lines that are cut at spaces.
use Rattle.std.proofs.Common.{◌≡◌, ◌≢◌, ◌<◌, ◌^◌, ℕ, List, [], ◌∷◌, ◌++◌, length, get_or, refl, sym, subst, ap, suc, zero, arith, ◌∙◌}
use Rattle.std.proofs.Math.Seq.{get_or-append_seam}
use Rattle.std.proofs.lemmas.List.{length-append}
use Rattle.std.proofs.lemmas.Fmt.{decimal_is_IsNumeral}
use Rattle.std.specs.Prelude.{decimal}
use Rattle.std.specs.Char.{digit_value}
use Rattle.std.specs.Str.Parse.{AllDigits}
use Rattle.um_status.specs.Status.{IsNoEnd}

-- none of the bytes is this one
abbrev pub Lacks : ℕ → List ℕ → Type 0
Lacks c bs = (i : ℕ) → i < length bs → get_or bs i 0 ≢ c

-- digits are no spaces
digits_lack : (bs : List ℕ) → AllDigits 10 bs → Lacks 32 bs
digits_lack [] digits i below = absurd (omega arith)
digits_lack (b ∷ bs) digits zero below = λ same. let bad : digit_value 32 < 10 = subst (λ v. digit_value v < 10) same digits.0 in absurd (omega arith)
digits_lack (b ∷ bs) digits (suc i) below = digits_lack bs digits.1 i (omega arith)

decimal_lacks : (n : ℕ) → n < 2 ^ 64 → Lacks 32 (decimal n)
decimal_lacks n small = digits_lack (decimal n) (decimal_is_IsNumeral n small).0.1

-- a text can be cut at its first such byte in one way
cut_once : (c : ℕ) (xs us ys vs : List ℕ) → Lacks c xs → Lacks c us → xs ++ c ∷ ys ≡ us ++ c ∷ vs → (xs ≡ us) × (ys ≡ vs)
cut_once c [] [] ys vs none lacks same = (refl, cc)
cut_once c [] (u ∷ us) ys vs none lacks same = let first : u ≡ c = cc in absurd (lacks 0 (omega arith) first)
cut_once c (x ∷ xs) [] ys vs none lacks same = let first : x ≡ c = cc in absurd (none 0 (omega arith) first)
cut_once c (x ∷ xs) (u ∷ us) ys vs none lacks same =
    let rest : xs ++ c ∷ ys ≡ us ++ c ∷ vs = cc in
    let first : x ≡ u = cc in
    let both = cut_once c xs us ys vs (λ (i : ℕ) (h : i < length xs). none (suc i) (omega arith)) (λ (i : ℕ) (h : i < length us). lacks (suc i) (omega arith)) rest in
    (cc (both.0, first), both.1)

-- a text that lacks a byte can't be cut at it
never_cut : (c : ℕ) (bs xs ys : List ℕ) → Lacks c bs → bs ≢ xs ++ c ∷ ys
never_cut c bs xs ys lacks same = lacks (length xs) (omega (arith, ap length same, length-append xs (c ∷ ys))) (ap (λ t. get_or t (length xs) 0) same ∙ get_or-append_seam xs c ys 0)

-- without a space it is no line of an end
pub no_end_whole : (line : List ℕ) → Lacks 32 line → IsNoEnd line
no_end_whole line lacks number moment how small few same = never_cut 32 line (decimal number) (decimal moment ++ 32 ∷ how) lacks same

-- nor with a single one
pub no_end_once : (line front back : List ℕ) → line ≡ front ++ 32 ∷ back → Lacks 32 front → Lacks 32 back → IsNoEnd line
no_end_once line front back is first rest number moment how small few same =
    let cut = cut_once 32 front (decimal number) back (decimal moment ++ 32 ∷ how) first (decimal_lacks number small) (sym is ∙ same) in
    never_cut 32 back (decimal moment) how rest cut.1

-- nor if no number stands before the first one
pub no_end_number : (line front back : List ℕ) → line ≡ front ++ 32 ∷ back → Lacks 32 front → ((n : ℕ) → n < 2 ^ 64 → front ≢ decimal n) → IsNoEnd line
no_end_number line front back is first none number moment how small few same =
    let cut = cut_once 32 front (decimal number) back (decimal moment ++ 32 ∷ how) first (decimal_lacks number small) (sym is ∙ same) in
    none number small cut.0

-- nor if none stands before the second one
pub no_end_moment : (line front middle back : List ℕ) → line ≡ front ++ 32 ∷ (middle ++ 32 ∷ back) → Lacks 32 front → Lacks 32 middle
    → ((n : ℕ) → n < 2 ^ 64 → middle ≢ decimal n) → IsNoEnd line
no_end_moment line front middle back is first second none number moment how small few same =
    let cut = cut_once 32 front (decimal number) (middle ++ 32 ∷ back) (decimal moment ++ 32 ∷ how) first (decimal_lacks number small) (sym is ∙ same) in
    let again = cut_once 32 middle (decimal moment) back how second (decimal_lacks moment few) cut.1 in
    none moment few again.0
