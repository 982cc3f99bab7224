-- A number without zeros in front is read back from its digits, and from nothing else.
use Rattle.std.proofs.Common.{◌≡◌, ◌≢◌, ◌<◌, ◌≤◌, ℕ, zero, suc, ◌+◌, ◌-◌, ◌*◌, ◌^◌, true, false, ◌&&◌, ◌||◌, eqb, List, [], ◌∷◌, length, get_or, Option, Result, Ok, Err, refl, sym, ap, subst, ◌∙◌, arith, rules, MatchOption}
use Rattle.std.specs.Prelude.{decimal, is_ok}
use Rattle.std.specs.Result.{result_ok}
use Rattle.std.specs.Str.{all_ascii_digits, IsUtf8}
use Rattle.std.specs.Str.Parse.{ParsesUnsigned}
use Rattle.std.proofs.lemmas.Bool.{and_from, le-leb, false≢true}
use Rattle.std.proofs.lemmas.Fmt.{decimal_is_IsNumeral, decimal_digit, first_decimal, parse-decimal, decimal-digits_value, IsAscii-decimal}
use Rattle.std.proofs.lemmas.Str.{IsUtf8-from_ascii}
use Rattle.std.proofs.lemmas.Str.Parse.{IsNumeralModel, numerals_by_fold, parse_plain, digit_at}
use Rattle.um_model.specs.Text.{is_empty}
use Rattle.um_runner.specs.Numerals.{is_plain}

-- the number that these digits and more after them write
abbrev read_on : ℕ → List ℕ → ℕ
read_on n [] = n
read_on n (c ∷ cs) = read_on (10 * n + (c - 48)) cs

own : IsNumeralModel (λ ds. all_ascii_digits ds ≡ true) (read_on 0)
own = numerals_by_fold _ (search rules) read_on (search rules)

plain_from : (ds : List ℕ) → 0 < length ds → 48 < get_or ds 0 0 → get_or ds 0 0 ≤ 57 → is_plain ds ≡ true
plain_from [] some low high = absurd (omega (arith, some))
plain_from (d ∷ ds) some low high = ap (λ b. b || (eqb d 48 && is_empty ds)) (and_from _ _ (le-leb 49 d (omega (arith, low))) (le-leb d 57 high))

-- the digits of a number have no zero in front
pub decimal_plain : (n : ℕ) → n < 2 ^ 64 → is_plain (decimal n) ≡ true
decimal_plain zero below = ap is_plain (decimal_digit 0 (omega arith))
decimal_plain (suc n) below =
    let numeral = (decimal_is_IsNumeral (suc n) (omega (arith, below))).0 in
    plain_from (decimal (suc n)) numeral.0 (first_decimal (suc n) (omega arith) (omega (arith, below))) (digit_at (decimal (suc n)) 0 numeral.1 numeral.0).1

no_plus : (bs : List ℕ) → is_plain bs ≡ true → get_or bs 0 0 ≢ 43
no_plus [] plain = absurd (false≢true plain)
no_plus (b ∷ bs) plain = λ e. false≢true (subst (λ b. is_plain (b ∷ bs) ≡ true) e plain)

zero_alone : (bs : List ℕ) → is_plain (48 ∷ bs) ≡ true → length (48 ∷ bs) ≡ 1
zero_alone [] plain = refl
zero_alone (b ∷ bs) plain = absurd (false≢true plain)

no_zero : (bs : List ℕ) → is_plain bs ≡ true → get_or bs 0 0 ≡ 48 → length bs ≡ 1
no_zero [] plain e = absurd (false≢true plain)
no_zero (b ∷ bs) plain e = zero_alone bs (subst (λ b. is_plain (b ∷ bs) ≡ true) e plain)

-- the number read of a text without zeros in front
pub read_number : {E : Type 0} (bs : List ℕ) (r : Result ℕ E) → is_plain bs ≡ true → ParsesUnsigned 64 10 bs r
    → MatchOption (result_ok r) ((n : ℕ) → n < 2 ^ 64 → bs ≢ decimal n) (λ n. bs ≡ decimal n)
read_number {E = E} bs (Ok n) plain parsed =
    let p = parse_plain own {E = E} 64 bs (Ok n) parsed (no_plus bs plain) in
    sym (decimal-digits_value own bs p.0.0 p.0.1 (no_zero bs plain) (omega (arith, p.0.2))) ∙ ap decimal (sym p.1)
read_number {E = E} bs (Err e) plain parsed = λ n below same. false≢true (ap is_ok (parse-decimal {E = E} 64 n bs (Err e) below (omega (arith, below)) same parsed))

-- no other text is one of a number
pub other_text : (bs : List ℕ) → is_plain bs ≡ false → (n : ℕ) → n < 2 ^ 64 → bs ≢ decimal n
other_text bs plain n below same = false≢true (sym plain ∙ ap is_plain same ∙ decimal_plain n below)

-- nor is one that is no UTF-8
pub no_utf8 : (bs : List ℕ) → (IsUtf8 bs → ⊥) → (n : ℕ) → n < 2 ^ 64 → bs ≢ decimal n
no_utf8 bs never n below same = never (subst IsUtf8 (sym same) (IsUtf8-from_ascii (decimal n) (IsAscii-decimal n (omega (arith, below)))))

-- the same, of a text that is this one
pub read_same : {E : Type 0} (bs text : List ℕ) (r : Result ℕ E) (o : Option ℕ) → text ≡ bs → is_plain bs ≡ true → ParsesUnsigned 64 10 text r → o ≡ result_ok r
    → MatchOption o ((n : ℕ) → n < 2 ^ 64 → bs ≢ decimal n) (λ n. bs ≡ decimal n)
read_same bs text r o same plain parsed is =
    subst (λ o. MatchOption o ((n : ℕ) → n < 2 ^ 64 → bs ≢ decimal n) (λ n. bs ≡ decimal n)) (sym is)
    (read_number bs r plain (subst (λ t. ParsesUnsigned 64 10 t r) same parsed))
