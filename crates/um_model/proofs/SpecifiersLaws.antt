-- The laws of specifiers: at most one reading, and the steps that find it.
use Rattle.std.proofs.Common.{◌≡◌, ◌≢◌, ◌<◌, ℕ, ◌+◌, ◌-◌, false, not, eqb, List, [], ◌∷◌, length, get_or, drop, Option, Some, None, refl, sym, ap, subst, inl, inr, ◌∙◌, arith}
use Rattle.std.specs.List.{after_last, suffix_len}
use Rattle.std.specs.Str.{is_utf8}
use Rattle.std.proofs.lemmas.List.Sums.{suffix_len_is}
use Rattle.std.proofs.lemmas.Bool.{cases_Bool, cond-true, cond-false, ne_eqb, eq-eqb, true≢false}
use Rattle.std.proofs.lemmas.Str.{IsUtf8-from_is_utf8, is_utf8-from_IsUtf8}
use Rattle.um_model.specs.Results.{Finds}
use Rattle.um_model.specs.Names.{unescape_front}
use Rattle.um_model.specs.Pieces.{Gives, reading}
use Rattle.um_model.specs.Specifiers.{specifier_front, unescaped_of, expanded_of}
use Rattle.um_model.proofs.FindsLaws.{one_found}
use Rattle.um_model.proofs.PiecesLaws.{one_reading, no_reading, reading-StandsForText, StandsForText-reading}
use Rattle.um_model.proofs.Forms.{as_text}
use Rattle.um_model.specs.Names.{instance_or_empty}
use Rattle.um_model.specs.Specifiers.{IsUnescaped, IsExpanded}

-- there is one unescaped text at most, or none
pub one_unescaped : (escaped : List ℕ) (a b : Option (List ℕ)) → IsUnescaped escaped a → IsUnescaped escaped b → a ≡ b
one_unescaped escaped (Some a) (Some b) p q = ap Some (one_reading unescape_front escaped a b p.0 q.0)
one_unescaped escaped (Some a) None p q = absurd (q a p.0 p.1)
one_unescaped escaped None (Some b) p q = absurd (p b q.0 q.1)
one_unescaped escaped None None p q = refl

unescaped_as : (escaped : List ℕ) (r : Option (List ℕ)) → reading unescape_front escaped ≡ r → IsUnescaped escaped (as_text r)
unescaped_as escaped None e = λ bytes stands utf8. no_reading unescape_front escaped bytes e stands
unescaped_as escaped (Some bytes) e =
    let stands = StandsForText-reading unescape_front escaped bytes e in
    elim (cases_Bool (is_utf8 bytes)) [
      | inl valid ↦ subst (IsUnescaped escaped) (sym (cond-true _ _ _ valid)) (stands, IsUtf8-from_is_utf8 bytes valid)
      | inr other ↦ subst (IsUnescaped escaped) (sym (cond-false _ _ _ other)) (λ more means utf8.
          true≢false (sym (is_utf8-from_IsUtf8 more utf8) ∙ ap is_utf8 (one_reading unescape_front escaped more bytes means stands) ∙ other))
    ]

-- the function returns the text that an instance's escapes stand for
pub IsUnescaped-unescaped_of : (escaped : List ℕ) → IsUnescaped escaped (unescaped_of escaped)
IsUnescaped-unescaped_of escaped = unescaped_as escaped (reading unescape_front escaped) refl

-- the function finds each expansion
pub expanded_of-IsExpanded : (name text expanded : List ℕ) → IsExpanded name text expanded → expanded_of name text ≡ Some expanded
unfolding expanded_of
expanded_of-IsExpanded name text expanded is =
    let instance = instance_or_empty name in
    let same = one_unescaped instance (unescaped_of instance) is.unescaped (IsUnescaped-unescaped_of instance) is.instance in
    ap (λ u. reading (specifier_front name u) text) same ∙ reading-StandsForText (specifier_front name is.unescaped) text expanded is.pieces

-- each text that the function finds is an expansion
pub IsExpanded-expanded_of : (name text expanded : List ℕ) → expanded_of name text ≡ Some expanded → IsExpanded name text expanded
unfolding expanded_of
IsExpanded-expanded_of name text expanded e =
    let instance = instance_or_empty name in
    record {
      unescaped = unescaped_of instance;
      instance = IsUnescaped-unescaped_of instance;
      pieces = StandsForText-reading (specifier_front name (unescaped_of instance)) text expanded e;
    }

-- the function finds what the relation says
pub finds_expanded : (name text : List ℕ) → Finds (expanded_of name text) (IsExpanded name text)
finds_expanded name text = λ expanded. (IsExpanded-expanded_of name text expanded, expanded_of-IsExpanded name text expanded)

-- a text stands for one other at most
pub one_expansion : (name text a b : List ℕ) → IsExpanded name text a → IsExpanded name text b → a ≡ b
one_expansion name text = one_found (expanded_of name text) (IsExpanded name text) (finds_expanded name text)

-- any byte but a `%` stands for itself
pub plain_front : (name : List ℕ) (unescaped : Option (List ℕ)) (b : ℕ) (bs : List ℕ) → b ≢ 37 → specifier_front name unescaped b bs ≡ Gives (b ∷ []) 1
plain_front name unescaped b bs differ = cond-false _ _ _ (ne_eqb b 37 differ)

same_test : (a c : ℕ) → a ≡ c → not (eqb a c) ≡ false
same_test a c e = ap not (eq-eqb a c e)

-- the text after the last one, with none after it
pub after_last-found : (c : ℕ) (xs : List ℕ) (k : ℕ) → k < length xs → get_or xs k 0 ≡ c → ((i : ℕ) → k < i → i < length xs → get_or xs i 0 ≢ c) → after_last (λ b. eqb b c) xs ≡ drop (k + 1) xs
after_last-found c xs k below is later =
    let back : k + 1 - 1 ≡ k = omega arith in
    let rest : suffix_len (λ b. not (eqb b c)) xs ≡ length xs - (k + 1) =
    suffix_len_is (λ b. not (eqb b c)) xs (k + 1) 0 (omega arith) (λ i low high. ap not (ne_eqb _ c (later i (omega arith) high)))
    (λ _. same_test (get_or xs (k + 1 - 1) 0) c (ap (λ i. get_or xs i 0) back ∙ is)) in
    let place : length xs - suffix_len (λ b. not (eqb b c)) xs ≡ k + 1 = omega (arith, rest) in
    ap (λ n. drop n xs) place

-- all, if there is none
pub after_last-absent : (c : ℕ) (xs : List ℕ) → ((i : ℕ) → i < length xs → get_or xs i 0 ≢ c) → after_last (λ b. eqb b c) xs ≡ xs
after_last-absent c xs apart =
    let rest : suffix_len (λ b. not (eqb b c)) xs ≡ length xs - 0 = suffix_len_is (λ b. not (eqb b c)) xs 0 0 (omega arith) (λ i _ high. ap not (ne_eqb _ c (apart i high))) (λ some. absurd (omega arith)) in
    let place : length xs - suffix_len (λ b. not (eqb b c)) xs ≡ 0 = omega (arith, rest) in
    ap (λ n. drop n xs) place
