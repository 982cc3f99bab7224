-- The cuts of texts by std, in the terms of the definitions.
use Rattle.std.proofs.Common.{◌≡◌, ℕ, ◌+◌, ◌-◌, ◌<◌, ◌≤◌, true, false, not, cond, List, length, get_or, take, drop, ◌==◌, length-drop, subst, Option, Some, None, option_map, MatchOption, Bor, ap, ◌∙◌, arith, lit<}
use Rattle.std.specs.List.{after_last, suffix_len}
use Rattle.std.specs.Str.Pattern.{FindsTextPrefix, FindsTextSuffix, RFindsChar, StripsPrefix, StripsSuffix, SplitsAroundMatch}
use Rattle.std.proofs.lemmas.Bool.{ne_eqb}
use Rattle.std.proofs.lemmas.List.Sums.{suffix_len_is}
use Rattle.std.proofs.lemmas.List.{get_or-drop}
use Rattle.std.specs.Str.{NoCharPasses}
use Rattle.std.proofs.lemmas.Str.Pattern.{starts_text, ends_text, NoCharPasses-char}
use Rattle.um_model.specs.Tree.{is_slash, behind, before}

pub behind_from_strip : (front s : List ℕ) (r : Option (Bor (List ℕ))) → MatchOption r (FindsTextPrefix front s None) (λ x. StripsPrefix (FindsTextPrefix front) s x.now)
    → option_map (λ t. t.now) r ≡ behind front s
behind_from_strip front s None h = ap (λ b. cond b (Some (drop (length front) s)) None) (starts_text false front s h)
behind_from_strip front s (Some x) h =
    ap Some (h.2 ∙ ap (λ k. drop k s) h.1.0)
    ∙ ap (λ b. cond b (Some (drop (length front) s)) None) (starts_text true front s (h.0, h.1, rw h.1.0 h.1.2))

pub before_from_strip : (end s : List ℕ) (r : Option (Bor (List ℕ))) → MatchOption r (FindsTextSuffix end s None) (λ x. StripsSuffix (FindsTextSuffix end) s x.now)
    → option_map (λ t. t.now) r ≡ before end s
before_from_strip end s None h = ap (λ b. cond b (Some (take (length s - length end) s)) None) (ends_text false end s h)
before_from_strip end s (Some x) h =
    ap Some (h.2 ∙ ap (λ k. take (length s - k) s) h.1.0)
    ∙ ap (λ b. cond b (Some (take (length s - length end) s)) None) (ends_text true end s (h.0, h.1, omega (arith, h.3), rw h.1.0 h.1.2))

no_slash_at : (s : List ℕ) (i : ℕ) → NoCharPasses (λ d. d == 47) s → i < length s → not (is_slash (get_or s i 0)) ≡ true
no_slash_at s i none low = ap not (ne_eqb (get_or s i 0) 47 (NoCharPasses-char 47 s i none (lit< tt) low))

within : (j l k : ℕ) → j ≤ k → k < l → k - j < l - j
within j l k low high = omega arith

left_of : (j l n : ℕ) → j ≤ l → n ≡ l - j → j ≡ l - n
left_of j l n fits e = omega arith

-- the text after the last `/`, at which it was split
pub after_last_from_split : (s front back : List ℕ) → SplitsAroundMatch (RFindsChar 47) s front back → back ≡ after_last is_slash s
after_last_from_split s front back (i, j, found, front_is, back_is, rises, front_len, back_len) =
    let fits : j ≤ length s = omega arith in
    let ends : j ≡ i + 1 = found.1.ends in
    let slash : get_or s i 0 ≡ 47 = found.1.byte (lit< tt) in
    let apart : (k : ℕ) → j ≤ k → k < length s → not (is_slash (get_or s k 0)) ≡ true = λ k low high.
    subst (λ (x : ℕ). not (is_slash x) ≡ true) (get_or-drop j s (k - j) 0 ∙ ap (λ n. get_or s n 0) (omega arith))
    (no_slash_at (drop j s) (k - j) found.0 (rw (length-drop j s) (within j (length s) k low high))) in
    let place : j - 1 ≡ i = omega arith in
    let stops : 0 < j → not (is_slash (get_or s (j - 1) 0)) ≡ false = λ _. ap (λ n. not (is_slash (get_or s n 0))) place ∙ ap (λ b. not (is_slash b)) slash in
    let tail : suffix_len (λ x. not (is_slash x)) s ≡ length s - j = suffix_len_is (λ x. not (is_slash x)) s j 0 fits apart stops in
    back_is ∙ ap (λ n. drop n s) (left_of j (length s) _ fits tail)

-- a text with no `/` is its own last part
pub after_last_whole : (s : List ℕ) → NoCharPasses (λ d. d == 47) s → s ≡ after_last is_slash s
after_last_whole s none =
    let all : suffix_len (λ x. not (is_slash x)) s ≡ length s - 0 = suffix_len_is (λ x. not (is_slash x)) s 0 0 (omega arith) (λ k _ high. no_slash_at s k none high) (λ h. absurd (omega arith)) in
    ap (λ n. drop n s) (let h : 0 ≡ length s - suffix_len (λ x. not (is_slash x)) s = omega arith in h)
