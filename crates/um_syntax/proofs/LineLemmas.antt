-- Lines and whitespace, about lists alone.
use Rattle.std.proofs.Common.{◌≡◌, ◌≢◌, ◌<◌, ◌≤◌, ℕ, ◌+◌, ◌-◌, false, eqb, List, [], ◌∷◌, ◌++◌, length, get_or, take, drop, reverse, ◌%◌, Option, Some, None, MatchOption, Bor, unwrap_or, refl, sym, ap, ◌∙◌, inl, inr, arith}
use Rattle.std.specs.List.{slice_split, All, take_while}
use Rattle.std.proofs.lemmas.List.{reverse-append, reverse-reverse}
use Rattle.std.proofs.lemmas.List.Sums.{take_while-cons}
use Rattle.std.specs.Option.{option_map}
use Rattle.std.specs.Ffi.{without_last}
use Rattle.std.proofs.lemmas.List.{drop-take, drop-drop, take-take}
use Rattle.um_model.proofs.SyntaxLaws.{ends_in, before_bracket-push}
use Rattle.um_syntax.specs.Places.{LiesAt}
use Rattle.um_model.specs.Syntax.{continues, in_brackets}
use Rattle.std.specs.Str.Lines.{lines, lines_of_parts, strip_carriage_return}
use Rattle.std.proofs.lemmas.List.Splits.{slice_split_at, slice_split_none, length-slice_split}
use Rattle.std.proofs.lemmas.List.{take_at, get_or_at, get_or_default, length_push}
use Rattle.std.proofs.lemmas.Bool.{ne_eqb, eqb-true, false_from_ne_true, eq-eqb, cases_eq, cond-true, cond-false}
use Rattle.um_model.specs.FileForms.{before_bracket}

-- a part before others loses its carriage return
lines_of_more : (x : List ℕ) (parts : List (List ℕ)) → 0 < length parts → lines_of_parts (x ∷ parts) ≡ strip_carriage_return x ∷ lines_of_parts parts
lines_of_more x [] some = absurd (omega arith)
lines_of_more x (y ∷ more) some = refl

none_equal : (c : ℕ) (bs : List ℕ) → ((i : ℕ) → i < length bs → get_or bs i 0 ≢ c) → All (λ b. eqb b c ≡ false) bs
none_equal c bs apart k d lt = ne_eqb _ c (λ e. apart k lt (get_or_default bs k 0 d lt ∙ e))

pub lines-append : (line after : List ℕ) → ((i : ℕ) → i < length line → get_or line i 0 ≢ 10) → lines (line ++ 10 ∷ after) ≡ strip_carriage_return line ∷ lines after
lines-append line after apart =
    ap lines_of_parts (slice_split_at (λ b. eqb b 10) line 10 after (none_equal 10 line apart) refl)
    ∙ lines_of_more line (slice_split (λ b. eqb b 10) after) (omega (arith, length-slice_split (λ b. eqb b 10) after))

pub lines_last : (line : List ℕ) → 0 < length line → ((i : ℕ) → i < length line → get_or line i 0 ≢ 10) → lines line ≡ line ∷ []
lines_last line some apart =
    ap lines_of_parts (slice_split_none (λ b. eqb b 10) line (none_equal 10 line apart)) ∙ cond-false _ _ _ (ne_eqb (length line) 0 (λ z. omega arith))

strip-append : (xs : List ℕ) → strip_carriage_return (xs ++ 13 ∷ []) ≡ xs
strip-append xs =
    let n : length (xs ++ 13 ∷ []) - 1 ≡ length xs = omega (arith, length_push xs 13) in
    cond-true _ _ _ (eq-eqb _ 13 (ap (λ k. get_or (xs ++ 13 ∷ []) k 0) n ∙ get_or_at xs 13 [] 0 (length xs) refl))
    ∙ ap (λ k. take k (xs ++ 13 ∷ [])) n ∙ take_at xs (13 ∷ []) (length xs) refl

pub stripped : (line : List ℕ) (d : Bor (List ℕ)) (r : Option (Bor (List ℕ))) → d.now ≡ line
    → MatchOption r ((front : List ℕ) → line ≢ front ++ 13 ∷ []) (λ x. line ≡ x.now ++ 13 ∷ [])
    → (unwrap_or r d).now ≡ strip_carriage_return line
stripped line d None e h = e ∙ sym (cond-false _ (take (length line - 1) line) line
    (false_from_ne_true _ (λ t. h (take (length line - 1) line) (ends_in line 13 (omega arith) (eqb-true _ 13 t)))))
stripped line d (Some x) e h = sym (strip-append x.now) ∙ ap strip_carriage_return (sym h)

reverse-cons : (b : ℕ) (bs : List ℕ) → reverse (b ∷ bs) ≡ reverse bs ++ b ∷ []
reverse-cons b bs = reverse-append (b ∷ []) bs

none_from : (text back : List ℕ) → back ≡ reverse text → ((front : List ℕ) → text ≢ front ++ 92 ∷ []) → eqb (length (take_while (λ b. eqb b 92) back) % 2) 1 ≡ false
none_from text [] e never = refl
none_from text (b ∷ bs) e never =
    elim (cases_eq b 92) [
      | inl same ↦ absurd (never (reverse bs) (sym (reverse-reverse text) ∙ ap reverse (sym e) ∙ reverse-cons b bs ∙ ap (λ x. reverse bs ++ x ∷ []) same))
      | inr differ ↦ ap (λ t. eqb (length t % 2) 1) (take_while-cons (λ b. eqb b 92) b bs ∙ cond-false _ _ _ (ne_eqb b 92 differ))
    ]

-- a line that doesn't end in a backslash doesn't go on
pub continues_none : (text : List ℕ) → ((front : List ℕ) → text ≢ front ++ 92 ∷ []) → continues text ≡ false
continues_none text never = none_from text (reverse text) refl never

pub before_bracket_is : (text : List ℕ) (r : Option (Bor (List ℕ)))
    → MatchOption r ((front : List ℕ) → text ≢ front ++ 93 ∷ []) (λ x. text ≡ x.now ++ 93 ∷ [])
    → option_map (λ s. s.now) r ≡ before_bracket text
before_bracket_is text None h = sym (cond-false _ (Some (without_last text)) None
    (false_from_ne_true _ (λ t. h (without_last text) (ends_in text 93 (omega arith) (eqb-true _ 93 t)))))
before_bracket_is text (Some x) h = sym (before_bracket-push x.now) ∙ ap before_bracket (sym h)

pub in_brackets_none : (text : List ℕ) → ((rest : List ℕ) → text ≢ 91 ∷ rest) → in_brackets text ≡ None
in_brackets_none [] never = refl
in_brackets_none (b ∷ bs) never =
    elim (cases_eq b 91) [ inl same ↦ absurd (never bs (ap (λ x. x ∷ bs) same)) | inr differ ↦ cond-false _ _ _ (ne_eqb b 91 differ) ]

pub lies_empty : (source : List ℕ) (start : ℕ) → start ≤ length source → LiesAt source start []
lies_empty source start within = record { within = omega arith; slice = refl }

pub lies_in_rest : (source rest line : List ℕ) → length rest ≤ length source → drop (length source - length rest) source ≡ rest → length line ≤ length rest → take (length line) rest ≡ line
    → LiesAt source (length source - length rest) line
lies_in_rest source rest line shorter left within front = record { within = omega arith; slice = ap (take (length line)) left ∙ front }

-- a part of a text that lies in the source lies there too
pub part_lies : (source line part : List ℕ) (start at : ℕ) → LiesAt source start line → LiesAt line at part → LiesAt source (start + at) part
part_lies source line part start at lies inside =
    let rest = drop start source in
    let cut : drop at line ≡ take (length line - at) (drop at rest) =
    ap (drop at) (sym lies.slice) ∙ ap (λ n. drop at (take n rest)) (omega (arith, inside.within)) ∙ drop-take at (length line - at) rest in
    record {
      within = omega (arith, lies.within, inside.within);
      slice = ap (take (length part)) (sym (drop-drop at start source))
          ∙ sym (take-take (length part) (length line - at) (drop at rest) (omega (arith, inside.within)))
          ∙ ap (take (length part)) (sym cut) ∙ inside.slice;
    }
