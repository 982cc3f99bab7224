-- A word read byte by byte, inside a quote or none, as code does it: the result is that of the word's pieces.
use Rattle.std.proofs.Common.{◌≡◌, ◌≤◌, ℕ, zero, suc, ◌-◌, Bool, true, false, cond, eqb, List, [], ◌∷◌, ◌++◌, length, take, drop, Option, Some, None, refl, sym, ap, ◌∙◌, inl, inr, append_assoc, append-nil, arith}
use Rattle.std.specs.Prelude.{◌&&◌, nat_lt, ◌==◌}
use Rattle.std.specs.Option.{option_map_or}
use Rattle.std.proofs.lemmas.List.{length-append, length-drop}
use Rattle.std.proofs.lemmas.Bool.{cases_Bool, true≢false, cond-true, cond-false, eqb-true}
use Rattle.um_model.specs.Ascii.{is_space}
use Rattle.um_model.specs.declared.words.WordRules.{WordRules}
use Rattle.um_model.specs.declared.words.WordRules.TheVariants.{Escaped, Plain, Names}
use Rattle.um_model.specs.Pieces.{Front, Unreadable, Ends, Gives, by_front, begun}
use Rattle.um_model.specs.Words.{begins_with_digits, is_left_out, rare_front, backslash_front, begins_escape, is_quote, quoted_front, quote_front, piece_of_word}
use Rattle.um_model.proofs.PiecesLaws.{begun_step, BeginsWith-begun, left_follows, Follows, past_piece}
use Rattle.um_model.specs.FileForms.{meaning_of, hex_value}
pub use Rattle.um_model.specs.FileForms.{with_front}
use Rattle.um_model.specs.FileForms.{hex_front}
use Rattle.um_model.specs.WordSpellings.{Spelling, hex_spelling, rare_escape, escape, spelled_at, at_end, by_spelling, read, Stop, Bad, Turn, Means, Kept}

pub read_skip : (rules : WordRules) (n : ℕ) (quote : Option ℕ) (bs : List ℕ) → read rules n quote bs ≡ read rules 0 quote (drop n bs)
read_skip rules zero quote bs = refl
read_skip rules (suc n) quote [] = refl
read_skip rules (suc n) quote (b ∷ bs) = read_skip rules n quote bs

pub front_of_front : (xs ys : List ℕ) (r : Option (List ℕ × List ℕ)) → with_front xs (with_front ys r) ≡ with_front (xs ++ ys) r
front_of_front xs ys None = refl
front_of_front xs ys (Some p) = ap (λ w. Some (w, p.1)) (sym (append_assoc xs ys p.0))

pub no_front : (r : Option (List ℕ × List ℕ)) → with_front [] r ≡ r
no_front None = refl
no_front (Some p) = refl

-- A spelling as a piece.

abbrev as_front : ℕ → List ℕ → Spelling → Front ℕ
as_front b bs Stop = Ends
as_front b bs Bad = Unreadable
as_front b bs (Turn other) = Unreadable
as_front b bs (Means meaning n) = Gives (meaning ∷ []) n
as_front b bs (Kept n) = Gives (b ∷ take (n - 1) bs) n

if_as : (b : ℕ) (bs : List ℕ) (t : Bool) (f g : Front ℕ) (s u : Spelling) → f ≡ as_front b bs s → g ≡ as_front b bs u → cond t f g ≡ as_front b bs (cond t s u)
if_as b bs true f g s u first second = first
if_as b bs false f g s u first second = second

meant_as : (b : ℕ) (bs : List ℕ) (meaning : Option ℕ) (f : Front ℕ) (s : Spelling) → f ≡ as_front b bs s
    → option_map_or (λ m. Gives (m ∷ []) 2) meaning f ≡ as_front b bs (option_map_or (λ m. Means m 2) meaning s)
meant_as b bs None f s same = same
meant_as b bs (Some m) f s same = refl

rare_as : (b : ℕ) (bs : List ℕ) → rare_front b bs ≡ as_front 92 (b ∷ bs) (rare_escape b bs)
rare_as b bs =
    if_as 92 (b ∷ bs) (b == 120 && begins_with_digits 16 2 bs) (hex_front (hex_value bs)) _ (hex_spelling (hex_value bs)) _
    (if_as 92 (b ∷ bs) (nat_lt 0 (hex_value bs) && nat_lt (hex_value bs) 128) (Gives (hex_value bs ∷ []) 4) Unreadable (Means (hex_value bs) 4) Bad refl refl)
    (if_as 92 (b ∷ bs) (is_left_out b bs) Unreadable _ Bad _ refl
    (if_as 92 (b ∷ bs) (is_space b) (Gives (92 ∷ b ∷ []) 2) (Gives (92 ∷ []) 1) (Kept 2) (Kept 1) refl refl))

escape_as : (bs : List ℕ) → backslash_front bs ≡ as_front 92 bs (escape bs)
escape_as [] = refl
escape_as (b ∷ bs) = meant_as 92 (b ∷ bs) (meaning_of b) (rare_front b bs) (rare_escape b bs) (rare_as b bs)

begins_is : (rules : WordRules) (b : ℕ) → begins_escape rules b ≡ true → b ≡ 92
begins_is Escaped b e = eqb-true b 92 e
begins_is Plain b e = absurd (cc)
begins_is Names b e = absurd (cc)

-- a spelling that neither ends a word nor turns it
abbrev pub is_piece : Spelling → Bool
is_piece Stop = false
is_piece Bad = true
is_piece (Turn other) = false
is_piece (Means meaning n) = true
is_piece (Kept n) = true

either_piece : (t : Bool) (f g : Spelling) → is_piece f ≡ true → is_piece g ≡ true → is_piece (cond t f g) ≡ true
either_piece true f g first second = first
either_piece false f g first second = second

meant_piece : (meaning : Option ℕ) (other : Spelling) → is_piece other ≡ true → is_piece (option_map_or (λ m. Means m 2) meaning other) ≡ true
meant_piece (Some meaning) other goes = refl
meant_piece None other goes = goes

pub escape_piece : (bs : List ℕ) → is_piece (escape bs) ≡ true
escape_piece [] = refl
escape_piece (b ∷ bs) =
    meant_piece (meaning_of b) (rare_escape b bs)
    (either_piece _ (hex_spelling (hex_value bs)) _ (either_piece _ (Means (hex_value bs) 4) Bad refl refl)
    (either_piece (is_left_out b bs) Bad _ refl (either_piece (is_space b) (Kept 2) (Kept 1) refl refl)))

-- The reading after a piece.

-- a way to go on after pieces: no reading stays none, and the bytes read so far stay in front
pub record Goes (rules : WordRules) (quote : Option ℕ) (front : ℕ → List ℕ → Front ℕ) (after : Option (List ℕ × List ℕ) → Option (List ℕ × List ℕ)) : Type 0 where
  pub none : after None ≡ None
  pub more : (xs : List ℕ) (r : Option (List ℕ × List ℕ)) → after (with_front xs r) ≡ with_front xs (after r)

abbrev Agrees : WordRules → Option ℕ → (ℕ → List ℕ → Front ℕ) → (Option (List ℕ × List ℕ) → Option (List ℕ × List ℕ)) → ℕ → Type 0
Agrees rules quote front after size = (bs : List ℕ) → length bs ≤ size → read rules 0 quote bs ≡ after (begun front bs)

behind : (rules : WordRules) (quote : Option ℕ) (front : ℕ → List ℕ → Front ℕ) (after : Option (List ℕ × List ℕ) → Option (List ℕ × List ℕ)) (size n : ℕ) (bs xs : List ℕ)
    → Goes rules quote front after → Agrees rules quote front after size → length bs ≤ size
    → with_front xs (read rules n quote bs) ≡ after (with_front xs (begun front (drop n bs)))
behind rules quote front after size n bs xs goes agrees small =
    ap (with_front xs) (read_skip rules n quote bs ∙ agrees (drop n bs) (omega (arith, length-drop n bs)))
    ∙ sym (goes.more xs (begun front (drop n bs)))

by_piece : (rules : WordRules) (quote : Option ℕ) (front : ℕ → List ℕ → Front ℕ) (after : Option (List ℕ × List ℕ) → Option (List ℕ × List ℕ)) (size b : ℕ) (bs : List ℕ) (s : Spelling)
    → Goes rules quote front after → Agrees rules quote front after size → length bs ≤ size → is_piece s ≡ true
    → by_spelling s quote b bs (λ n other. read rules n other bs) ≡ after (by_front (as_front b bs s) (b ∷ bs) (λ n. begun front (drop n bs)))
by_piece rules quote front after size b bs Stop goes agrees small is = absurd (true≢false (sym is))
by_piece rules quote front after size b bs Bad goes agrees small is = sym goes.none
by_piece rules quote front after size b bs (Turn other) goes agrees small is = absurd (true≢false (sym is))
by_piece rules quote front after size b bs (Means meaning n) goes agrees small is = behind rules quote front after size (n - 1) bs (meaning ∷ []) goes agrees small
by_piece rules quote front after size b bs (Kept n) goes agrees small is = behind rules quote front after size (n - 1) bs (b ∷ take (n - 1) bs) goes agrees small

-- if the code's spelling and the definition's front are the same piece
same_piece : (rules : WordRules) (quote : Option ℕ) (front : ℕ → List ℕ → Front ℕ) (after : Option (List ℕ × List ℕ) → Option (List ℕ × List ℕ)) (size b : ℕ) (bs : List ℕ) (s : Spelling)
    → Goes rules quote front after → Agrees rules quote front after size → length bs ≤ size → is_piece s ≡ true → spelled_at rules quote b bs ≡ s → front b bs ≡ as_front b bs s
    → read rules 0 quote (b ∷ bs) ≡ after (begun front (b ∷ bs))
same_piece rules quote front after size b bs s goes agrees small is spelled same =
    ap (λ f. by_spelling f quote b bs (λ n other. read rules n other bs)) spelled
    ∙ by_piece rules quote front after size b bs s goes agrees small is
    ∙ ap (λ f. after (by_front f (b ∷ bs) (λ n. begun front (drop n bs)))) (sym same)
    ∙ ap after (sym (begun_step front b bs))

-- Inside a quote.

-- the reading after a quote, given the text found inside
abbrev past_quote : WordRules → Option (List ℕ × List ℕ) → Option (List ℕ × List ℕ)
past_quote rules None = None
past_quote Plain (Some (found, [])) = Some (found, [])
past_quote rules (Some (found, [])) = None
past_quote rules (Some (found, quote ∷ left)) = with_front found (read rules 0 None left)

past_more : (rules : WordRules) (xs : List ℕ) (r : Option (List ℕ × List ℕ)) → past_quote rules (with_front xs r) ≡ with_front xs (past_quote rules r)
past_more rules xs None = refl
past_more Plain xs (Some (found, [])) = refl
past_more Escaped xs (Some (found, [])) = refl
past_more Names xs (Some (found, [])) = refl
past_more rules xs (Some (found, quote ∷ left)) = sym (front_of_front xs found (read rules 0 None left))

open_end : (rules : WordRules) (quote : ℕ) → at_end rules (Some quote) ≡ past_quote rules (Some ([], []))
open_end Plain quote = refl
open_end Escaped quote = refl
open_end Names quote = refl

inside : (rules : WordRules) (quote size : ℕ) → Agrees rules (Some quote) (quoted_front rules quote) (past_quote rules) size
inside rules quote size [] small = open_end rules quote
inside rules quote zero (b ∷ bs) small = absurd (omega arith)
inside rules quote (suc size) (b ∷ bs) small =
    let front = quoted_front rules quote in
    let goes : Goes rules (Some quote) front (past_quote rules) = record { none = refl; more = past_more rules } in
    let low : length bs ≤ size = omega arith in
    elim (cases_Bool (begins_escape rules b)) [
      | inl begins ↦
          same_piece rules (Some quote) front (past_quote rules) size b bs (escape bs) goes (inside rules quote size) low (escape_piece bs) (cond-true _ _ _ begins)
          (cond-true _ _ _ begins ∙ escape_as bs ∙ ap (λ c. as_front c bs (escape bs)) (sym (begins_is rules b begins)))
      | inr other ↦ elim (cases_Bool (eqb b quote)) [
        | inl closes ↦
            ap (λ f. by_spelling f (Some quote) b bs (λ n other. read rules n other bs)) (cond-false _ _ _ other ∙ cond-true _ _ _ closes)
            ∙ sym (no_front (read rules 0 None bs))
            ∙ ap (past_quote rules) (sym (begun_step front b bs ∙ ap (λ f. by_front f (b ∷ bs) (λ n. begun front (drop n bs))) (cond-false _ _ _ other ∙ cond-true _ _ _ closes)))
        | inr plain ↦
            same_piece rules (Some quote) front (past_quote rules) size b bs (Kept 1) goes (inside rules quote size) low refl (cond-false _ _ _ other ∙ cond-false _ _ _ plain)
            (cond-false _ _ _ other ∙ cond-false _ _ _ plain)
      ]
    ]

-- Outside quotes.

abbrev itself : Option (List ℕ × List ℕ) → Option (List ℕ × List ℕ)
itself r = r

closed_end : (rules : WordRules) → at_end rules None ≡ Some ([], [])
closed_end Plain = refl
closed_end Escaped = refl
closed_end Names = refl

-- after the closing quote the word goes on
closed : (rules : WordRules) (size b : ℕ) (bs : List ℕ) → Agrees rules None (piece_of_word rules) itself size → length bs ≤ size → (r : Option (List ℕ × List ℕ))
    → begun (quoted_front rules b) bs ≡ r → past_quote rules r ≡ by_front (quote_front rules (b ∷ bs) r) (b ∷ bs) (λ n. begun (piece_of_word rules) (drop n bs))
closed rules size b bs agrees small None is = refl
closed Escaped size b bs agrees small (Some (found, [])) is = refl
closed Names size b bs agrees small (Some (found, [])) is = refl
closed Plain size b bs agrees small (Some (found, [])) is =
    let at : Follows bs [] = (bs, sym (append-nil bs)) in
    let place : length (b ∷ bs) - 1 ≡ length (b ∷ bs) - length {A = ℕ} [] - 1 = omega arith in
    let nothing : drop (length (b ∷ bs) - 1) bs ≡ [] = ap (λ n. drop n bs) place ∙ past_piece b bs [] at in
    ap (λ w. Some (w, [])) (sym (append-nil found)) ∙ ap (λ t. with_front found (begun (piece_of_word Plain) t)) (sym nothing)
closed rules size b bs agrees small (Some (found, quote ∷ left)) is =
    let at = left_follows (quoted_front rules b) bs found (quote ∷ left) (BeginsWith-begun (quoted_front rules b) bs found (quote ∷ left) is) in
    let behind_quote : Follows bs left = (at.0 ++ quote ∷ [], at.1 ∙ sym (append_assoc at.0 (quote ∷ []) left)) in
    let low : length left ≤ size = omega (arith, ap length at.1, length-append at.0 (quote ∷ left)) in
    ap (with_front found) (agrees left low) ∙ ap (λ t. with_front found (begun (piece_of_word rules) t)) (sym (past_piece b bs left behind_quote))

outside : (rules : WordRules) (size : ℕ) → Agrees rules None (piece_of_word rules) itself size
outside rules size [] small = closed_end rules
outside rules zero (b ∷ bs) small = absurd (omega arith)
outside rules (suc size) (b ∷ bs) small =
    let front = piece_of_word rules in
    let goes : Goes rules None front itself = record { none = refl; more = λ xs r. refl } in
    let low : length bs ≤ size = omega arith in
    let step = λ (f : Front ℕ) (e : front b bs ≡ f). sym (begun_step front b bs ∙ ap (λ g. by_front g (b ∷ bs) (λ n. begun front (drop n bs))) e) in
    elim (cases_Bool (begins_escape rules b)) [
      | inl begins ↦
          same_piece rules None front itself size b bs (escape bs) goes (outside rules size) low (escape_piece bs) (cond-true _ _ _ begins)
          (cond-true _ _ _ begins ∙ escape_as bs ∙ ap (λ c. as_front c bs (escape bs)) (sym (begins_is rules b begins)))
      | inr other ↦ elim (cases_Bool (is_space b)) [
        | inl white ↦
            ap (λ f. by_spelling f None b bs (λ n other. read rules n other bs)) (cond-false _ _ _ other ∙ cond-true _ _ _ white)
            ∙ step Ends (cond-false _ _ _ other ∙ cond-true _ _ _ white)
        | inr apart ↦ elim (cases_Bool (is_quote b)) [
          | inl quotes ↦
              ap (λ f. by_spelling f None b bs (λ n other. read rules n other bs)) (cond-false _ _ _ other ∙ cond-false _ _ _ apart ∙ cond-true _ _ _ quotes)
              ∙ inside rules b (length bs) bs (omega arith)
              ∙ closed rules size b bs (outside rules size) low (begun (quoted_front rules b) bs) refl
              ∙ step (quote_front rules (b ∷ bs) (begun (quoted_front rules b) bs)) (cond-false _ _ _ other ∙ cond-false _ _ _ apart ∙ cond-true _ _ _ quotes)
          | inr plain ↦
              same_piece rules None front itself size b bs (Kept 1) goes (outside rules size) low refl
              (cond-false _ _ _ other ∙ cond-false _ _ _ apart ∙ cond-false _ _ _ plain) (cond-false _ _ _ other ∙ cond-false _ _ _ apart ∙ cond-false _ _ _ plain)
        ]
      ]
    ]

-- reading byte by byte gives the same as the pieces
pub begun-read : (rules : WordRules) (text : List ℕ) → begun (piece_of_word rules) text ≡ read rules 0 None text
begun-read rules text = sym (outside rules (length text) text (omega arith))
