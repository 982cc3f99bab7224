-- Where a word may be cut, and the lists that the loops keep.
use Rattle.std.proofs.Common.{◌≡◌, ◌<◌, ◌≤◌, ℕ, suc, zero, ◌+◌, ◌-◌, Bool, true, List, [], ◌∷◌, ◌++◌, length, get_or, drop, map, Option, Some, None, Bor, refl, sym, ap, ◌∙◌, subst, inl, inr, append_assoc, arith}
use Rattle.std.specs.Prelude.{IfSome, string_bytes, String}
use Rattle.std.specs.Option.{option_map}
use Rattle.std.specs.declared.alloc.Global.{Global}
use Rattle.std.specs.List.{prefix_len, slice_get}
use Rattle.std.specs.Str.{IsUtf8, IsCharBoundary}
use Rattle.std.proofs.lemmas.Str.{IsCharBoundary-after_ascii, IsCharBoundary-before_ascii, IsCharBoundary-end, IsCharBoundary-start}
use Rattle.std.proofs.lemmas.List.{map-append, get_or-drop, length-drop}
use Rattle.std.proofs.lemmas.List.Sums.{prefix_len-le-length, prefix_len_stops, prefix_len_passes}
use Rattle.std.proofs.lemmas.Bool.{cases_lt}
use Rattle.std.proofs.lemmas.Bool.Decides.{nat_tests}
use Rattle.std.proofs.lemmas.Option.{none-some, same_Some}
use Rattle.um_model.specs.declared.words.WordRules.{WordRules}
use Rattle.um_model.specs.Commands.{is_sign}
use Rattle.um_model.specs.Words.{Word}
use Rattle.um_model.proofs.WordsLaws.{plain_ascii}
use Rattle.um_model.specs.WordSpellings.{is_plain}
use Rattle.um_words.specs.declared.word.Spelled.{Spelled}
use Rattle.um_words.specs.Views.{word_of}

get_cons : (b : ℕ) (bs : List ℕ) (n : ℕ) → 1 ≤ n → get_or (b ∷ bs) n 0 ≡ get_or bs (n - 1) 0
get_cons b bs zero h = absurd (omega arith)
get_cons b bs (suc n) h = ap (λ i. get_or bs i 0) (omega arith)

pub boundary_one : (text bs : List ℕ) (b : ℕ) → IsUtf8 text → text ≡ b ∷ bs → b < 128 → IsCharBoundary text 1
boundary_one text bs b utf8 e ascii = IsCharBoundary-after_ascii text 0 utf8 (omega (arith, ap length e)) (omega (arith, ap (λ x. get_or x 0 0) e))

pub boundary_means : (text bs : List ℕ) (b n : ℕ) → IsUtf8 text → text ≡ b ∷ bs → 2 ≤ n → n ≤ length bs + 1 → get_or bs (n - 2) 0 < 128 → IsCharBoundary text n
boundary_means text bs b n utf8 e two within ascii =
    let at : get_or text (n - 1) 0 ≡ get_or bs (n - 2) 0 = ap (λ x. get_or x (n - 1) 0) e ∙ get_cons b bs (n - 1) (omega arith) ∙ ap (λ i. get_or bs i 0) (omega arith) in
    let n_is : n - 1 + 1 ≡ n = omega arith in
    subst (IsCharBoundary text) n_is (IsCharBoundary-after_ascii text (n - 1) utf8 (omega (arith, ap length e)) (omega arith))

pub kept_fits : (rules : WordRules) (text bs : List ℕ) (b n : ℕ) (quote : Option ℕ) → text ≡ b ∷ bs → 1 ≤ n → n ≤ length bs + 1
    → n + prefix_len (is_plain rules quote) (drop (n - 1) bs) ≤ length text
kept_fits rules text bs b n quote e one within =
    omega (arith, ap length e, length-drop (n - 1) bs, prefix_len-le-length (is_plain rules quote) (drop (n - 1) bs))

-- a text may be cut after a run of plain bytes
pub boundary_kept : (rules : WordRules) (text bs : List ℕ) (b n : ℕ) (quote : Option ℕ) → text ≡ b ∷ bs → IfSome quote (λ q. q < 128) → 1 ≤ n → n ≤ length bs + 1
    → IsCharBoundary text (n + prefix_len (is_plain rules quote) (drop (n - 1) bs))
boundary_kept rules text bs b n quote e ascii one within =
    let more = drop (n - 1) bs in
    let p = prefix_len (is_plain rules quote) more in
    let fits = kept_fits rules text bs b n quote e one within in
    elim (cases_lt (n + p) (length text)) [
      | inl inside ↦
          let stop = prefix_len_stops (is_plain rules quote) more 0 (omega (arith, ap length e, length-drop (n - 1) bs)) in
          let at : get_or text (n + p) 0 ≡ get_or more p 0 =
          ap (λ x. get_or x (n + p) 0) e ∙ get_cons b bs (n + p) (omega arith) ∙ ap (λ i. get_or bs i 0) (omega arith) ∙ sym (get_or-drop (n - 1) bs p 0) in
          let small : get_or more p 0 < 128 = plain_ascii rules quote (get_or more p 0) stop ascii in
          IsCharBoundary-before_ascii text (n + p) inside (omega arith)
      | inr past ↦
          let end : length text ≡ n + p = omega arith in
          subst (IsCharBoundary text) end (IsCharBoundary-end text)
    ]

pub head_is : (text : List ℕ) (b : ℕ) → Some b ≡ slice_get text 0 → text ≡ b ∷ drop 1 text
head_is [] b e = absurd (none-some b (sym e))
head_is (x ∷ xs) b e = ap (λ y. y ∷ xs) (sym (same_Some b x e))

pub nil_is : (text : List ℕ) → None ≡ slice_get text 0 → text ≡ []
nil_is [] e = refl
nil_is (x ∷ xs) e = absurd (none-some x e)

abbrev pub seen : Option (String Global × Bor (List ℕ)) → Option (List ℕ × List ℕ)
seen r = option_map (λ p. (string_bytes p.0, p.1.now)) r

pub seen_is : (r s : Option (String Global × Bor (List ℕ))) (found : Option (List ℕ × List ℕ)) → r ≡ s → seen r ≡ found → seen s ≡ found
seen_is r s found e h = ap seen (sym e) ∙ h

pushed_words : (old new : List Spelled) (x : Spelled) (w : Word) (words : List Word) → new ≡ old ++ x ∷ [] → word_of x ≡ w
    → map word_of old ++ (w ∷ words) ≡ map word_of new ++ words
pushed_words old new x w words is same =
    sym (append_assoc (map word_of old) (w ∷ []) words)
    ∙ ap (λ y. (map word_of old ++ y ∷ []) ++ words) (sym same)
    ∙ ap (λ f. f ++ words) (sym (map-append word_of old (x ∷ [])) ∙ ap (map word_of) (sym is))

-- one more word, and the words that are read after it
pub pushed_more : (old new : List Spelled) (x : Spelled) (w : Word) (r : Option (List Word)) → new ≡ old ++ x ∷ [] → word_of x ≡ w
    → option_map (λ more. map word_of new ++ more) r ≡ option_map (λ more. map word_of old ++ more) (option_map (λ more. w ∷ more) r)
pushed_more old new x w None is same = refl
pushed_more old new x w (Some words) is same = ap Some (sym (pushed_words old new x w words is same))

-- a text may be cut after a run of ASCII characters
pub boundary_behind : (test : ℕ → Bool) → ((b : ℕ) → test b ≡ true → b < 128) → (text : List ℕ) → IsUtf8 text → IsCharBoundary text (prefix_len test text)
boundary_behind test ascii text utf8 =
    let run = prefix_len test text in
    elim (cases_lt 0 run) [
      | inl some ↦ subst (IsCharBoundary text) (omega arith)
          (IsCharBoundary-after_ascii text (run - 1) utf8 (omega (arith, prefix_len-le-length test text))
          (ascii (get_or text (run - 1) 0) (prefix_len_passes test text (run - 1) 0 (omega arith))))
      | inr none ↦ subst (IsCharBoundary text) (omega arith) (IsCharBoundary-start text utf8)
    ]

sign_ascii : (b : ℕ) → is_sign b ≡ true → b < 128
sign_ascii b e = grind (arith, nat_tests)

-- a text may be cut after its signs
pub boundary_behind_signs : (text : List ℕ) → IsUtf8 text → IsCharBoundary text (prefix_len is_sign text)
boundary_behind_signs text utf8 = boundary_behind is_sign sign_ascii text utf8
