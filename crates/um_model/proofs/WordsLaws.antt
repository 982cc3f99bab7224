-- The laws of words: at most one reading, and the function that finds it.
use Rattle.std.proofs.Common.{◌≡◌, ◌↔◌, ◌<◌, ◌≤◌, ℕ, zero, suc, ◌+◌, ◌-◌, Bool, true, false, cond, eqb, List, [], ◌∷◌, ◌++◌, length, take, drop, map, Option, Some, None, option_map, refl, sym, ap, ◌∙◌, subst, inl, inr, append_assoc, append-nil, arith}
use Rattle.std.specs.Prelude.{IfSome}
use Rattle.std.specs.List.{prefix_len, flat_map, slice_split, onto_first}
use Rattle.std.proofs.lemmas.List.{drop-drop, length-drop}
use Rattle.std.proofs.lemmas.Bool.{cases_Bool, true≢false, cond-true, cond-false, or_parts, or_cases, not-true, not-false, eqb-true}
use Rattle.std.proofs.lemmas.Option.{some_pair_parts, none-some, same_Some}
use Rattle.std.specs.Option.{option_map_or}
use Rattle.um_model.specs.Ascii.{is_space}
use Rattle.um_model.specs.Results.{Finds}
use Rattle.um_model.specs.declared.words.WordRules.{WordRules}
use Rattle.um_model.specs.declared.words.WordRules.TheVariants.{Escaped, Plain, Names}
pub use Rattle.um_model.proofs.WordSteps.{with_front}
pub use Rattle.um_model.specs.WordSpellings.{at_end, by_spelling, read}
use Rattle.um_model.proofs.WordSteps.{read_skip, front_of_front, no_front, is_piece, escape_piece, begun-read}
use Rattle.um_model.specs.WordSpellings.{Spelling, Stop, Bad, Turn, Means, Kept, escape, bare, spelled_at, may_end}
use Rattle.um_model.proofs.FindsLaws.{one_found}
use Rattle.um_model.specs.Words.{is_quote, begins_escape, Word, word_front, piece_of_words, words_of}
use Rattle.um_model.specs.Commands.{Command, is_separator, value_in_command, command_of, commands_read}
use Rattle.um_model.specs.Pieces.{reading, Unreadable}
use Rattle.um_model.proofs.PiecesLaws.{prefixed, reading_first, reading_unreadable, reading-StandsForText, StandsForText-reading, prefixed-nil, Follows, follows_more, past_piece}
use Rattle.um_model.specs.FileForms.{word_values, commands_among}
use Rattle.um_model.specs.WordSpellings.{is_plain, InWord, AreWords, AreCommands, ends, stops, turns, stands, keeps}
use Rattle.um_model.specs.WordSpellings.{marks}

drop_cons : (b : ℕ) (bs : List ℕ) (n : ℕ) → 1 ≤ n → drop n (b ∷ bs) ≡ drop (n - 1) bs
drop_cons b bs zero h = absurd (omega arith)
drop_cons b bs (suc n) h = ap (λ i. drop i bs) (omega arith)

take_cons : (b : ℕ) (bs : List ℕ) (n : ℕ) → 1 ≤ n → take n (b ∷ bs) ≡ b ∷ take (n - 1) bs
take_cons b bs zero h = absurd (omega arith)
take_cons b bs (suc n) h = ap (λ i. b ∷ take i bs) (omega arith)

nil_take : (n : ℕ) → take {A = ℕ} n [] ≡ []
nil_take zero = refl
nil_take (suc n) = refl

take_sum : (n p : ℕ) (xs : List ℕ) → take (n + p) xs ≡ take n xs ++ take p (drop n xs)
take_sum zero p xs = ap (λ i. take i xs) (omega arith)
take_sum (suc n) p [] = nil_take (suc n + p) ∙ sym (nil_take p)
take_sum (suc n) p (x ∷ xs) = let e : suc n + p ≡ suc (n + p) = omega arith in ap (λ i. take i (x ∷ xs)) e ∙ ap (λ t. x ∷ t) (take_sum n p xs)

plain_bare : (quote : Option ℕ) (b : ℕ) → marks quote b ≡ false → bare quote b ≡ Kept 1
plain_bare None b h = let r = or_parts (is_space b) (is_quote b) h in cond-false _ _ _ r.0 ∙ cond-false _ _ _ r.1
plain_bare (Some quote) b h = cond-false _ _ _ h

plain_spelling : (rules : WordRules) (quote : Option ℕ) (b : ℕ) (bs : List ℕ) → is_plain rules quote b ≡ true → spelled_at rules quote b bs ≡ Kept 1
plain_spelling rules quote b bs h =
    let p = or_parts (begins_escape rules b) (marks quote b) (not-true _ h) in
    cond-false _ _ _ p.0 ∙ plain_bare quote b p.1

escape_ascii : (rules : WordRules) (b : ℕ) → begins_escape rules b ≡ true → b < 128
escape_ascii Escaped b e = omega (arith, eqb-true b 92 e)
escape_ascii Plain b e = absurd (cc)
escape_ascii Names b e = absurd (cc)

pub space_ascii : (b : ℕ) → is_space b ≡ true → b < 128
space_ascii b white = elim (or_cases (eqb b 32) (eqb b 9) white) [ inl e ↦ omega (arith, eqb-true b 32 e) | inr e ↦ omega (arith, eqb-true b 9 e) ]

marks_ascii : (quote : Option ℕ) (b : ℕ) → marks quote b ≡ true → IfSome quote (λ q. q < 128) → b < 128
marks_ascii None b h ascii = elim (or_cases (is_space b) (is_quote b) h) [
  | inl g ↦ space_ascii b g
  | inr g ↦ elim (or_cases (eqb b 34) (eqb b 39) g) [ inl e ↦ omega (arith, eqb-true b 34 e) | inr e ↦ omega (arith, eqb-true b 39 e) ]
]
marks_ascii (Some quote) b h ascii = omega (arith, eqb-true b quote h)

-- a byte that doesn't stand for itself is ASCII
pub plain_ascii : (rules : WordRules) (quote : Option ℕ) (b : ℕ) → is_plain rules quote b ≡ false → IfSome quote (λ q. q < 128) → b < 128
plain_ascii rules quote b h ascii = elim (or_cases (begins_escape rules b) (marks quote b) (not-false _ h)) [
  | inl e ↦ escape_ascii rules b e
  | inr e ↦ marks_ascii quote b e ascii
]

-- a run of bytes that stand for themselves
read_run : (rules : WordRules) (quote : Option ℕ) (bs : List ℕ)
    → let p = prefix_len (is_plain rules quote) bs in read rules 0 quote bs ≡ with_front (take p bs) (read rules 0 quote (drop p bs))
read_run rules quote [] = sym (no_front (at_end rules quote))
read_run rules quote (b ∷ bs) =
    let rest = read_run rules quote bs in
    let p = prefix_len (is_plain rules quote) bs in
    let goal = λ (n : ℕ). with_front (take n (b ∷ bs)) (read rules 0 quote (drop n (b ∷ bs))) in
    elim (cases_Bool (is_plain rules quote b)) [
      | inl plain ↦
          let is_suc : prefix_len (is_plain rules quote) (b ∷ bs) ≡ suc p = cond-true _ _ _ plain ∙ omega arith in
          ap (λ f. by_spelling f quote b bs (λ n other. read rules n other bs)) (plain_spelling rules quote b bs plain)
          ∙ ap (with_front (b ∷ [])) rest ∙ front_of_front (b ∷ []) (take p bs) (read rules 0 quote (drop p bs)) ∙ ap goal (sym is_suc)
      | inr not_plain ↦ sym (no_front (read rules 0 quote (b ∷ bs))) ∙ ap goal (sym (cond-false _ (1 + p) 0 not_plain))
    ]

-- one byte more that is meant
pub told_means : (rules : WordRules) (text bs word rest later : List ℕ) (b meaning n : ℕ) (quote : Option ℕ) (whole : Option (List ℕ × List ℕ))
    → text ≡ b ∷ bs → spelled_at rules quote b bs ≡ Means meaning n → 2 ≤ n → rest ≡ drop n text → later ≡ word ++ meaning ∷ []
    → with_front word (read rules 0 quote text) ≡ whole → with_front later (read rules 0 quote rest) ≡ whole
told_means rules text bs word rest later b meaning n quote whole e is two left then told =
    let rest_is : rest ≡ drop (n - 1) bs = left ∙ ap (drop n) e ∙ drop_cons b bs n (omega arith) in
    ap (λ w. with_front w (read rules 0 quote rest)) then ∙ ap (λ r. with_front (word ++ meaning ∷ []) (read rules 0 quote r)) rest_is
    ∙ sym (front_of_front word (meaning ∷ []) (read rules 0 quote (drop (n - 1) bs)))
    ∙ ap (λ r. with_front word (with_front (meaning ∷ []) r)) (sym (read_skip rules (n - 1) quote bs))
    ∙ ap (λ f. with_front word (by_spelling f quote b bs (λ n other. read rules n other bs))) (sym is)
    ∙ ap (λ t. with_front word (read rules 0 quote t)) (sym e) ∙ told

-- more bytes that stay, and the run of plain bytes after them
pub told_kept : (rules : WordRules) (text bs word rest later : List ℕ) (b n p : ℕ) (quote : Option ℕ) (whole : Option (List ℕ × List ℕ))
    → text ≡ b ∷ bs → spelled_at rules quote b bs ≡ Kept n → 1 ≤ n → p ≡ prefix_len (is_plain rules quote) (drop (n - 1) bs)
    → rest ≡ drop (n + p) text → later ≡ word ++ take (n + p) text
    → with_front word (read rules 0 quote text) ≡ whole → with_front later (read rules 0 quote rest) ≡ whole
told_kept rules text bs word rest later b n p quote whole e is one run left then told =
    let more = drop (n - 1) bs in
    let more_is : drop n text ≡ more = ap (drop n) e ∙ drop_cons b bs n one in
    let kept_is : take n text ≡ b ∷ take (n - 1) bs = ap (take n) e ∙ take_cons b bs n one in
    let kept = b ∷ take (n - 1) bs in
    let rest_is : rest ≡ drop p more = left ∙ sym (drop-drop p n text) ∙ ap (drop p) more_is in
    let all_kept : later ≡ word ++ (kept ++ take p more) =
    then ∙ ap (λ x. word ++ x) (take_sum n p text ∙ ap (λ x. x ++ take p (drop n text)) kept_is ∙ ap (λ x. kept ++ take p x) more_is) in
    let run_is : read rules 0 quote more ≡ with_front (take p more) (read rules 0 quote (drop p more)) =
    read_run rules quote more ∙ ap (λ i. with_front (take i more) (read rules 0 quote (drop i more))) (sym run) in
    ap (λ w. with_front w (read rules 0 quote rest)) all_kept ∙ ap (λ r. with_front (word ++ (kept ++ take p more)) (read rules 0 quote r)) rest_is
    ∙ sym (front_of_front word (kept ++ take p more) (read rules 0 quote (drop p more)))
    ∙ ap (with_front word) (sym (front_of_front kept (take p more) (read rules 0 quote (drop p more))) ∙ ap (with_front kept) (sym run_is ∙ sym (read_skip rules (n - 1) quote bs)))
    ∙ ap (λ f. with_front word (by_spelling f quote b bs (λ n other. read rules n other bs))) (sym is)
    ∙ ap (λ t. with_front word (read rules 0 quote t)) (sym e) ∙ told

-- a reading with a front, without that front
taken_off : (front : List ℕ) (r : Option (List ℕ × List ℕ)) (w s : List ℕ) → with_front front r ≡ Some (w, s) → (v : List ℕ) × (r ≡ Some (v, s)) × (front ++ v ≡ w)
taken_off front None w s e = absurd (none-some (w, s) e)
taken_off front (Some p) w s e = let q = some_pair_parts (front ++ p.0) w p.1 s e in (p.0, ap (λ t. Some (p.0, t)) q.1, q.0)

-- a word that is spelled so is read
pub read-InWord : (rules : WordRules) (quote : Option ℕ) (bs word rest : List ℕ) → InWord rules quote bs word rest → read rules 0 quote bs ≡ Some (word, rest)
read-InWord rules quote bs word rest (ends q e) = cond-true _ _ _ e
read-InWord rules quote bs word rest (stops q b more e) = ap (λ f. by_spelling f q b more (λ n other. read rules n other more)) e
read-InWord rules quote bs word rest (turns q other b more w r e inside) =
    ap (λ f. by_spelling f q b more (λ n other. read rules n other more)) e ∙ read-InWord rules other more w r inside
read-InWord rules quote bs word rest (stands q b meaning n more w r e inside) =
    ap (λ f. by_spelling f q b more (λ n other. read rules n other more)) e
    ∙ ap (with_front (meaning ∷ [])) (read_skip rules (n - 1) q more ∙ read-InWord rules q (drop (n - 1) more) w r inside)
read-InWord rules quote bs word rest (keeps q b n more w r e inside) =
    ap (λ f. by_spelling f q b more (λ n other. read rules n other more)) e
    ∙ ap (with_front (b ∷ take (n - 1) more)) (read_skip rules (n - 1) q more ∙ read-InWord rules q (drop (n - 1) more) w r inside)

-- a word that is read in a text of at most this size is spelled so
abbrev FindsWords : WordRules → ℕ → Type 0
FindsWords rules size = (quote : Option ℕ) (bs word rest : List ℕ) → length bs ≤ size → read rules 0 quote bs ≡ Some (word, rest) → InWord rules quote bs word rest

by_case : (rules : WordRules) (size : ℕ) → FindsWords rules size → (f : Spelling) (quote : Option ℕ) (b : ℕ) (bs word rest : List ℕ) → length bs ≤ size → spelled_at rules quote b bs ≡ f
    → by_spelling f quote b bs (λ n other. read rules n other bs) ≡ Some (word, rest) → InWord rules quote (b ∷ bs) word rest
by_case rules size finds Stop quote b bs word rest small is h =
    let p = some_pair_parts [] word (b ∷ bs) rest h in
    subst (λ w. InWord rules quote (b ∷ bs) w rest) p.0 (subst (λ r. InWord rules quote (b ∷ bs) [] r) p.1 (stops quote b bs is))
by_case rules size finds Bad quote b bs word rest small is h = absurd (none-some (word, rest) h)
by_case rules size finds (Turn other) quote b bs word rest small is h = turns quote other b bs word rest is (finds other bs word rest small h)
by_case rules size finds (Means meaning n) quote b bs word rest small is h =
    let t = taken_off (meaning ∷ []) (read rules (n - 1) quote bs) word rest h in
    subst (λ w. InWord rules quote (b ∷ bs) w rest) t.2
    (stands quote b meaning n bs t.0 rest is (finds quote (drop (n - 1) bs) t.0 rest (omega (arith, length-drop (n - 1) bs)) (sym (read_skip rules (n - 1) quote bs) ∙ t.1)))
by_case rules size finds (Kept n) quote b bs word rest small is h =
    let t = taken_off (b ∷ take (n - 1) bs) (read rules (n - 1) quote bs) word rest h in
    subst (λ w. InWord rules quote (b ∷ bs) w rest) t.2
    (keeps quote b n bs t.0 rest is (finds quote (drop (n - 1) bs) t.0 rest (omega (arith, length-drop (n - 1) bs)) (sym (read_skip rules (n - 1) quote bs) ∙ t.1)))

ended : (rules : WordRules) (quote : Option ℕ) (word rest : List ℕ) → at_end rules quote ≡ Some (word, rest) → InWord rules quote [] word rest
ended rules quote word rest e = elim (cases_Bool (may_end rules quote)) [
  | inl may ↦
      let p = some_pair_parts [] word [] rest (sym (cond-true _ _ _ may) ∙ e) in
      subst (λ w. InWord rules quote [] w rest) p.0 (subst (λ r. InWord rules quote [] [] r) p.1 (ends quote may))
  | inr not_so ↦ absurd (none-some (word, rest) (sym (cond-false _ _ _ not_so) ∙ e))
]

-- a word that is read is spelled so
pub InWord-read : (rules : WordRules) (size : ℕ) → FindsWords rules size
InWord-read rules size quote [] word rest small e = ended rules quote word rest e
InWord-read rules zero quote (b ∷ bs) word rest small e = absurd (omega arith)
InWord-read rules (suc size) quote (b ∷ bs) word rest small e =
    by_case rules size (InWord-read rules size) (spelled_at rules quote b bs) quote b bs word rest (omega arith) refl e

-- the words that are read are exactly those that are spelled
pub word_spelled : (rules : WordRules) (quote : Option ℕ) (bs word rest : List ℕ) → (read rules 0 quote bs ≡ Some (word, rest)) ↔ InWord rules quote bs word rest
word_spelled rules quote bs word rest = (λ e. InWord-read rules (length bs) quote bs word rest (omega arith) e, read-InWord rules quote bs word rest)

-- an option that is mapped to something was something
mapped : {A B : Type 0} (f : A → B) (r : Option A) (y : B) → option_map f r ≡ Some y → (x : A) × (r ≡ Some x) × (f x ≡ y)
mapped f None y e = absurd (none-some y e)
mapped f (Some x) y e = (x, refl, same_Some (f x) y e)

-- a spelling that ends a word
abbrev is_stop : Spelling → Bool
is_stop Stop = true
is_stop Bad = false
is_stop (Turn other) = false
is_stop (Means meaning n) = false
is_stop (Kept n) = false

goes_either : (t : Bool) (f g : Spelling) → is_stop f ≡ false → is_stop g ≡ false → is_stop (cond t f g) ≡ false
goes_either true f g first second = first
goes_either false f g first second = second

piece_goes : (f : Spelling) → is_piece f ≡ true → is_stop f ≡ false
piece_goes Stop is = absurd (true≢false (sym is))
piece_goes Bad is = refl
piece_goes (Turn other) is = refl
piece_goes (Means meaning n) is = refl
piece_goes (Kept n) is = refl

-- no escape ends a word
escape_goes : (bs : List ℕ) → is_stop (escape bs) ≡ false
escape_goes bs = piece_goes (escape bs) (escape_piece bs)

bare_goes : (b : ℕ) → is_space b ≡ false → is_stop (bare None b) ≡ false
bare_goes b apart = ap is_stop (cond-false _ _ _ apart) ∙ goes_either (is_quote b) (Turn (Some b)) (Kept 1) refl refl

-- outside quotes whitespace alone ends a word
word_goes : (rules : WordRules) (b : ℕ) (bs : List ℕ) → is_space b ≡ false → spelled_at rules None b bs ≡ Stop → ⊥
word_goes rules b bs apart e = true≢false (sym (ap is_stop e) ∙ goes_either (begins_escape rules b) (escape bs) (bare None b) (escape_goes bs) (bare_goes b apart))

-- the rest stands at the end of the text
rest_follows : (rules : WordRules) (quote : Option ℕ) (bs word rest : List ℕ) → InWord rules quote bs word rest → Follows bs rest
rest_follows rules quote bs word rest (ends q e) = ([], refl)
rest_follows rules quote bs word rest (stops q b more e) = ([], refl)
rest_follows rules quote bs word rest (turns q other b more w r e inside) = follows_more (b ∷ more) r 1 (rest_follows rules other more w r inside)
rest_follows rules quote bs word rest (stands q b meaning n more w r e inside) =
    follows_more (b ∷ more) r 1 (follows_more more r (n - 1) (rest_follows rules q (drop (n - 1) more) w r inside))
rest_follows rules quote bs word rest (keeps q b n more w r e inside) =
    follows_more (b ∷ more) r 1 (follows_more more r (n - 1) (rest_follows rules q (drop (n - 1) more) w r inside))

-- a word that doesn't begin with whitespace takes a byte at least
rest_follows_first : (rules : WordRules) (b : ℕ) (bs word rest : List ℕ) → is_space b ≡ false → InWord rules None (b ∷ bs) word rest → Follows bs rest
rest_follows_first rules b bs word rest apart (stops q c more e) = absurd (word_goes rules b bs apart e)
rest_follows_first rules b bs word rest apart (turns q other c more w r e inside) = rest_follows rules other more w r inside
rest_follows_first rules b bs word rest apart (stands q c meaning n more w r e inside) =
    follows_more more r (n - 1) (rest_follows rules q (drop (n - 1) more) w r inside)
rest_follows_first rules b bs word rest apart (keeps q c n more w r e inside) =
    follows_more more r (n - 1) (rest_follows rules q (drop (n - 1) more) w r inside)

-- a text that begins with whitespace reads as the same words as the rest after that
pub space_read : (rules : WordRules) (b : ℕ) (bs : List ℕ) → is_space b ≡ true → reading (piece_of_words rules) (b ∷ bs) ≡ reading (piece_of_words rules) bs
space_read rules b bs white = reading_first (piece_of_words rules) b 1 bs [] (cond-true _ _ _ white) ∙ prefixed-nil (reading (piece_of_words rules) bs)

-- a word that is read at the front of a text
abbrev pub first_word : List ℕ → List ℕ → List ℕ → Word
first_word text rest value = record { spelling = take (length text - length rest) text; value = value }

first_read : (rules : WordRules) (b : ℕ) (bs value rest : List ℕ) → is_space b ≡ false → read rules 0 None (b ∷ bs) ≡ Some (value, rest)
    → reading (piece_of_words rules) (b ∷ bs) ≡ option_map (λ words. first_word (b ∷ bs) rest value ∷ words) (reading (piece_of_words rules) rest)
first_read rules b bs value rest apart found =
    let inside = InWord-read rules (length (b ∷ bs)) None (b ∷ bs) value rest (omega arith) found in
    let first = first_word (b ∷ bs) rest value in
    reading_first (piece_of_words rules) b (length (b ∷ bs) - length rest) bs (first ∷ []) (cond-false _ _ _ apart ∙ ap (λ o. option_map_or (word_front (b ∷ bs)) o Unreadable) (begun-read rules (b ∷ bs) ∙ found))
    ∙ ap (λ t. prefixed (first ∷ []) (reading (piece_of_words rules) t)) (past_piece b bs rest (rest_follows_first rules b bs value rest apart inside))

-- a text that begins with a word is this word, and the words that follow it
pub word_read : (rules : WordRules) (text rest later : List ℕ) (b : ℕ) (value : List ℕ) → text ≡ b ∷ later → is_space b ≡ false
    → read rules 0 None text ≡ Some (value, rest)
    → reading (piece_of_words rules) text ≡ option_map (λ words. first_word text rest value ∷ words) (reading (piece_of_words rules) rest)
word_read rules text rest later b value e apart found =
    ap (reading (piece_of_words rules)) e
    ∙ first_read rules b later value rest apart (ap (read rules 0 None) (sym e) ∙ found)
    ∙ ap (λ t. option_map (λ words. first_word t rest value ∷ words) (reading (piece_of_words rules) rest)) (sym e)

-- if no word is read there are none
pub none_read : (rules : WordRules) (text later : List ℕ) (b : ℕ) → text ≡ b ∷ later → is_space b ≡ false → read rules 0 None text ≡ None → reading (piece_of_words rules) text ≡ None
none_read rules text later b e apart nothing =
    ap (reading (piece_of_words rules)) e
    ∙ reading_unreadable (piece_of_words rules) b later (cond-false _ _ _ apart ∙ ap (λ o. option_map_or (word_front (b ∷ later)) o Unreadable) (begun-read rules (b ∷ later) ∙ ap (read rules 0 None) (sym e) ∙ nothing))

-- the same of the texts that the words stand for
pub words_of-AreWords : (rules : WordRules) (text : List ℕ) (words : List (List ℕ)) → AreWords rules text words → words_of rules text ≡ Some words
unfolding words_of
words_of-AreWords rules text words are = ap (option_map word_values) (reading-StandsForText (piece_of_words rules) text are.0 are.1) ∙ ap Some are.2

pub AreWords-words_of : (rules : WordRules) (text : List ℕ) (words : List (List ℕ)) → words_of rules text ≡ Some words → AreWords rules text words
unfolding words_of
AreWords-words_of rules text words e =
    let t = mapped word_values (reading (piece_of_words rules) text) words e in
    (t.0, StandsForText-reading (piece_of_words rules) text t.0 t.1, t.2)

-- and of commands
pub commands_read-AreCommands : (text : List ℕ) (commands : List Command) → AreCommands text commands → commands_read text ≡ Some commands
unfolding commands_read
commands_read-AreCommands text commands are = ap (option_map commands_among) (reading-StandsForText (piece_of_words Escaped) text are.0 are.1) ∙ ap Some are.2

pub AreCommands-commands_read : (text : List ℕ) (commands : List Command) → commands_read text ≡ Some commands → AreCommands text commands
unfolding commands_read
AreCommands-commands_read text commands e =
    let t = mapped commands_among (reading (piece_of_words Escaped) text) commands e in
    (t.0, StandsForText-reading (piece_of_words Escaped) text t.0 t.1, t.2)

-- each function finds what its relation says

pub finds_words : (rules : WordRules) (text : List ℕ) → Finds (words_of rules text) (AreWords rules text)
finds_words rules text = λ words. (AreWords-words_of rules text words, words_of-AreWords rules text words)

pub finds_commands : (text : List ℕ) → Finds (commands_read text) (AreCommands text)
finds_commands text = λ commands. (AreCommands-commands_read text commands, commands_read-AreCommands text commands)

-- a text reads as one list of words at most
pub same_words : (rules : WordRules) (text : List ℕ) (a b : List (List ℕ)) → AreWords rules text a → AreWords rules text b → a ≡ b
same_words rules text = one_found (words_of rules text) (AreWords rules text) (finds_words rules text)

-- and as one list of commands
pub same_commands : (text : List ℕ) (a b : List Command) → AreCommands text a → AreCommands text b → a ≡ b
same_commands text = one_found (commands_read text) (AreCommands text) (finds_commands text)

-- the commands of words, if these values stand before the first separator already
abbrev pub commands_after : List (List ℕ) → List Word → List Command
commands_after part [] = command_of part
commands_after part (word ∷ words) =
    cond (is_separator word) (command_of part ++ commands_after [] words) (commands_after (part ++ value_in_command word ∷ []) words)

-- the commands of parts, if these values stand before the first part
abbrev parts_after : List (List ℕ) → List (List Word) → List Command
parts_after part [] = command_of part
parts_after part (first ∷ others) = command_of (part ++ map value_in_command first) ++ flat_map (λ p. command_of (map value_in_command p)) others

parts_onto : (part : List (List ℕ)) (word : Word) (parts : List (List Word)) → parts_after part (onto_first word parts) ≡ parts_after (part ++ value_in_command word ∷ []) parts
parts_onto part word [] = append-nil (command_of (part ++ value_in_command word ∷ []))
parts_onto part word (first ∷ others) =
    ap (λ p. command_of p ++ flat_map (λ q. command_of (map value_in_command q)) others) (sym (append_assoc part (value_in_command word ∷ []) (map value_in_command first)))

all_parts : (parts : List (List Word)) → parts_after [] parts ≡ flat_map (λ p. command_of (map value_in_command p)) parts
all_parts [] = refl
all_parts (first ∷ others) = refl

split_step : (t : Bool) (part : List (List ℕ)) (word : Word) (parts : List (List Word)) (now later : List Command) → now ≡ parts_after [] parts
    → later ≡ parts_after (part ++ value_in_command word ∷ []) parts
    → cond t (command_of part ++ now) later ≡ parts_after part (cond t ([] ∷ parts) (onto_first word parts))
split_step true part word parts now later e f =
    ap (λ n. command_of part ++ n) (e ∙ all_parts parts)
    ∙ ap (λ p. command_of p ++ flat_map (λ q. command_of (map value_in_command q)) parts) (sym (append-nil part))
split_step false part word parts now later e f = f ∙ sym (parts_onto part word parts)

commands_split : (words : List Word) (part : List (List ℕ)) → commands_after part words ≡ parts_after part (slice_split is_separator words)
commands_split [] part = ap command_of (sym (append-nil part)) ∙ sym (append-nil (command_of (part ++ [])))
commands_split (word ∷ words) part =
    split_step (is_separator word) part word (slice_split is_separator words) _ _ (commands_split words []) (commands_split words (part ++ value_in_command word ∷ []))

-- the commands of words, one word after the other
pub commands_are : (words : List Word) → commands_after [] words ≡ commands_among words
commands_are words = commands_split words [] ∙ all_parts (slice_split is_separator words)
