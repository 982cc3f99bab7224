-- Sets of exits, word by word.
use Rattle.std.proofs.Common.{◌≡◌, ◌<◌, ℕ, ◌+◌, zero, suc, Bool, true, false, ◌&&◌, ◌||◌, List, [], ◌∷◌, ◌++◌, length, get_or, replicate, take, Some, None, is_some, refl, sym, ap, ◌∙◌, arith}
use Rattle.std.proofs.Math.Bool.{or-false, or_comm}
use Rattle.std.specs.List.{list_any, list_all}
use Rattle.std.proofs.lemmas.List.{take_more}
use Rattle.std.proofs.lemmas.List.Folds.{list_all-append, list_any-append}
use Rattle.std.proofs.lemmas.Bool.{and_parts, false≢true}
use Rattle.um_model.specs.Values.{exit_of, is_end}
use Rattle.um_model.specs.declared.service.End.{End}
use Rattle.um_model.specs.declared.service.End.TheVariants.{Code, Signal, Lost}
use Rattle.um_model.specs.ValueSpellings.{is_exit}
use Rattle.um_value.specs.ExitSet.{holds}
use Rattle.um_value.specs.declared.exits.ExitSet.{ExitSet}

-- one more word
pub word_more : (words : List (List ℕ)) (n : ℕ) (word : List ℕ) → (n < length words) × (word ≡ get_or words n word) → take (n + 1) words ≡ take n words ++ word ∷ []
word_more words n word here = take_more words n word here.0 ∙ ap (λ x. take n words ++ x ∷ []) (sym here.1)

-- that names an end
pub readable_more : (words : List (List ℕ)) (word : List ℕ) (end : End) → exit_of word ≡ Some end → list_all is_exit words ≡ true → list_all is_exit (words ++ word ∷ []) ≡ true
readable_more words word end told all = list_all-append is_exit words (word ∷ []) ∙ ap (λ b. b && (is_exit word && true)) all ∙ ap (λ o. is_some o && true) told

pub exact_more : (words : List (List ℕ)) (word : List ℕ) (end other : End) (old new : Bool) → exit_of word ≡ Some end
    → old ≡ list_any (λ w. is_end other (exit_of w)) words → new ≡ (is_end other (Some end) || old) → new ≡ list_any (λ w. is_end other (exit_of w)) (words ++ word ∷ [])
exact_more words word end other old new told before now =
    now ∙ or_comm (is_end other (Some end)) old
    ∙ ap (λ b. b || is_end other (Some end)) before
    ∙ ap (λ b. list_any (λ w. is_end other (exit_of w)) words || b) (sym (or-false (is_end other (Some end))) ∙ ap (λ o. is_end other o || false) (sym told))
    ∙ sym (list_any-append (λ w. is_end other (exit_of w)) words (word ∷ []))

-- if a word names none
pub unreadable : (words : List (List ℕ)) (n : ℕ) (word : List ℕ) → (n < length words) × (word ≡ get_or words n word) → exit_of word ≡ None → list_all is_exit words ≡ true → ⊥
unreadable [] n word here none all = omega (arith, here.0)
unreadable (w ∷ ws) zero word here none all =
    let told = (and_parts (is_exit w) (list_all is_exit ws) all).0 in
    false≢true (sym (ap is_some none) ∙ ap is_exit here.1 ∙ told)
unreadable (w ∷ ws) (suc n) word here none all = unreadable ws n word (omega (arith, here.0), here.1) none (and_parts (is_exit w) (list_all is_exit ws) all).1

none_in : (n i : ℕ) → get_or (replicate n false) i false ≡ false
none_in zero i = refl
none_in (suc n) zero = refl
none_in (suc n) (suc i) = none_in n i

-- a set without a code and without a signal holds no end
pub holds_none : (set : ExitSet) → set.codes ≡ replicate 256 false → set.signals ≡ replicate 16 false → (end : End) → holds set end ≡ false
holds_none set codes signals (Code code) = ap (λ xs. get_or xs code false) codes ∙ none_in 256 code
holds_none set codes signals (Signal number) = ap (λ xs. get_or xs number false) signals ∙ none_in 16 number
holds_none set codes signals Lost = refl
