-- Trimming, stated in two ways.
use Rattle.std.proofs.Common.{◌≡◌, ℕ, Bool, true, false, ◌&&◌, cond, List, [], ◌∷◌, ◌++◌, reverse, refl, sym, ap, ◌∙◌}
use Rattle.std.specs.List.{list_all}
use Rattle.std.proofs.lemmas.List.{reverse-append, reverse-reverse}
use Rattle.std.proofs.lemmas.List.Folds.{list_all-append}
use Rattle.um_model.specs.Ascii.{is_space}
use Rattle.um_model.specs.Text.{trim_start, first_passes}
use Rattle.um_model.specs.FileForms.{trim_end}
use Rattle.um_model.specs.Text.{IsCutInFront, IsCutAtEnd}

-- trimming in front cuts off whitespace alone, and leaves none there
pub trim_start_cuts : (text : List ℕ) → IsCutInFront text (trim_start text)
trim_start_cuts [] = record { front = []; parts = refl; spaces = refl; stops = refl }
trim_start_cuts (b ∷ bs) = by_test (is_space b) refl (trim_start_cuts bs)
  where
    by_test : (t : Bool) → is_space b ≡ t → IsCutInFront bs (trim_start bs) → IsCutInFront (b ∷ bs) (cond t (trim_start bs) (b ∷ bs))
    by_test true e cut = record { front = b ∷ cut.front; parts = ap (λ xs. b ∷ xs) cut.parts; spaces = rw e cut.spaces; stops = cut.stops }
    by_test false e cut = record { front = []; parts = refl; spaces = refl; stops = e }

stopped : (rest : List ℕ) → first_passes is_space rest ≡ false → trim_start rest ≡ rest
stopped [] e = refl
stopped (b ∷ bs) e = rw e refl

past_spaces : (front rest : List ℕ) → list_all is_space front ≡ true → first_passes is_space rest ≡ false → trim_start (front ++ rest) ≡ rest
past_spaces [] rest all stops = stopped rest stops
past_spaces (b ∷ front) rest all stops = by_test (is_space b) all (λ more. past_spaces front rest more stops)
  where
    by_test : (t : Bool) → (t && list_all is_space front) ≡ true → (list_all is_space front ≡ true → trim_start (front ++ rest) ≡ rest)
        → cond t (trim_start (front ++ rest)) (b ∷ front ++ rest) ≡ rest
    by_test true all later = later all
    by_test false all later = absurd (cc)

-- and there is one such rest
pub trim_start_is : (text rest : List ℕ) → IsCutInFront text rest → rest ≡ trim_start text
trim_start_is text rest cut = sym (ap trim_start cut.parts ∙ past_spaces cut.front rest cut.spaces cut.stops)

list_all-reverse : (xs : List ℕ) → list_all is_space xs ≡ true → list_all is_space (reverse xs) ≡ true
list_all-reverse [] all = refl
list_all-reverse (b ∷ bs) all = by_test (is_space b) refl all (λ more. list_all-reverse bs more)
  where
    by_test : (t : Bool) → is_space b ≡ t → (t && list_all is_space bs) ≡ true → (list_all is_space bs ≡ true → list_all is_space (reverse bs) ≡ true)
        → list_all is_space (reverse (b ∷ bs)) ≡ true
    by_test true e all later =
        ap (list_all is_space) (reverse-append (b ∷ []) bs) ∙ list_all-append is_space (reverse bs) (b ∷ []) ∙ rw (later all) (rw e refl)
    by_test false e all later = absurd (cc)

-- trimming at the end cuts off whitespace alone, and leaves none there
pub trim_end_cuts : (text : List ℕ) → IsCutAtEnd text (trim_end text)
trim_end_cuts text =
    let cut = trim_start_cuts (reverse text) in
    let rest = trim_start (reverse text) in
    record {
      back = reverse cut.front;
      parts = sym (reverse-reverse text) ∙ ap reverse cut.parts ∙ reverse-append cut.front rest;
      spaces = list_all-reverse cut.front cut.spaces;
      stops = ap (first_passes is_space) (reverse-reverse rest) ∙ cut.stops;
    }

-- and there is one such rest
pub trim_end_is : (text rest : List ℕ) → IsCutAtEnd text rest → rest ≡ trim_end text
trim_end_is text rest cut =
    sym (reverse-reverse rest)
    ∙ ap reverse (trim_start_is (reverse text) (reverse rest) (record {
      front = reverse cut.back;
      parts = ap reverse cut.parts ∙ reverse-append rest cut.back;
      spaces = list_all-reverse cut.back cut.spaces;
      stops = cut.stops;
    }))
