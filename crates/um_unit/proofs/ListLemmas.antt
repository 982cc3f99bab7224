-- The rest after the last element of its kind, under a map.
use Rattle.std.proofs.Common.{◌≡◌, ◌≤◌, ◌<◌, get_or, suc, ℕ, ◌+◌, ◌-◌, Bool, not, cond, List, [], ◌∷◌, ◌++◌, length, take, drop, map, reverse, refl, sym, ap, ◌∙◌, arith}
use Rattle.std.specs.List.{after_last, prefix_len, suffix_len}
use Rattle.std.proofs.lemmas.List.{drop-map, length-drop, length-map, map-append, map-id, take_all}
use Rattle.std.proofs.Math.Seq.{split_at}
use Rattle.std.proofs.lemmas.Grind.{reverse_onto}

prefix_len-map : {A B : Type 0} (p : B → Bool) (f : A → B) (xs : List A) → prefix_len p (map f xs) ≡ prefix_len (λ x. p (f x)) xs
prefix_len-map p f [] = refl
prefix_len-map p f (x ∷ xs) = ap (λ n. cond (p (f x)) (1 + n) 0) (prefix_len-map p f xs)

map-reverse : {A B : Type 0} (f : A → B) (xs : List A) → map f (reverse xs) ≡ reverse (map f xs)
map-reverse f [] = refl
map-reverse f (x ∷ xs) =
    ap (map f) (reverse_onto xs x []) ∙ map-append f (reverse xs) (x ∷ []) ∙ ap (λ ys. ys ++ f x ∷ []) (map-reverse f xs) ∙ sym (reverse_onto (map f xs) (f x) [])

suffix_len-map : {A B : Type 0} (p : B → Bool) (f : A → B) (xs : List A) → suffix_len p (map f xs) ≡ suffix_len (λ x. p (f x)) xs
suffix_len-map p f xs = ap (prefix_len p) (sym (map-reverse f xs)) ∙ prefix_len-map p f (reverse xs)

-- the rest after the last element, by the length of the rest
pub behind_last : {A B : Type 0} (p : B → Bool) (f : A → B) (xs : List A) (n : ℕ) → n ≡ suffix_len (λ x. not (p (f x))) xs
    → map f (take (length xs - (length xs - n)) (drop (length xs - n) xs)) ≡ after_last p (map f xs)
behind_last p f xs n e =
    let size : length (drop (length xs - n) xs) ≤ length xs - (length xs - n) = omega (arith, length-drop (length xs - n) xs) in
    let same : n ≡ suffix_len (λ y. not (p y)) (map f xs) = e ∙ sym (suffix_len-map (λ y. not (p y)) f xs) in
    ap (map f) (take_all (length xs - (length xs - n)) (drop (length xs - n) xs) size)
    ∙ sym (drop-map f (length xs - n) xs)
    ∙ ap (λ k. drop (length xs - k) (map f xs)) same
    ∙ ap (λ k. drop (k - suffix_len (λ y. not (p y)) (map f xs)) (map f xs)) (sym (length-map xs f))

-- a place in a list: the items so far, the item now and the items left
pub comes_now : {A : Type 0} (all came : List A) (now : A) → map (λ x. x) came ≡ take (length came) all → (length came < length all) × (now ≡ get_or all (length came) now)
    → all ≡ came ++ now ∷ drop (suc (length came)) all
comes_now all came now e at =
    split_at all (length came) now at.0
    ∙ ap (λ xs. xs ++ get_or all (length came) now ∷ drop (suc (length came)) all) (sym e ∙ map-id came)
    ∙ ap (λ x. came ++ x ∷ drop (suc (length came)) all) (sym at.1)
