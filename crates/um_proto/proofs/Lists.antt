-- A list of values that is made item by item.
use Rattle.std.proofs.Common.{◌≡◌, ◌<◌, ◌+◌, ◌++◌, ◌∷◌, [], ◌∙◌, ℕ, List, length, get_or, map, take, ap, sym}
use Rattle.std.proofs.lemmas.List.{map-append, take_more}
use Rattle.serde_json.specs.Data.{Data}
use Rattle.serde_json.specs.View.{view}
use Rattle.serde_json.specs.declared.value.Value.{Value}

-- the value of one more item
told_more : {A B : Type 0} (f : B → Data) (g : A → B) (xs : List A) (i : ℕ) (x : A) → i < length xs
    → map f (map g (take (i + 1) xs)) ≡ map f (map g (take i xs)) ++ f (g (get_or xs i x)) ∷ []
told_more f g xs i x within =
    ap (λ ys. map f (map g ys)) (take_more xs i x within)
    ∙ (ap (map f) (map-append g (take i xs) (get_or xs i x ∷ [])) ∙ map-append f (map g (take i xs)) (g (get_or xs i x) ∷ []))

-- one more value
pub value_more : {A B : Type 0} (f : B → Data) (g : A → B) (xs : List A) (i : ℕ) (x : A) (old new : List Value) (v : Value) → i < length xs → x ≡ get_or xs i x
    → map view old ≡ map f (map g (take i xs)) → view v ≡ f (g x) → new ≡ old ++ v ∷ [] → map view new ≡ map f (map g (take (i + 1) xs))
value_more f g xs i x old new v within is made told grown =
    ap (map view) grown
    ∙ (map-append view old (v ∷ [])
    ∙ (ap (λ ys. ys ++ view v ∷ []) made
    ∙ (ap (λ d. map f (map g (take i xs)) ++ d ∷ []) (told ∙ ap (λ y. f (g y)) is) ∙ sym (told_more f g xs i x within))))
