-- Two lists of entries, item by item.
use Rattle.std.proofs.Common.{◌≡◌, ◌≢◌, ◌↔◌, ◌∙◌, Bool, true, false, true≢false, not, is_some, List, [], ◌∷◌, Option, None, Some, refl, sym, ap}
use Rattle.std.specs.Prelude.{IsTrue, MatchOption, option_map}

module _ {A B : Type 0} (view : A → B) (x : B) (xs more : List B) (is : xs ≡ x ∷ more) where
  -- the other list begins with the same item
  pub begins_so : (r : Option A) (ys rest : List B) → MatchOption r ((ys ≡ []) × (rest ≡ [])) (λ y. ys ≡ view y ∷ rest) → option_map view r ≡ Some x → ys ≡ x ∷ rest
  begins_so None ys rest steps e = absurd (never e)
    where
      never : None ≡ Some x → ⊥
      never n = cc
  begins_so (Some y) ys rest steps e = let same : view y ≡ x = cc in steps ∙ ap (λ z. z ∷ rest) same

  -- or it is another list
  pub begins_otherwise : (r : Option A) (ys rest : List B) → MatchOption r ((ys ≡ []) × (rest ≡ [])) (λ y. ys ≡ view y ∷ rest) → option_map view r ≢ Some x → xs ≢ ys
  begins_otherwise None ys rest steps other e = let empty : x ∷ more ≡ [] = sym is ∙ (e ∙ steps.0) in cc
  begins_otherwise (Some y) ys rest steps other e =
      let both : x ∷ more ≡ view y ∷ rest = sym is ∙ (e ∙ steps) in
      let same : x ≡ view y = cc in
      other (ap Some (sym same))

  -- and both are the same where the rest of them is
  pub same_rest : (ys rest : List B) → ys ≡ x ∷ rest → (more ≡ rest) ↔ (xs ≡ ys)
  same_rest ys rest so = (
    λ e. is ∙ (ap (λ l. x ∷ l) e ∙ sym so),
    λ e. let both : x ∷ more ≡ x ∷ rest = sym is ∙ (e ∙ so) in cc,
  )

-- past the last item both are the same when the other list has no more
pub both_end : {A B : Type 0} (view : A → B) (r : Option A) (b : Bool) (xs ys rest : List B) → xs ≡ [] → MatchOption r ((ys ≡ []) × (rest ≡ [])) (λ y. ys ≡ view y ∷ rest) → is_some r ≡ not b
    → IsTrue b ↔ (xs ≡ ys)
both_end view None true xs ys rest empty steps e = (λ _. empty ∙ sym steps.0, λ _. refl)
both_end view None false xs ys rest empty steps e = absurd (true≢false (sym e))
both_end view (Some y) true xs ys rest empty steps e = absurd (true≢false e)
both_end view (Some y) false xs ys rest empty steps e = (
  λ t. absurd (true≢false (sym t)),
  λ same. let none : [] ≡ view y ∷ rest = sym empty ∙ (same ∙ steps) in cc,
)
