-- Searches by a function, and searches by the relation.
use Rattle.std.proofs.Common.{◌≡◌, Option, Some, None, IfSome, IfNone, option_map, refl, sym, ◌∙◌}
use Rattle.std.proofs.lemmas.Option.{same_Some}
use Rattle.um_model.specs.Results.{Finds}

-- at most one value has the property
pub one_found : {A : Type 0} (found : Option A) (Is : A → Type 0) → Finds found Is → (a b : A) → Is a → Is b → a ≡ b
one_found found Is finds a b p q = same_Some a b (sym ((finds a).1 p) ∙ (finds b).1 q)

no_value : {A : Type 0} (found : Option A) → ((x : A) → ¬ (found ≡ Some x)) → None ≡ found
no_value None nothing = refl
no_value (Some x) nothing = absurd (nothing x refl)

-- a search that returns a value of the relation, or none if there is none, agrees with the function
pub told_by_relation : {A B : Type 0} (found : Option A) (Is : A → Type 0) → Finds found Is → (view : B → A) (r : Option B) → IfSome r (λ y. Is (view y))
    → IfNone r ((x : A) → ¬ (Is x)) → option_map view r ≡ found
told_by_relation found Is finds view (Some y) some none = sym ((finds (view y)).1 some)
told_by_relation found Is finds view None some none = no_value found (λ x e. none x ((finds x).0 e))
