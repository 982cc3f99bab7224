-- One number's fate is queried after those of others.
use Rattle.std.proofs.Common.{◌≡◌, ℕ, List, [], ◌∷◌, ◌++◌, flat_map, map, Bool, IsTrue, Option, refl, sym, ap, ◌∙◌, append_assoc, append-nil}
use Rattle.std.proofs.lemmas.List.{map-append}
use Rattle.std.proofs.lemmas.List.Concat.{flat_map-append}
use Rattle.um_model.specs.Children.{Call, Asked, Tale}
use Rattle.um_model.specs.Machine.{Input}
use Rattle.um_model.specs.declared.children.Fate.{Fate}
use Rattle.um_model.specs.declared.service.End.{End}
use Rattle.um_fates.specs.Fates.{Heard, AreTalesOf, asks_for, inputs_told, inputs_of_tale}

joined_tales : (claims : ℕ → Bool) (ms ns : List ℕ) (fs gs : List Tale) → AreTalesOf claims ms fs → AreTalesOf claims ns gs → AreTalesOf claims (ms ++ ns) (fs ++ gs)
joined_tales claims [] ns [] gs p q = q
joined_tales claims [] ns (f ∷ fs) gs p q = absurd p
joined_tales claims (m ∷ ms) ns [] gs p q = absurd p
joined_tales claims (m ∷ ms) ns (f ∷ fs) gs p q = (p.0, p.1, joined_tales claims ms ns fs gs p.2 q)

-- where the history that is whole in the end was so in the middle
pub heard_more : (absent : End) (moment : ℕ) (claims : ℕ → Bool) (h k v w : Bool) (a b c : List Call) (ms ns : List ℕ) (x y z : List Input) → (IsTrue h → IsTrue k) → (IsTrue w → IsTrue v)
    → Heard absent moment claims h v a b ms x y → Heard absent moment claims k w b c ns y z → Heard absent moment claims h w a c (ms ++ ns) x z
heard_more absent moment claims h k v w a b c ms ns x y z same fewer p q = record {
  told = p.told ++ q.told;
  of_live = joined_tales claims ms ns p.told q.told p.of_live q.of_live;
  inputs_are = q.inputs_are ∙ ap (λ l. l ++ flat_map (inputs_of_tale absent moment) q.told) p.inputs_are ∙ append_assoc x (flat_map (inputs_of_tale absent moment) p.told) (flat_map (inputs_of_tale absent moment) q.told) ∙ ap (λ l. x ++ l) (sym (flat_map-append (inputs_of_tale absent moment) p.told q.told));
  past_is = λ honest whole. q.past_is (same honest) whole ∙ ap (λ l. l ++ map asks_for q.told) (p.past_is honest (fewer whole)) ∙ append_assoc a (map asks_for p.told) (map asks_for q.told)
      ∙ ap (λ l. a ++ l) (sym (map-append asks_for p.told q.told));
}

pub heard_one : (absent : End) (moment : ℕ) (claims : ℕ → Bool) (h w : Bool) (a b : List Call) (n : ℕ) (f : Option Fate) (x y : List Input)
    → (IsTrue h → IsTrue w → b ≡ a ++ Asked n (claims n) f ∷ []) → y ≡ x ++ inputs_told absent moment n f → Heard absent moment claims h w a b (n ∷ []) x y
heard_one absent moment claims h w a b n f x y e i = record {
  told = record { number = n; claim = claims n; told = f } ∷ [];
  of_live = (refl, refl, tt);
  inputs_are = i ∙ ap (λ l. x ++ l) (sym (append-nil (inputs_told absent moment n f)));
  past_is = e;
}

no_more : (claims other : ℕ → Bool) (told : List Tale) → AreTalesOf other [] told → AreTalesOf claims [] told
no_more claims other [] p = tt
no_more claims other (tale ∷ told) p = absurd p

one_claim : (claims other : ℕ → Bool) (n : ℕ) (told : List Tale) → other n ≡ claims n → AreTalesOf other (n ∷ []) told → AreTalesOf claims (n ∷ []) told
one_claim claims other n [] e p = absurd p
one_claim claims other n (tale ∷ told) e p = (p.0, p.1 ∙ e, no_more claims other told p.2)

pub heard_claimed : (absent : End) (moment : ℕ) (claims other : ℕ → Bool) (h w : Bool) (a b : List Call) (n : ℕ) (x y : List Input) → other n ≡ claims n
    → Heard absent moment other h w a b (n ∷ []) x y → Heard absent moment claims h w a b (n ∷ []) x y
heard_claimed absent moment claims other h w a b n x y e p = record {
  told = p.told;
  of_live = one_claim claims other n p.told e p.of_live;
  inputs_are = p.inputs_are;
  past_is = p.past_is;
}
