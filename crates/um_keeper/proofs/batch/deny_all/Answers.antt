use Rattle.std.proofs.Common.{◌≡◌, ◌∙◌, ◌<◌, ◌+◌, ℕ, List, [], ◌∷◌, ◌++◌, map, length, take, drop, get_or, set, sym, ap, arith, Err}
use Rattle.std.proofs.lemmas.List.{take_more, take_more_set, drop_more, drop-set-lt, map-append}
use Rattle.um_keeper.specs.Answering.{denied}
use Rattle.um_wire.specs.declared.refusal.Refusal.TheVariants.{Device}
use Rattle.um_keeper.proofs.batch.deny_all.Goals as goal

same_head : {A : Type 0} {x y : A} {xs ys : List A} → x ∷ xs ≡ y ∷ ys → x ≡ y
same_head is = cc

same_tail : {A : Type 0} {x y : A} {xs ys : List A} → x ∷ xs ≡ y ∷ ys → xs ≡ ys
same_tail is = cc

module _ {A : Type 0} (f : A → A) (items old : List A) (i : ℕ) (d y : A) (low : i < length items) (lower : i < length old) (rest : drop i items ≡ drop i old) where
  both : get_or items i d ∷ drop (i + 1) items ≡ get_or old i d ∷ drop (i + 1) old
  both = sym (drop_more items i d low) ∙ rest ∙ drop_more old i d lower

  front_more : take i items ≡ map f (take i old) → y ≡ f (get_or items i d) → take (i + 1) (set items i y) ≡ map f (take (i + 1) old)
  front_more front is = take_more_set items i y low ∙ ap (λ l. l ++ y ∷ []) front ∙ ap (λ z. map f (take i old) ++ z ∷ []) (is ∙ ap f (same_head both))
      ∙ sym (map-append f (take i old) (get_or old i d ∷ [])) ∙ ap (map f) (sym (take_more old i d lower))

  rest_more : drop (i + 1) (set items i y) ≡ drop (i + 1) old
  rest_more = drop-set-lt (i + 1) items i y (omega arith) ∙ same_tail both

pub loop-answer-preserved : goal.loop-answer-preserved
loop-answer-preserved c =
    let at = c.loop-answer in
    let low : at.answer-index < length at.answer-items = omega (arith, c.loop-answer-test.true, at.auto.answer-items) in
    let lower : at.answer-index < length c.args.answers.now.items = omega (arith, c.loop-answer-test.true, ap length c.deref_mut-answer-items.ensures.value) in
    record {
      front = front_more denied at.answer-items c.args.answers.now.items at.answer-index _ c.deny_one.new.answer low lower at.invariant.rest at.invariant.front c.deny_one.ensures;
      rest = rest_more denied at.answer-items c.args.answers.now.items at.answer-index (Err Device) c.deny_one.new.answer low lower at.invariant.rest;
    }
