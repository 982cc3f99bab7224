-- Actions that are carried out in order, taken together.
use Rattle.std.proofs.Common.{◌≡◌, ℕ, List, [], ◌∷◌, ◌++◌, Bool, true, false, ◌||◌, true≢false, refl, sym, ap, ◌∙◌, append_assoc, append-nil, length, arith}
use Rattle.std.proofs.lemmas.List.Folds.{list_any-append}
use Rattle.std.proofs.lemmas.List.Concat.{flat_map-append}
use Rattle.std.specs.List.{list_any}
use Rattle.um_children.specs.History.{lets_any}
use Rattle.um_model.specs.Children.{Call, Spawn, Spawned, Signalled, Asked, Forgot, ForgotOthers, spawn_action, orders, orders_in, tales, tales_in, refused, refusals_in}
use Rattle.um_model.specs.Service.{ByUnit, Action}
use Rattle.um_model.specs.declared.service.UnitState.{UnitState}
use Rattle.um_fates.specs.Live.{has, is_live, HasFewLive}
use Rattle.um_manager.specs.Orders.{Grew}

cons≢nil : {X : Type 0} {x : X} {xs : List X} → x ∷ xs ≡ [] → ⊥
cons≢nil e = cc

or_false : (a : Bool) → (a || false) ≡ a
or_false true = refl
or_false false = refl

or_assoc : (a b c : Bool) → ((a || b) || c) ≡ (a || (b || c))
or_assoc true b c = refl
or_assoc false b c = refl

pub grew_none : (units : ByUnit UnitState) (past : List Call) (marks : List ℕ) → Grew units past past marks marks []
grew_none units past marks = record { given = []; past_is = sym (append-nil past); orders_are = refl; no_tale = refl; kept = refl; marks_are = λ few n h. sym (or_false (has n marks)) }

pub grew_more : (units : ByUnit UnitState) (a b c : List Call) (k l m : List ℕ) (xs ys : List Action) → Grew units a b k l xs → Grew units b c l m ys → Grew units a c k m (xs ++ ys)
grew_more units a b c k l m xs ys p q = record {
  given = p.given ++ q.given;
  past_is = q.past_is ∙ ap (λ l. l ++ q.given) p.past_is ∙ append_assoc a p.given q.given;
  orders_are = flat_map-append orders_in p.given q.given ∙ ap (λ l. l ++ orders q.given) p.orders_are ∙ ap (λ l. xs ++ l) q.orders_are;
  no_tale = flat_map-append tales_in p.given q.given ∙ ap (λ l. l ++ tales q.given) p.no_tale ∙ q.no_tale;
  kept = list_any-append lets_any p.given q.given ∙ ap (λ b. b || list_any lets_any q.given) p.kept ∙ q.kept;
  marks_are = λ few n h. q.marks_are few n h ∙ ap (λ b. b || has n (refused q.given)) (p.marks_are few n h) ∙ or_assoc (has n k) (has n (refused p.given)) (has n (refused q.given))
      ∙ ap (λ b. has n k || b) (sym (list_any-append _ (refused p.given) (refused q.given)) ∙ ap (has n) (sym (flat_map-append refusals_in p.given q.given)));
}

-- one that was refused
pub grew_refused : (units : ByUnit UnitState) (a b : List Call) (s : Spawn) (starts : Bool) (k m : List ℕ) → b ≡ a ++ Spawned s false starts ∷ []
    → (HasFewLive units → (n : ℕ) → is_live units n ≡ true → has n m ≡ (has n k || has n (s.number ∷ []))) → Grew units a b k m (spawn_action s ∷ [])
grew_refused units a b s starts k m e marked = record {
  given = Spawned s false starts ∷ [];
  past_is = e;
  orders_are = refl;
  no_tale = refl;
  kept = refl;
  marks_are = marked;
}

-- if no order was given, no fate was queried and no number was forgotten there was no call
pub none_given : (calls : List Call) → orders calls ≡ [] → tales calls ≡ [] → list_any lets_any calls ≡ false → calls ≡ []
none_given [] no_order no_tale kept = refl
none_given (Spawned s is_taken starts ∷ calls) no_order no_tale kept = absurd (cons≢nil no_order)
none_given (Signalled n signal ∷ calls) no_order no_tale kept = absurd (cons≢nil no_order)
none_given (Asked n claim told ∷ calls) no_order no_tale kept = absurd (cons≢nil no_tale)
none_given (Forgot n ∷ calls) no_order no_tale kept = absurd (true≢false kept)
none_given (ForgotOthers live next ∷ calls) no_order no_tale kept = absurd (true≢false kept)

pub nil_of : {X : Type 0} (xs : List X) → length xs ≡ 0 → xs ≡ []
nil_of [] e = refl
nil_of (x ∷ xs) e = absurd (omega arith)
