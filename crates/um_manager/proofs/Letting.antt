-- The numbers that aren't live are forgotten, one after another.
use Rattle.std.proofs.Common.{◌≡◌, ◌||◌, ◌+◌, ◌==◌, ℕ, List, [], ◌∷◌, ◌++◌, flat_map, length, length-append, Bool, true, false, true≢false, refl, sym, ap, ◌∙◌, append_assoc, append-nil, arith}
use Rattle.std.proofs.lemmas.Bool.{eqb-true}
use Rattle.std.proofs.lemmas.List.Concat.{flat_map-append}
use Rattle.std.proofs.lemmas.List.Folds.{list_any-append}
use Rattle.std.specs.List.{list_any}
use Rattle.um_children.specs.History.{lets_go, lets_any}
use Rattle.um_fates.specs.Live.{is_live}
use Rattle.um_manager.specs.Orders.{LetGo}
use Rattle.um_model.specs.Children.{Call, Spawned, Signalled, Asked, Forgot, ForgotOthers, orders_in, tales_in, refusals_in}
use Rattle.um_model.specs.Service.{ByUnit}
use Rattle.um_model.specs.declared.service.UnitState.{UnitState}

pub let_go_none : (units : ByUnit UnitState) (past : List Call) → LetGo units past past
let_go_none units past = record { given = []; past_is = sym (append-nil past); no_order = refl; no_tale = refl; no_refusal = refl; spared = λ n live. refl }

one_spared : (units : ByUnit UnitState) (number n : ℕ) → is_live units number ≡ false → is_live units n ≡ true → (b : Bool) → (number == n) ≡ b → (b || false) ≡ false
one_spared units number n dead live false e = refl
one_spared units number n dead live true e = absurd (true≢false (sym live ∙ sym (ap (is_live units) (eqb-true number n e)) ∙ dead))

pub let_go_it : (units : ByUnit UnitState) (number : ℕ) (a b : List Call) → is_live units number ≡ false → b ≡ a ++ Forgot number ∷ [] → LetGo units a b
let_go_it units number a b dead e = record {
  given = Forgot number ∷ [];
  past_is = e;
  no_order = refl;
  no_tale = refl;
  no_refusal = refl;
  spared = λ n live. one_spared units number n dead live (number == n) refl;
}

none_of_both : {X Y : Type 0} (f : X → List Y) (xs ys : List X) → flat_map f xs ≡ [] → flat_map f ys ≡ [] → flat_map f (xs ++ ys) ≡ []
none_of_both f xs ys none more = flat_map-append f xs ys ∙ ap (λ l. l ++ flat_map f ys) none ∙ more

pub let_go_more : (units : ByUnit UnitState) (a b c : List Call) → LetGo units a b → LetGo units b c → LetGo units a c
let_go_more units a b c p q = record {
  given = p.given ++ q.given;
  past_is = q.past_is ∙ ap (λ l. l ++ q.given) p.past_is ∙ append_assoc a p.given q.given;
  no_order = none_of_both orders_in p.given q.given p.no_order q.no_order;
  no_tale = none_of_both tales_in p.given q.given p.no_tale q.no_tale;
  no_refusal = none_of_both refusals_in p.given q.given p.no_refusal q.no_refusal;
  spared = λ n live. list_any-append (lets_go n) p.given q.given ∙ ap (λ b. b || list_any (lets_go n) q.given) (p.spared n live) ∙ q.spared n live;
}

-- calls that let nothing go let no number go
pub spares_all : (n : ℕ) (calls : List Call) → list_any lets_any calls ≡ false → list_any (lets_go n) calls ≡ false
spares_all n [] kept = refl
spares_all n (Spawned s is_taken starts ∷ calls) kept = spares_all n calls kept
spares_all n (Signalled number signal ∷ calls) kept = spares_all n calls kept
spares_all n (Asked number claim told ∷ calls) kept = spares_all n calls kept
spares_all n (Forgot number ∷ calls) kept = absurd (true≢false kept)
spares_all n (ForgotOthers live next ∷ calls) kept = absurd (true≢false kept)

nothing_of : {X : Type 0} (xs : List X) → length xs ≡ 0 → xs ≡ []
nothing_of [] e = refl
nothing_of (x ∷ xs) e = absurd (omega (arith, e))

-- if the history is as before nothing was added
pub nothing_came : {X : Type 0} (xs ys : List X) → xs ≡ xs ++ ys → ys ≡ []
nothing_came xs ys e = nothing_of ys (omega (arith, ap length e, length-append xs ys))
