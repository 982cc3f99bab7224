-- If a list has all that are reached, and each step of the rule is decided, then it is decided which are reached; and a list has just these.
use Rattle.std.proofs.Common.{◌⊎◌, List, [], ◌∷◌, subst, inl, inr}
use Rattle.um_model.specs.Reached.{Reached, first, next}
use Rattle.um_laws.proofs.AmongLaws.{both_decided, either_decided, decided_as, AnyOf, any_decided, IsListOf, list_of}
use Rattle.um_model.proofs.LeastLaws.{IsDecided, Among}

module _ {A : Type 0} (First : A → Type 0) (Next : A → A → Type 0) where
  -- the one leads to the other over no others than those of the list
  abbrev Via : List A → A → A → Type 0
  Via [] a b = Next a b
  Via (k ∷ ks) a b = Via ks a b ⊎ (Via ks a k × Via ks k b)

  via_decided : ((a b : A) → IsDecided (Next a b)) → (ks : List A) (a b : A) → IsDecided (Via ks a b)
  via_decided decided [] a b = decided a b
  via_decided decided (k ∷ ks) a b = either_decided (via_decided decided ks a b) (both_decided (via_decided decided ks a k) (via_decided decided ks k b))

  straight : (ks : List A) (a b : A) → Next a b → Via ks a b
  straight [] a b step = step
  straight (k ∷ ks) a b step = inl (straight ks a b step)

  -- a way to one over itself gives a way without that
  to_itself : (ks : List A) (a k : A) → Via (k ∷ ks) a k → Via ks a k
  to_itself ks a k (inl way) = way
  to_itself ks a k (inr ways) = ways.0

  from_itself : (ks : List A) (k b : A) → Via (k ∷ ks) k b → Via ks k b
  from_itself ks k b (inl way) = way
  from_itself ks k b (inr ways) = ways.1

  -- two ways joined at one of the list are a way
  joined : (ks : List A) (a b c : A) → Among ks b → Via ks a b → Via ks b c → Via ks a c
  joined [] a b c none way more = absurd none
  joined (k ∷ ks) a b c (inl is) way more =
      inr (to_itself ks a k (subst (Via (k ∷ ks) a) is way), from_itself ks k c (subst (λ x. Via (k ∷ ks) x c) is more))
  joined (k ∷ ks) a b c (inr later) (inl way) (inl more) = inl (joined ks a b c later way more)
  joined (k ∷ ks) a b c (inr later) (inl way) (inr more) = inr (joined ks a b k later way more.0, more.1)
  joined (k ∷ ks) a b c (inr later) (inr ways) (inl more) = inr (ways.0, joined ks k b c later ways.1 more)
  joined (k ∷ ks) a b c (inr later) (inr ways) (inr more) = inr (ways.0, more.1)

  -- the end of a way from one that is reached is reached
  reached_via : (ks : List A) (a b : A) → Reached First Next a → Via ks a b → Reached First Next b
  reached_via [] a b reached step = next reached step
  reached_via (k ∷ ks) a b reached (inl way) = reached_via ks a b reached way
  reached_via (k ∷ ks) a b reached (inr ways) = reached_via ks k b (reached_via ks a k reached ways.0) ways.1

  module _ (cover : List A) (covers : (a : A) → Reached First Next a → Among cover a) where
    -- it is first, or a way leads to it from one that is
    abbrev IsLedTo : A → Type 0
    IsLedTo b = First b ⊎ AnyOf (λ a. First a × Via cover a b) cover

    led_on : (a b : A) → Among cover a → IsLedTo a → Next a b → IsLedTo b
    led_on a b is (inl begins) step = inr (a, is, (begins, straight cover a b step))
    led_on a b is (inr any) step = inr (any.0, any.1, (any.2.0, joined cover any.0 a b is any.2.1 (straight cover a b step)))

    led : (b : A) → Reached First Next b → IsLedTo b
    led b (first begins) = inl begins
    led b (next {a = a} reached step) = led_on a b (covers a reached) (led a reached) step

    back : (b : A) → IsLedTo b → Reached First Next b
    back b (inl begins) = first begins
    back b (inr any) = reached_via cover any.0 b (first any.2.0) any.2.1

    module _ (begins : (a : A) → IsDecided (First a)) (leads : (a b : A) → IsDecided (Next a b)) where
      -- it is reached or not
      pub reached_or_not : (b : A) → IsDecided (Reached First Next b)
      reached_or_not b =
          decided_as (back b) (led b)
          (either_decided (begins b) (any_decided (λ a. First a × Via cover a b) (λ a. both_decided (begins a) (via_decided leads cover a b)) cover))

      -- a list has just those that are reached
      pub reached_list : (xs : List A) × IsListOf (Reached First Next) xs
      reached_list = list_of (Reached First Next) reached_or_not cover covers
