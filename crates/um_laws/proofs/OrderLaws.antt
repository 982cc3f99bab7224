-- Cycles under another order, and turned round; if numbers ascend there is none. Of finitely many nodes there is a cycle or none,
-- and if there is none some node is first.
use Rattle.std.proofs.Common.{◌≡◌, ◌<◌, ◌⊎◌, ℕ, List, [], ◌∷◌, ◌++◌, All, refl, sym, ap, subst, inl, inr, arith}
use Rattle.std.proofs.lemmas.List.Elements.{All-nil, All-cons, All-head, All-tail, All-append}
use Rattle.um_model.specs.Order.{IsCycle, LeadsTo}
use Rattle.um_model.specs.Reached.{Reached, first, next}
use Rattle.um_laws.proofs.AmongLaws.{AnyOf, any_decided}
use Rattle.um_model.proofs.LeastLaws.{IsDecided, Among}
use Rattle.um_laws.proofs.ReachedLaws.{reached_or_not}

module _ {U : Type 0} where
  leads_weaker : (P Q : U → U → Type 0) → ((x y : U) → P x y → Q x y) → (x : U) (zs : List U) (y : U) → LeadsTo P x zs y → LeadsTo Q x zs y
  leads_weaker P Q f x [] y h = f x y h
  leads_weaker P Q f x (z ∷ zs) y h = (f x z h.0, leads_weaker P Q f z zs y h.1)

  -- a cycle of one order is one of a weaker order
  pub cycle_weaker : (P Q : U → U → Type 0) → ((x y : U) → P x y → Q x y) → (c : List U) → IsCycle P c → IsCycle Q c
  cycle_weaker P Q f [] h = h
  cycle_weaker P Q f (x ∷ xs) h = leads_weaker P Q f x xs x h

  leads_front : (P : U → U → Type 0) (x : U) (xs : List U) (y : U) (ys : List U) (z : U) → LeadsTo P x (xs ++ y ∷ ys) z → LeadsTo P x xs y
  leads_front P x [] y ys z h = h.0
  leads_front P x (w ∷ xs) y ys z h = (h.0, leads_front P w xs y ys z h.1)

  leads_back : (P : U → U → Type 0) (x : U) (xs : List U) (y : U) (ys : List U) (z : U) → LeadsTo P x (xs ++ y ∷ ys) z → LeadsTo P y ys z
  leads_back P x [] y ys z h = h.1
  leads_back P x (w ∷ xs) y ys z h = leads_back P w xs y ys z h.1

  leads_join : (P : U → U → Type 0) (x : U) (xs : List U) (y : U) (ys : List U) (z : U) → LeadsTo P x xs y → LeadsTo P y ys z → LeadsTo P x (xs ++ y ∷ ys) z
  leads_join P x [] y ys z a b = (a, b)
  leads_join P x (w ∷ xs) y ys z a b = (a.0, leads_join P w xs y ys z a.1 b)

  append_nil : (xs : List U) → xs ≡ xs ++ []
  append_nil [] = refl
  append_nil (x ∷ xs) = ap (λ ys. x ∷ ys) (append_nil xs)

  -- a cycle can be turned round
  pub cycle_turned : (P : U → U → Type 0) (front back : List U) → IsCycle P (front ++ back) → IsCycle P (back ++ front)
  cycle_turned P [] back h = subst (IsCycle P) (append_nil back) h
  cycle_turned P (x ∷ xs) [] h = subst (IsCycle P) (sym (append_nil (x ∷ xs))) h
  cycle_turned P (x ∷ xs) (y ∷ ys) h = leads_join P y ys x xs y (leads_back P x xs y ys x h) (leads_front P x xs y ys x h)

-- numbers ascend along a way
leads_up : (f : ℕ → ℕ) (P : ℕ → ℕ → Type 0) → ((x y : ℕ) → P x y → f x < f y) → (x : ℕ) (zs : List ℕ) (y : ℕ) → LeadsTo P x zs y → f x < f y
leads_up f P up x [] y h = up x y h
leads_up f P up x (z ∷ zs) y h = omega (arith, up x z h.0, leads_up f P up z zs y h.1)

-- if nodes have numbers that ascend, there is no cycle
pub no_cycle : (f : ℕ → ℕ) (P : ℕ → ℕ → Type 0) → ((x y : ℕ) → P x y → f x < f y) → (c : List ℕ) → IsCycle P c → ⊥
no_cycle f P up [] h = h
no_cycle f P up (x ∷ xs) h = omega (arith, leads_up f P up x xs x h)

-- ---- ways from node to node

module _ {U : Type 0} (P : U → U → Type 0) where
  -- a way leads from the one to the other
  abbrev pub LeadsOn : U → U → Type 0
  LeadsOn x y = Reached (P x) P y

  way_of : (x y : U) → LeadsOn x y → (zs : List U) × LeadsTo P x zs y
  way_of x y (first h) = ([], h)
  way_of x y (next {a = z} r h) =
      let way = way_of x z r in
      (way.0 ++ z ∷ [], leads_join P x way.0 z [] y way.1 h)

  -- the way goes on
  goes_on : (x z y : U) (zs : List U) → LeadsOn x z → LeadsTo P z zs y → LeadsOn x y
  goes_on x z y [] r h = next r h
  goes_on x z y (w ∷ zs) r h = goes_on x w y zs (next r h.0) h.1

  on_way : (x y : U) (zs : List U) → LeadsTo P x zs y → LeadsOn x y
  on_way x y [] h = first h
  on_way x y (z ∷ zs) h = goes_on x z y zs (first h.0) h.1

  leads_further : (x y z : U) → LeadsOn x y → LeadsOn y z → LeadsOn x z
  leads_further x y z r s = let way = way_of y z s in goes_on x y z way.0 r way.1

  -- a node from which a way leads comes before some node
  pub sets_out : (x y : U) → LeadsOn x y → (z : U) × P x z
  sets_out x y (first h) = (y, h)
  sets_out x y (next {a = z} r h) = sets_out x z r

  -- a way that leads back is a cycle
  pub cycle_of : (x : U) → LeadsOn x x → (c : List U) × IsCycle P c
  cycle_of x r = let way = way_of x x r in (x ∷ way.0, way.1)

  -- from one of a cycle a way leads back
  pub on_cycle : (c : List U) → IsCycle P c → (x : U) × LeadsOn x x
  on_cycle [] h = absurd h
  on_cycle (x ∷ xs) h = (x, on_way x x xs h)

  -- nothing comes before the one, which is the other or leads to it
  pub record IsFirstOf (a b : U) : Type 0 where
    pub free : (x : U) → ¬ (P x b)
    pub leads : (b ≡ a) ⊎ LeadsOn b a

  -- if a list has all nodes that come before another or after one
  module _ (nodes : List U) (covers : (x y : U) → P x y → Among nodes x × Among nodes y) (decided : (x y : U) → IsDecided (P x y)) where
    leads_within : (x y : U) → LeadsOn x y → Among nodes x × Among nodes y
    leads_within x y (first h) = covers x y h
    leads_within x y (next {a = z} r h) = ((leads_within x z r).0, (covers z y h).1)

    leads_or_not : (x y : U) → IsDecided (LeadsOn x y)
    leads_or_not x y = reached_or_not (P x) P nodes (λ z r. (leads_within x z r).1) (decided x) decided y

    -- there is a cycle or none
    pub cycle_or_none : ((c : List U) × IsCycle P c) ⊎ ((c : List U) → ¬ (IsCycle P c))
    cycle_or_none = by_any (any_decided (λ x. LeadsOn x x) (λ x. leads_or_not x x) nodes)
      where
        none_there : ¬ (AnyOf (λ x. LeadsOn x x) nodes) → (c : List U) → ¬ (IsCycle P c)
        none_there none c h = let on = on_cycle c h in none (on.0, (leads_within on.0 on.0 on.1).0, on.1)

        by_any : IsDecided (AnyOf (λ x. LeadsOn x x) nodes) → ((c : List U) × IsCycle P c) ⊎ ((c : List U) → ¬ (IsCycle P c))
        by_any (inl any) = inl (cycle_of any.0 any.2)
        by_any (inr none) = inr (none_there none)

    module _ (acyclic : (c : List U) → ¬ (IsCycle P c)) where
      no_way_back : (x : U) → ¬ (LeadsOn x x)
      no_way_back x r = let cycle = cycle_of x r in acyclic cycle.0 cycle.1

      -- all that leads to it is in the list
      abbrev AreBefore : List U → U → Type 0
      AreBefore xs a = (y : U) → LeadsOn y a → Among xs y

      without_first : (x : U) (xs : List U) (a : U) → AreBefore (x ∷ xs) a → ¬ (LeadsOn x a) → AreBefore xs a
      without_first x xs a before isnt y r = by_place (before y r)
        where
          by_place : (y ≡ x) ⊎ Among xs y → Among xs y
          by_place (inl is) = absurd (isnt (subst (λ z. LeadsOn z a) is r))
          by_place (inr later) = later

      first_among : (xs : List U) (a : U) → AreBefore xs a → (b : U) × IsFirstOf a b
      first_among [] a before = (a, record { free = λ x h. before x (first h); leads = inl refl })
      first_among (x ∷ xs) a before = by_leads (leads_or_not x a) (first_among xs)
        where
          by_start : (b : U) → LeadsOn x a → (b ≡ x) ⊎ LeadsOn b x → LeadsOn b a
          by_start b r (inl is) = subst (λ z. LeadsOn z a) (sym is) r
          by_start b r (inr s) = leads_further b x a s r

          by_leads : IsDecided (LeadsOn x a) → ((c : U) → AreBefore xs c → (b : U) × IsFirstOf c b) → (b : U) × IsFirstOf a b
          by_leads (inl r) others =
              let found = others x (without_first x xs x (λ y s. before y (leads_further y x a s r)) (no_way_back x)) in
              (found.0, record { free = found.1.free; leads = inr (by_start found.0 r found.1.leads) })
          by_leads (inr isnt) others = others a (without_first x xs a before isnt)

      -- if there is no cycle, each node is first or something that is first leads to it
      pub first_of_all : (a : U) → Among nodes a → (b : U) × Among nodes b × IsFirstOf a b
      first_of_all a is =
          let found = first_among nodes a (λ y r. (leads_within y a r).0) in
          (found.0, by_start found.0 found.1.leads, found.1)
        where
          by_start : (b : U) → (b ≡ a) ⊎ LeadsOn b a → Among nodes b
          by_start b (inl same) = subst (Among nodes) (sym same) is
          by_start b (inr r) = (leads_within b a r).0

-- ---- from the least node on

-- the first of the list is at most each
abbrev pub BeginsWithLeastBy : {U : Type 0} → (U → U → Type 0) → List U → Type 0
BeginsWithLeastBy AtMost [] = Unit {0}
BeginsWithLeastBy AtMost (x ∷ xs) = All (AtMost x) xs

module _ {U : Type 0} (AtMost : U → U → Type 0) (total : (x y : U) → AtMost x y ⊎ AtMost y x) (trans : (x y z : U) → AtMost x y → AtMost y z → AtMost x z) where
  -- the list parted before one that is at most each
  record IsParted (xs front : List U) (least : U) (back : List U) : Type 0 where
    whole : xs ≡ front ++ least ∷ back
    early : All (AtMost least) front
    late : All (AtMost least) back

  abbrev Parted : List U → Type 0
  Parted xs = (front : List U) × (least : U) × (back : List U) × IsParted xs front least back

  all_above : (x y : U) (zs : List U) → AtMost x y → All (AtMost y) zs → All (AtMost x) zs
  all_above x y [] few all = All-nil (AtMost x)
  all_above x y (z ∷ zs) few all = All-cons (AtMost x) z zs (trans x y z few (All-head (AtMost y) z zs all)) (all_above x y zs few (All-tail (AtMost y) z zs all))

  parted : (x : U) (xs : List U) → Parted (x ∷ xs)
  parted x [] = ([], x, [], record { whole = refl; early = All-nil (AtMost x); late = All-nil (AtMost x) })
  parted x (z ∷ zs) = by_order (parted z zs)
    where
      by_order : Parted (z ∷ zs) → Parted (x ∷ z ∷ zs)
      by_order (front, least, back, p) = elim (total x least) as (λ _. Parted (x ∷ z ∷ zs)) [
        | inl few ↦ (
          [],
          x,
          z ∷ zs,
          record {
            whole = refl;
            early = All-nil (AtMost x);
            late = subst (All (AtMost x)) (sym p.whole)
                (All-append (AtMost x) front (least ∷ back) (all_above x least front few p.early) (All-cons (AtMost x) least back few (all_above x least back few p.late)));
          },
        )
        | inr more ↦ (
          x ∷ front,
          least,
          back,
          record {
            whole = ap (λ ys. x ∷ ys) p.whole;
            early = All-cons (AtMost least) x front more p.early;
            late = p.late;
          },
        )
      ]

  -- a cycle can be turned so that it begins with its least
  pub least_turned : (P : U → U → Type 0) (c : List U) → IsCycle P c → (d : List U) × IsCycle P d × BeginsWithLeastBy AtMost d
  least_turned P [] h = absurd h
  least_turned P (x ∷ xs) h = by_parts (parted x xs)
    where
      by_parts : Parted (x ∷ xs) → (d : List U) × IsCycle P d × BeginsWithLeastBy AtMost d
      by_parts (front, least, back, p) =
          ((least ∷ back) ++ front, cycle_turned P front (least ∷ back) (subst (IsCycle P) p.whole h), All-append (AtMost least) back front p.late p.early)
