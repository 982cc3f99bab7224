-- The bonds that edges and pairs put into the rows, and the origin of each bond there.
use Rattle.std.proofs.Common.{◌≡◌, ◌≢◌, ◌⊎◌, ◌∙◌, ◌-◌, ◌==◌, ◌<◌, ◌≤◌, ℕ, Bool, true, false, cond, List, [], ◌∷◌, Contains, Option, Some, None, refl, sym, ap, subst, inl, inr, arith}
use Rattle.std.specs.List.{flat_map}
use Rattle.std.proofs.lemmas.Bool.Decides.{Decides-eqb}
use Rattle.um_model.specs.declared.dependencies.DependencyKind.{DependencyKind}
use Rattle.um_model.specs.declared.dependencies.DependencyKind.TheVariants.{Wants, Requires, BindsTo, PartOf, Conflicts}
use Rattle.um_graph.specs.Edges.{bonds_by, comes_after, edge, edge_between, edge_bonds, order_by, order_seen, pair, pair_bonds, pulled}
use Rattle.um_graph.specs.Kinds.{after_bit, before_bit, bit_of, inverse_bit_of}
use Rattle.um_graph.specs.Rows.{Bond}
use Rattle.um_graph.specs.declared.told.Link.{Link}
use Rattle.um_graph.specs.declared.told.Link.TheVariants.{Depends, Declared, Ending}
use Rattle.um_graph.specs.declared.units.Edge.{Edge}
use Rattle.um_graph.specs.declared.units.Pair.{Pair}
use Rattle.um_graph.specs.declared.units.Unit.{Unit}
use Rattle.um_graph.proofs.ListLaws.{contains_flat, flat_contains, in_first, in_none, in_one, in_second, is_one, one_of_two}

-- ---- bits
abbrev kind_at : ℕ → DependencyKind
kind_at n = cond (n == 0) Wants (cond (n == 1) Requires (cond (n == 2) BindsTo (cond (n == 3) PartOf Conflicts)))

kind_back : (k : DependencyKind) → kind_at (bit_of k) ≡ k
kind_back Wants = refl
kind_back Requires = refl
kind_back BindsTo = refl
kind_back PartOf = refl
kind_back Conflicts = refl

kind_back_inverse : (k : DependencyKind) → kind_at (inverse_bit_of k - 6) ≡ k
kind_back_inverse Wants = refl
kind_back_inverse Requires = refl
kind_back_inverse BindsTo = refl
kind_back_inverse PartOf = refl
kind_back_inverse Conflicts = refl

pub same_kind : (k j : DependencyKind) → bit_of k ≡ bit_of j → k ≡ j
same_kind k j e = sym (kind_back k) ∙ (ap kind_at e ∙ kind_back j)

pub same_inverse : (k j : DependencyKind) → inverse_bit_of k ≡ inverse_bit_of j → k ≡ j
same_inverse k j e = sym (kind_back_inverse k) ∙ (ap (λ n. kind_at (n - 6)) e ∙ kind_back_inverse j)

pub bit_small : (k : DependencyKind) → bit_of k < 5
bit_small Wants = omega arith
bit_small Requires = omega arith
bit_small BindsTo = omega arith
bit_small PartOf = omega arith
bit_small Conflicts = omega arith

pub inverse_between : (k : DependencyKind) → (6 ≤ inverse_bit_of k) × (inverse_bit_of k < 11)
inverse_between Wants = (omega arith, omega arith)
inverse_between Requires = (omega arith, omega arith)
inverse_between BindsTo = (omega arith, omega arith)
inverse_between PartOf = (omega arith, omega arith)
inverse_between Conflicts = (omega arith, omega arith)

-- ---- bonds of edges and of pairs
-- the origin of a bond of edges
pub data FromEdge (edges : List Edge) (bit i j : ℕ) : Type 0 where
  forward : (kind : DependencyKind) → bit_of kind ≡ bit → Contains edges (edge (Depends kind) i j) → FromEdge edges bit i j
  back : (kind : DependencyKind) → inverse_bit_of kind ≡ bit → Contains edges (edge (Depends kind) j i) → FromEdge edges bit i j
  before : before_bit ≡ bit → Contains edges (edge Declared i j) → FromEdge edges bit i j
  after : after_bit ≡ bit → Contains edges (edge Declared j i) → FromEdge edges bit i j

edge_is : (e : Edge) (link : Link) (i j : ℕ) → e.link ≡ link → e.from ≡ i → e.to ≡ j → e ≡ edge link i j
edge_is e link i j a b c = λ k. record { link = a k; from = b k; to = c k }

pub edge_bond_out : (edges : List Edge) (bit i j : ℕ) → Contains (flat_map edge_bonds edges) (bit, i, j) → FromEdge edges bit i j
edge_bond_out edges bit i j c = let r = flat_contains edge_bonds edges (bit, i, j) c in by r.0 r.1 r.0.link refl r.2
  where
    by : (e : Edge) → Contains edges e → (link : Link) → e.link ≡ link → Contains (bonds_by link e.from e.to) (bit, i, j) → FromEdge edges bit i j
    by e c (Depends kind) l d = elim (one_of_two (bit_of kind, e.from, e.to) (inverse_bit_of kind, e.to, e.from) (bit, i, j) d) as (λ _. FromEdge edges bit i j) [
      | inl q ↦ forward kind (ap (λ (b : Bond). b.0) q) (subst (Contains edges) (edge_is e (Depends kind) i j l (ap (λ (b : Bond). b.1) q) (ap (λ (b : Bond). b.2) q)) c)
      | inr q ↦ back kind (ap (λ (b : Bond). b.0) q) (subst (Contains edges) (edge_is e (Depends kind) j i l (ap (λ (b : Bond). b.2) q) (ap (λ (b : Bond). b.1) q)) c)
    ]
    by e c Declared l d = elim (one_of_two (before_bit, e.from, e.to) (after_bit, e.to, e.from) (bit, i, j) d) as (λ _. FromEdge edges bit i j) [
      | inl q ↦ before (ap (λ (b : Bond). b.0) q) (subst (Contains edges) (edge_is e Declared i j l (ap (λ (b : Bond). b.1) q) (ap (λ (b : Bond). b.2) q)) c)
      | inr q ↦ after (ap (λ (b : Bond). b.0) q) (subst (Contains edges) (edge_is e Declared j i l (ap (λ (b : Bond). b.2) q) (ap (λ (b : Bond). b.1) q)) c)
    ]
    by e c Ending l d = absurd (in_none (bit, i, j) d)

module _ (edges : List Edge) (i j : ℕ) where
  pub forward_in : (kind : DependencyKind) → Contains edges (edge (Depends kind) i j) → Contains (flat_map edge_bonds edges) (bit_of kind, i, j)
  forward_in kind c = contains_flat edge_bonds edges (edge (Depends kind) i j) (bit_of kind, i, j) c (in_first (bit_of kind, i, j) (inverse_bit_of kind, j, i))

  pub back_in : (kind : DependencyKind) → Contains edges (edge (Depends kind) i j) → Contains (flat_map edge_bonds edges) (inverse_bit_of kind, j, i)
  back_in kind c = contains_flat edge_bonds edges (edge (Depends kind) i j) (inverse_bit_of kind, j, i) c (in_second (bit_of kind, i, j) (inverse_bit_of kind, j, i))

  pub before_in : Contains edges (edge Declared i j) → Contains (flat_map edge_bonds edges) (before_bit, i, j)
  before_in c = contains_flat edge_bonds edges (edge Declared i j) (before_bit, i, j) c (in_first (before_bit, i, j) (after_bit, j, i))

  pub after_in : Contains edges (edge Declared i j) → Contains (flat_map edge_bonds edges) (after_bit, j, i)
  after_in c = contains_flat edge_bonds edges (edge Declared i j) (after_bit, j, i) c (in_second (before_bit, i, j) (after_bit, j, i))

-- the origin of a bond of pairs
pub data FromPair (pairs : List Pair) (bit i j : ℕ) : Type 0 where
  first : before_bit ≡ bit → Contains pairs (pair i j) → FromPair pairs bit i j
  second : after_bit ≡ bit → Contains pairs (pair j i) → FromPair pairs bit i j

pair_is : (p : Pair) (i j : ℕ) → p.first ≡ i → p.second ≡ j → p ≡ pair i j
pair_is p i j a b = λ k. record { first = a k; second = b k }

pub pair_bond_out : (pairs : List Pair) (bit i j : ℕ) → Contains (flat_map pair_bonds pairs) (bit, i, j) → FromPair pairs bit i j
pair_bond_out pairs bit i j c =
    let r = flat_contains pair_bonds pairs (bit, i, j) c in
    let p = r.0 in
    elim (one_of_two (before_bit, p.first, p.second) (after_bit, p.second, p.first) (bit, i, j) r.2) as (λ _. FromPair pairs bit i j) [
      | inl q ↦ first (ap (λ (b : Bond). b.0) q) (subst (Contains pairs) (pair_is p i j (ap (λ (b : Bond). b.1) q) (ap (λ (b : Bond). b.2) q)) r.1)
      | inr q ↦ second (ap (λ (b : Bond). b.0) q) (subst (Contains pairs) (pair_is p j i (ap (λ (b : Bond). b.2) q) (ap (λ (b : Bond). b.1) q)) r.1)
    ]

module _ (pairs : List Pair) (i j : ℕ) (c : Contains pairs (pair i j)) where
  pub first_in : Contains (flat_map pair_bonds pairs) (before_bit, i, j)
  first_in = contains_flat pair_bonds pairs (pair i j) (before_bit, i, j) c (in_first (before_bit, i, j) (after_bit, j, i))

  pub second_in : Contains (flat_map pair_bonds pairs) (after_bit, j, i)
  second_in = contains_flat pair_bonds pairs (pair i j) (after_bit, j, i) c (in_second (before_bit, i, j) (after_bit, j, i))

-- ---- the order that edges bring along
pub data FromOrder (units : List Unit) (edges : List Edge) (i j : ℕ) : Type 0 where
  ends : Contains edges (edge Ending i j) → FromOrder units edges i j
  pulls : (kind : DependencyKind) → (kind ≡ Wants) ⊎ (kind ≡ Requires) → Contains edges (edge (Depends kind) j i) → comes_after units j i ≡ true → FromOrder units edges i j

module _ (units : List Unit) (edges : List Edge) (i j : ℕ) where
  pulled_is : (x y : ℕ) → Contains (pulled units x y) (pair i j) → (x ≡ j) × (y ≡ i) × (comes_after units x y ≡ true)
  pulled_is x y c = by (comes_after units x y) refl c
    where
      by : (b : Bool) → comes_after units x y ≡ b → Contains (cond b (pair y x ∷ []) []) (pair i j) → (x ≡ j) × (y ≡ i) × (comes_after units x y ≡ true)
      by true t c = let q = is_one (pair y x) (pair i j) c in (ap (λ (p : Pair). p.second) q, ap (λ (p : Pair). p.first) q, t)
      by false t c = absurd (in_none (pair i j) c)

  pulled_out : (e : Edge) (kind : DependencyKind) → (kind ≡ Wants) ⊎ (kind ≡ Requires) → Contains edges e → e.link ≡ Depends kind → Contains (pulled units e.from e.to) (pair i j) → FromOrder units edges i j
  pulled_out e kind k c l d =
      let r = pulled_is e.from e.to d in
      pulls kind k (subst (Contains edges) (edge_is e (Depends kind) j i l r.0 r.1) c) (subst (λ y. comes_after units j y ≡ true) r.1 (subst (λ x. comes_after units x e.to ≡ true) r.0 r.2))

  pub order_out : Contains (flat_map (order_seen units) edges) (pair i j) → FromOrder units edges i j
  order_out c = let r = flat_contains (order_seen units) edges (pair i j) c in by r.0 r.1 r.0.link refl r.2
    where
      by : (e : Edge) → Contains edges e → (link : Link) → e.link ≡ link → Contains (order_by units link e.from e.to) (pair i j) → FromOrder units edges i j
      by e c (Depends Wants) l d = pulled_out e Wants (inl refl) c l d
      by e c (Depends Requires) l d = pulled_out e Requires (inr refl) c l d
      by e c (Depends BindsTo) l d = absurd (in_none (pair i j) d)
      by e c (Depends PartOf) l d = absurd (in_none (pair i j) d)
      by e c (Depends Conflicts) l d = absurd (in_none (pair i j) d)
      by e c Declared l d = absurd (in_none (pair i j) d)
      by e c Ending l d =
          let q = is_one (pair e.from e.to) (pair i j) d in
          ends (subst (Contains edges) (edge_is e Ending i j l (ap (λ (p : Pair). p.first) q) (ap (λ (p : Pair). p.second) q)) c)

  pub ends_in : Contains edges (edge Ending i j) → Contains (flat_map (order_seen units) edges) (pair i j)
  ends_in c = contains_flat (order_seen units) edges (edge Ending i j) (pair i j) c (in_one (pair i j))

  pulled_in : comes_after units j i ≡ true → Contains (pulled units j i) (pair i j)
  pulled_in t = subst (λ b. Contains (cond b (pair i j ∷ []) []) (pair i j)) (sym t) (in_one (pair i j))

  pub pulls_in : (kind : DependencyKind) → (kind ≡ Wants) ⊎ (kind ≡ Requires) → Contains edges (edge (Depends kind) j i) → comes_after units j i ≡ true → Contains (flat_map (order_seen units) edges) (pair i j)
  pulls_in kind k c t = contains_flat (order_seen units) edges (edge (Depends kind) j i) (pair i j) c (by kind k)
    where
      by : (kind : DependencyKind) → (kind ≡ Wants) ⊎ (kind ≡ Requires) → Contains (order_seen units (edge (Depends kind) j i)) (pair i j)
      by kind (inl e) = subst (λ k. Contains (order_seen units (edge (Depends k) j i)) (pair i j)) (sym e) (pulled_in t)
      by kind (inr e) = subst (λ k. Contains (order_seen units (edge (Depends k) j i)) (pair i j)) (sym e) (pulled_in t)

-- ---- an edge between two numbers
pub between_out : (link : Link) (o p : Option ℕ) (other : Link) (i j : ℕ) → Contains (edge_between link o p) (edge other i j) → (o ≡ Some i) × (p ≡ Some j) × (link ≡ other) × (i ≢ j)
between_out link None p other i j c = absurd (in_none (edge other i j) c)
between_out link (Some x) None other i j c = absurd (in_none (edge other i j) c)
between_out link (Some x) (Some y) other i j c = by (x == y) refl c
  where
    by : (b : Bool) → (x == y) ≡ b → Contains (cond b [] (edge link x y ∷ [])) (edge other i j) → (Some x ≡ Some i) × (Some y ≡ Some j) × (link ≡ other) × (i ≢ j)
    by true t c = absurd (in_none (edge other i j) c)
    by false t c =
        let q = is_one (edge link x y) (edge other i j) c in
        let a = ap (λ (e : Edge). e.from) q in
        let b = ap (λ (e : Edge). e.to) q in
        (ap Some a, ap Some b, ap (λ (e : Edge). e.link) q, λ same. let yes = (Decides-eqb x y).1 (a ∙ (same ∙ sym b)) in cc)

pub between_in : (link : Link) (i j : ℕ) → i ≢ j → Contains (edge_between link (Some i) (Some j)) (edge link i j)
between_in link i j ne = by (i == j) refl
  where
    by : (b : Bool) → (i == j) ≡ b → Contains (cond b [] (edge link i j ∷ [])) (edge link i j)
    by true t = absurd (ne ((Decides-eqb i j).0 t))
    by false t = in_one (edge link i j)
