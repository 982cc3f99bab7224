-- The lists made from the rows have just the contents of the rows.
use Rattle.std.proofs.Common.{◌≡◌, ◌↔◌, ◌+◌, ◌<◌, ℕ, Bool, true, false, cond, List, [], ◌∷◌, ◌++◌, length, Contains, refl, sym, subst, inl, inr, arith}
use Rattle.std.proofs.lemmas.Bool.{cases_lt}
use Rattle.std.proofs.lemmas.List.Elements.{Contains-append_left, Contains-append_right, Contains-append_cases}
use Rattle.um_model.specs.declared.dependencies.DependencyKind.{DependencyKind}
use Rattle.um_model.specs.declared.dependencies.DependencyKind.TheVariants.{Wants, Requires, BindsTo, PartOf, Conflicts}
use Rattle.um_graph.specs.Graph.{GraphView, IsGraph, Stands, row_of}
use Rattle.um_graph.specs.Kinds.{before_bit, bit_of, has}
use Rattle.um_graph.specs.Listed.{AreOf, all_kinds, dependencies_by, dependencies_in, dependency_by, order_by, order_in}
use Rattle.um_graph.proofs.ListLaws.{contains_flat, flat_contains, in_none, is_one}
use Rattle.um_graph.proofs.StandLaws.{stands_within}

pub of_none : {A : Type 0} (given : ℕ → List A) (items : List A) → items ≡ [] → AreOf given 0 items
of_none given items e a = (λ c. absurd (in_none a (subst (λ xs. Contains xs a) e c)), λ r. absurd (omega (arith, r.1)))

pub of_more : {A : Type 0} (given : ℕ → List A) (n : ℕ) (items new : List A) → AreOf given n items → new ≡ items ++ given n → AreOf given (n + 1) new
of_more given n items new h e a = (
  λ c. elim (Contains-append_cases items (given n) a (subst (λ xs. Contains xs a) e c)) [
    | inl old ↦ let r = (h a).0 old in (r.0, omega (arith, r.1), r.2)
    | inr here ↦ (n, omega arith, here)
  ],
  λ r. subst (λ xs. Contains xs a) (sym e) (elim (cases_lt r.0 n) as (λ _. Contains (items ++ given n) a) [
    | inl lower ↦ Contains-append_left items (given n) a ((h a).1 (r.0, lower, r.2))
    | inr past ↦ let at : r.0 ≡ n = omega (arith, r.1) in Contains-append_right items (given n) a (subst (λ x. Contains (given x) a) at r.2)
  ]),
)

-- ---- one or none
one_is : {A : Type 0} (b : Bool) (p q : A) → Contains (cond b (p ∷ []) []) q → (b ≡ true) × (p ≡ q)
one_is true p q c = (refl, is_one p q c)
one_is false p q c = absurd (in_none q c)

one_in : {A : Type 0} (b : Bool) (p : A) → b ≡ true → Contains (cond b (p ∷ []) []) p
one_in true p h = (0, omega arith, refl)
one_in false p h = cc

each_kind : (kind : DependencyKind) → Contains all_kinds kind
each_kind Wants = (0, omega arith, refl)
each_kind Requires = (1, omega arith, refl)
each_kind BindsTo = (2, omega arith, refl)
each_kind PartOf = (3, omega arith, refl)
each_kind Conflicts = (4, omega arith, refl)

module _ (g : GraphView) (is : IsGraph g) where
  -- ---- dependencies
  pub edges_exact : (items : List (DependencyKind × ℕ × ℕ)) → AreOf (λ x. dependencies_in x (row_of g.rows x)) (length g.names) items
      → (kind : DependencyKind) (x y : ℕ) → Contains items (kind, x, y) ↔ Stands g.rows (bit_of kind) x y
  edges_exact items h kind x y = (λ c. out ((h (kind, x, y)).0 c), back)
    where
      out : (u : ℕ) × (u < length g.names) × Contains (dependencies_in u (row_of g.rows u)) (kind, x, y) → Stands g.rows (bit_of kind) x y
      out (u, l, c) =
          let f = flat_contains (dependencies_by u) (row_of g.rows u) (kind, x, y) c in
          let k = flat_contains (dependency_by u f.0) all_kinds (kind, x, y) f.2 in
          let one = one_is {A = DependencyKind × ℕ × ℕ} (has (bit_of k.0) f.0.kinds) (k.0, u, f.0.unit) (kind, x, y) k.2 in
          subst (λ (e : DependencyKind × ℕ × ℕ). Stands g.rows (bit_of e.0) e.1 e.2) one.1
          (record { neighbour = f.0; listed = f.1; is = refl; kind = one.0 })

      back : Stands g.rows (bit_of kind) x y → Contains items (kind, x, y)
      back s = (h (kind, x, y)).1 (
        x,
        (stands_within g is (bit_of kind) x y s).0,
        contains_flat (dependencies_by x) (row_of g.rows x) s.neighbour (kind, x, y) s.listed
            (contains_flat (dependency_by x s.neighbour) all_kinds kind (kind, x, y) (each_kind kind)
            (subst (λ u. Contains (dependency_by x s.neighbour kind) (kind, x, u)) s.is (one_in {A = DependencyKind × ℕ × ℕ} (has (bit_of kind) s.neighbour.kinds) (kind, x, s.neighbour.unit) s.kind))),
      )

  -- ---- the order
  pub before_exact : (items : List (ℕ × ℕ)) → AreOf (λ x. order_in x (row_of g.rows x)) (length g.names) items
      → (x y : ℕ) → Contains items (x, y) ↔ Stands g.rows before_bit x y
  before_exact items h x y = (λ c. out ((h (x, y)).0 c), back)
    where
      out : (u : ℕ) × (u < length g.names) × Contains (order_in u (row_of g.rows u)) (x, y) → Stands g.rows before_bit x y
      out (u, l, c) =
          let f = flat_contains (order_by u) (row_of g.rows u) (x, y) c in
          let one = one_is {A = ℕ × ℕ} (has before_bit f.0.kinds) (u, f.0.unit) (x, y) f.2 in
          subst (λ (e : ℕ × ℕ). Stands g.rows before_bit e.0 e.1) one.1 (record { neighbour = f.0; listed = f.1; is = refl; kind = one.0 })

      back : Stands g.rows before_bit x y → Contains items (x, y)
      back s = (h (x, y)).1 (
        x,
        (stands_within g is before_bit x y s).0,
        contains_flat (order_by x) (row_of g.rows x) s.neighbour (x, y) s.listed
            (subst (λ u. Contains (order_by x s.neighbour) (x, u)) s.is (one_in {A = ℕ × ℕ} (has before_bit s.neighbour.kinds) (x, s.neighbour.unit) s.kind)),
      )
