-- The members of a graph's rows are its units.
use Rattle.std.proofs.Common.{◌≡◌, ◌∙◌, ◌<◌, ℕ, List, length, All, Contains, Option, Some, None, slice_get, refl, sym, subst, inl, inr, arith}
use Rattle.std.proofs.lemmas.Option.{slice_get_cases}
use Rattle.um_graph.specs.Graph.{GraphView, IsGraph, Stands, row_of, neighbours_or_none}
use Rattle.um_graph.specs.declared.row.Neighbour.{Neighbour}

row_within : (g : GraphView) (o : Option (List Neighbour)) → ((row : List Neighbour) → o ≡ Some row → All (λ (n : Neighbour). n.unit < length g.names) row) → (n : Neighbour) → Contains (neighbours_or_none o) n → n.unit < length g.names
row_within g None f n (k, h, e) = absurd (omega arith)
row_within g (Some row) f n (k, h, e) = subst (λ (m : Neighbour). m.unit < length g.names) e (f row refl k n h)

module _ (g : GraphView) (is : IsGraph g) where
  -- each neighbour is a unit
  pub neighbour_within : (x : ℕ) (n : Neighbour) → Contains (row_of g.rows x) n → n.unit < length g.names
  neighbour_within x n c = row_within g (slice_get g.rows x) (λ row e. elim (slice_get_cases g.rows x).1 as (λ _. All (λ (m : Neighbour). m.unit < length g.names) row) [
    | inl s ↦
        let same : s.0 ≡ row = some_same s.0 row (sym s.2 ∙ e) in
        subst (All (λ (m : Neighbour). m.unit < length g.names)) (s.3 ∙ same) (is.within x s.0 s.1)
    | inr s ↦ absurd (some_none row (sym e ∙ s.1))
  ]) n c
    where
      some_same : (a b : List Neighbour) → Some a ≡ Some b → a ≡ b
      some_same a b e = cc

      some_none : (a : List Neighbour) → Some a ≡ None → ⊥
      some_none a e = cc

  -- and so is the unit in whose row it stands
  row_some : (o : Option (List Neighbour)) (n : Neighbour) → Contains (neighbours_or_none o) n → (row : List Neighbour) × (o ≡ Some row)
  row_some None n (k, h, e) = absurd (omega arith)
  row_some (Some row) n c = (row, refl)

  pub owner_within : (x : ℕ) (n : Neighbour) → Contains (row_of g.rows x) n → x < length g.names
  owner_within x n c = elim (slice_get_cases g.rows x).1 as (λ _. x < length g.names) [
    | inl s ↦ omega (arith, s.1, is.rowed)
    | inr s ↦ let r = row_some (slice_get g.rows x) n c in absurd (some_none r.0 (sym r.1 ∙ s.1))
  ]
    where
      some_none : (a : List Neighbour) → Some a ≡ None → ⊥
      some_none a e = cc

  pub stands_within : (bit x y : ℕ) → Stands g.rows bit x y → (x < length g.names) × (y < length g.names)
  stands_within bit x y h = (owner_within x h.neighbour h.listed, subst (λ u. u < length g.names) h.is (neighbour_within x h.neighbour h.listed))
