-- A row in which each unit stands once holds no more neighbours than there are units.
use Rattle.std.proofs.Common.{◌≡◌, ◌≢◌, ◌∙◌, ◌<◌, ◌≤◌, ℕ, eqb, true, List, length, map, get_or, AllPairs, sym, subst, arith}
use Rattle.std.specs.List.{list_any}
use Rattle.std.proofs.lemmas.Bool.{eqb-true}
use Rattle.std.proofs.lemmas.Bool.Decides.{Decides-eqb}
use Rattle.std.proofs.lemmas.List.{get_or-map, get_or_default, length-map}
use Rattle.std.proofs.lemmas.Map.Made.{IsDistinct-from_AllPairs}
use Rattle.std.proofs.lemmas.Map.Steps.{length-le_from_distinct_below}
use Rattle.std.proofs.lemmas.Map.Views.{Contains-from_any}
use Rattle.um_graph.specs.Graph.{AreOnce, GraphView, IsGraph, row_of}
use Rattle.um_graph.specs.declared.row.Neighbour.{Neighbour}
use Rattle.um_graph.proofs.StandLaws.{neighbour_within}

abbrev units_of : List Neighbour → List ℕ
units_of row = map (λ (n : Neighbour). n.unit) row

abbrev none : Neighbour
none = record { unit = 0; kinds = record { 0 = 0 } }

unit_at : (row : List Neighbour) (i d : ℕ) → i < length row → get_or (units_of row) i d ≡ (get_or row i none).unit
unit_at row i d h = get_or-map (λ (n : Neighbour). n.unit) row i none d h

apart : (row : List Neighbour) → AreOnce row → AllPairs (λ (a b : ℕ). a ≢ b) (units_of row)
apart row once i j d h k e =
    let long = length-map row (λ (n : Neighbour). n.unit) in
    once i j none h (omega arith) (sym (unit_at row i d (omega arith)) ∙ (e ∙ unit_at row j d (omega arith)))

pub row_short : (g : GraphView) → IsGraph g → (x : ℕ) → length (row_of g.rows x) ≤ length g.names
row_short g is x =
    let row = row_of g.rows x in
    let long = length-map row (λ (n : Neighbour). n.unit) in
    let short = length-le_from_distinct_below (units_of row) (length g.names) (IsDistinct-from_AllPairs Decides-eqb (units_of row) (apart row (is.once x))) below in omega arith
  where
    below : (q : ℕ) → list_any (eqb q) (units_of (row_of g.rows x)) ≡ true → q < length g.names
    below q t =
        let row = row_of g.rows x in
        let long = length-map row (λ (n : Neighbour). n.unit) in
        let c = Contains-from_any eqb-true q (units_of row) t in
        let h : c.0 < length row = omega (arith, c.1) in
        let n = get_or row c.0 none in
        subst (λ u. u < length g.names) (sym (unit_at row c.0 q h) ∙ c.2) (neighbour_within g is x n (c.0, h, get_or_default row c.0 n none h))
