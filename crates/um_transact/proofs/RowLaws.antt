-- The members of the rows of a graph, and the demands found in the row of a unit.
use Rattle.std.proofs.Common.{◌≡◌, ◌<◌, zero, suc, Bool, true, false, List, ◌++◌, length, Contains, refl, subst, inl, inr, arith}
use Rattle.std.proofs.lemmas.List.Elements.{Contains-append_left, Contains-append_right, Contains-append_cases}
use Rattle.um_model.specs.Jobs.{is_active}
use Rattle.um_model.specs.declared.dependencies.Demand.{Demand}
use Rattle.um_model.specs.declared.dependencies.Demand.TheVariants.{Start, Stop, Restart}
use Rattle.um_model.specs.declared.service.ActiveState.{ActiveState}
use Rattle.um_graph.specs.Graph.{GraphView, IsGraph, row_of}
use Rattle.um_graph.specs.declared.row.Neighbour.{Neighbour}
use Rattle.um_graph.proofs.ListLaws.{flat_contains}
use Rattle.um_graph.proofs.StandLaws.{neighbour_within}
use Rattle.um_transact.specs.Situation.{LeadsBy}
use Rattle.um_transact.specs.Walk.{Demanded, activity_at, brings, brought_by, one_if}

-- ---- the demands found by one neighbour
one_cases : (b : Bool) (p q : Demanded) → Contains (one_if b p) q → (b ≡ true) × (p ≡ q)
one_cases true p q (zero, h, e) = (refl, e)
one_cases true p q (suc k, h, e) = absurd (omega arith)
one_cases false p q (k, h, e) = absurd (omega arith)

one_has : (b : Bool) (p : Demanded) → b ≡ true → Contains (one_if b p) p
one_has true p h = (0, omega arith, refl)
one_has false p h = cc

pub by_one : (d : Demand) (a : Bool) (n : Neighbour) (q : Demanded) → Contains (brought_by d a n) q → (e : Demand) × (brings d e a n ≡ true) × ((e, n.unit) ≡ q)
by_one d a n q c = elim (Contains-append_cases (one_if (brings d Start a n) (Start, n.unit)) (one_if (brings d Stop a n) (Stop, n.unit) ++ one_if (brings d Restart a n) (Restart, n.unit)) q c) [
  | inl h ↦ let r = one_cases (brings d Start a n) (Start, n.unit) q h in (Start, r.0, r.1)
  | inr b ↦ elim (Contains-append_cases (one_if (brings d Stop a n) (Stop, n.unit)) (one_if (brings d Restart a n) (Restart, n.unit)) q b) [
    | inl h ↦ let r = one_cases (brings d Stop a n) (Stop, n.unit) q h in (Stop, r.0, r.1)
    | inr h ↦ let r = one_cases (brings d Restart a n) (Restart, n.unit) q h in (Restart, r.0, r.1)
  ]
]

pub to_one : (d e : Demand) (a : Bool) (n : Neighbour) → brings d e a n ≡ true → Contains (brought_by d a n) (e, n.unit)
to_one d Start a n b = Contains-append_left (one_if (brings d Start a n) (Start, n.unit)) (one_if (brings d Stop a n) (Stop, n.unit) ++ one_if (brings d Restart a n) (Restart, n.unit)) (Start, n.unit) (one_has (brings d Start a n) (Start, n.unit) b)
to_one d Stop a n b = Contains-append_right (one_if (brings d Start a n) (Start, n.unit)) (one_if (brings d Stop a n) (Stop, n.unit) ++ one_if (brings d Restart a n) (Restart, n.unit)) (Stop, n.unit)
    (Contains-append_left (one_if (brings d Stop a n) (Stop, n.unit)) (one_if (brings d Restart a n) (Restart, n.unit)) (Stop, n.unit) (one_has (brings d Stop a n) (Stop, n.unit) b))
to_one d Restart a n b = Contains-append_right (one_if (brings d Start a n) (Start, n.unit)) (one_if (brings d Stop a n) (Stop, n.unit) ++ one_if (brings d Restart a n) (Restart, n.unit)) (Restart, n.unit)
    (Contains-append_right (one_if (brings d Stop a n) (Stop, n.unit)) (one_if (brings d Restart a n) (Restart, n.unit)) (Restart, n.unit) (one_has (brings d Restart a n) (Restart, n.unit) b))

-- ---- rows
module _ (g : GraphView) (is : IsGraph g) (activity : List ActiveState) where
  abbrev active : Neighbour → Bool
  active n = is_active (activity_at activity n.unit)

  pub leads_within : (p q : Demanded) → LeadsBy g activity p q → q.1 < length g.names
  leads_within p q c =
      let r = flat_contains (λ n. brought_by p.0 (active n) n) (row_of g.rows p.1) q c in
      let t = by_one p.0 (active r.0) r.0 q r.2 in
      subst (λ (w : Demanded). w.1 < length g.names) t.2 (neighbour_within g is p.1 r.0 r.1)
