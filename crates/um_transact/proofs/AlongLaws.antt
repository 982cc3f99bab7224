-- The demands that a demand brings, and the starts of wanted units along with it: found one neighbour after another.
use Rattle.std.proofs.Common.{◌≡◌, ◌↔◌, ◌+◌, ◌<◌, ◌≤◌, ℕ, true, false, List, length, get_or, Contains, sym, ap, ◌∙◌, subst, inl, inr, arith}
use Rattle.std.proofs.lemmas.Bool.{cases_lt}
use Rattle.std.proofs.lemmas.List.{get_or_default}
use Rattle.std.proofs.lemmas.List.Elements.{Contains-get_or}
use Rattle.um_model.specs.Demands.{IsStarting, starts, restarts}
use Rattle.um_model.specs.declared.dependencies.Demand.{Demand}
use Rattle.um_model.specs.declared.dependencies.Demand.TheVariants.{Start, Stop, Restart}
use Rattle.um_model.specs.declared.dependencies.DependencyKind.TheVariants.{Wants}
use Rattle.um_model.specs.declared.service.ActiveState.{ActiveState}
use Rattle.um_graph.specs.Graph.{GraphView, IsGraph, row_of}
use Rattle.um_graph.specs.Kinds.{has, bit_of}
use Rattle.um_graph.specs.declared.row.Neighbour.{Neighbour}
use Rattle.um_transact.specs.Situation.{AddsWanted, IsStartableBy, LeadsBy, LeadsAlongBy, is_starting}
use Rattle.um_transact.specs.Walk.{Demanded, brought}
use Rattle.um_transact.proofs.RowLaws.{leads_within}
use Rattle.um_graph.proofs.StandLaws.{neighbour_within}

pub is_start : (d : Demand) → is_starting d ≡ true → IsStarting d
is_start Start h = starts
is_start Stop h = cc
is_start Restart h = restarts

pub is_no_start : (d : Demand) → is_starting d ≡ false → IsStarting d → ⊥
is_no_start d h starts = cc
is_no_start d h restarts = cc

module _ (g : GraphView) (activity : List ActiveState) where
  -- the demands found along with it by the first neighbours
  pub record FoundAlong (p : Demanded) (ns : List Neighbour) (i : ℕ) (found : List Demanded) : Type 0 where
    pub sound : (q : Demanded) → Contains found q → LeadsAlongBy g activity p q
    pub kept : (q : Demanded) → LeadsBy g activity p q → Contains found q
    pub done : (k : ℕ) (n : Neighbour) → k < i → k < length ns → get_or ns k n ≡ n → has (bit_of Wants) n.kinds ≡ true → IsStartableBy g activity n.unit → Contains found (Start, n.unit)

  pub along_first : (p : Demanded) (ns : List Neighbour) (found : List Demanded) → found ≡ brought activity p.0 (row_of g.rows p.1) → FoundAlong p ns 0 found
  along_first p ns found e = record {
    sound = λ q c. inl (subst (λ x. Contains x q) e c);
    kept = λ q c. subst (λ x. Contains x q) (sym e) c;
    done = λ k n h. absurd (omega arith);
  }

  pub along_more : (p : Demanded) (ns : List Neighbour) (i : ℕ) (n : Neighbour) (found new : List Demanded) → IsStarting p.0 → ns ≡ row_of g.rows p.1 → i < length ns → n ≡ get_or ns i n → FoundAlong p ns i found → AddsWanted g activity n found new → FoundAlong p ns (i + 1) new
  along_more p ns i n found new s r h e f a = record {
    sound = λ q c. elim (a.only q c) as (λ _. LeadsAlongBy g activity p q) [
      | inl old ↦ f.sound q old
      | inr t ↦
          let listed : Contains (row_of g.rows p.1) n = subst (λ x. Contains x n) r (subst (Contains ns) (sym e) (Contains-get_or ns i n h)) in
          inr (record { starting = s; neighbour = n; listed = listed; wanted = t.1; startable = t.2; is = t.0 })
    ];
    kept = λ q c. a.kept q (f.kept q c);
    done = λ k m lt len at w good. elim (cases_lt k i) as (λ _. Contains new (Start, m.unit)) [
      | inl lower ↦ a.kept (Start, m.unit) (f.done k m lower len at w good)
      | inr past ↦
          let here : k ≡ i = omega arith in
          let same : n ≡ m = e ∙ (get_or_default ns i n m h ∙ (ap (λ j. get_or ns j m) (sym here) ∙ at)) in
          subst (λ (x : Neighbour). Contains new (Start, x.unit)) same
          (a.added (subst (λ (x : Neighbour). has (bit_of Wants) x.kinds ≡ true) (sym same) w) (subst (λ (x : Neighbour). IsStartableBy g activity x.unit) (sym same) good))
    ];
  }

  pub along_all : (p : Demanded) (ns : List Neighbour) (i : ℕ) (found : List Demanded) → ns ≡ row_of g.rows p.1 → length ns ≤ i → FoundAlong p ns i found → (q : Demanded) → Contains found q ↔ LeadsAlongBy g activity p q
  along_all p ns i found r h f q = (
    f.sound q,
    λ l. elim l as (λ _. Contains found q) [
      | inl b ↦ f.kept q b
      | inr w ↦
          let c = subst (λ xs. Contains xs w.neighbour) (sym r) w.listed in
          subst (Contains found) w.is (f.done c.0 w.neighbour (omega (arith, c.1)) c.1 c.2 w.wanted w.startable)
    ],
  )

  -- a unit that isn't started wants nothing
  pub along_stop : (p : Demanded) (found : List Demanded) → (IsStarting p.0 → ⊥) → found ≡ brought activity p.0 (row_of g.rows p.1) → (q : Demanded) → Contains found q ↔ LeadsAlongBy g activity p q
  along_stop p found s e q = (
    λ c. inl (subst (λ x. Contains x q) e c),
    λ l. elim l as (λ _. Contains found q) [ inl b ↦ subst (λ x. Contains x q) (sym e) b | inr w ↦ absurd (s w.starting) ],
  )

  pub along_within : IsGraph g → (p q : Demanded) → LeadsAlongBy g activity p q → q.1 < length g.names
  along_within is p q l = elim l as (λ _. q.1 < length g.names) [
    | inl b ↦ leads_within g is activity p q b
    | inr w ↦ subst (λ (t : Demanded). t.1 < length g.names) w.is (neighbour_within g is p.1 w.neighbour w.listed)
  ]
