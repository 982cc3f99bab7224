-- The scene of a graph has by name what the rows have by number.
use Rattle.std.proofs.Common.{◌≡◌, ◌↔◌, ◌∙◌, ◌<◌, ℕ, true, List, length, Option, Some, None, is_some, refl, sym, ap, arith}
use Rattle.std.proofs.lemmas.Option.{get_or_from_slice_get, slice_get-get_or}
use Rattle.um_model.specs.Dependencies.{loadable_of}
use Rattle.um_model.specs.Plan.{Demands}
use Rattle.um_model.specs.declared.dependencies.Demand.{Demand}
use Rattle.um_model.specs.declared.dependencies.DependencyKind.{DependencyKind}
use Rattle.um_model.specs.declared.jobs.UnitJobs.{UnitJobs}
use Rattle.um_model.specs.declared.service.ActiveState.{ActiveState}
use Rattle.um_model.specs.declared.service.ActiveState.TheVariants.{Inactive, Active}
use Rattle.um_laws.proofs.DemandsLaws.{demanded_back, demanded_forth}
use Rattle.um_unit.specs.View.{loading_of}
use Rattle.um_unit.specs.declared.loaded.Loading.TheVariants.{NotFound}
use Rattle.um_graph.specs.Graph.{GraphView, IsGraph, Stands}
use Rattle.um_graph.specs.Kinds.{bit_of}
use Rattle.um_graph.specs.Named.{name_at, Joins, item_for}
use Rattle.um_transact.specs.Scene as scenes
use Rattle.um_transact.specs.Scene.{IsFound, scene_of}
use Rattle.um_transact.specs.Situation.{IsDemandedBy, is_loadable_at, loading_at}
use Rattle.um_transact.specs.Walk.{activity_at}
use Rattle.um_transact.proofs.MirrorLaws.{Depends, IsActive, IsLoadable, demanded_here, demanded_there}
use Rattle.um_graph.proofs.NamedLaws.{got_within, item_at, name_got, name_is, names_once}
use Rattle.um_graph.proofs.StandLaws.{stands_within}

some_is : {A : Type 0} (o : Option A) → is_some o ≡ true → (a : A) × (o ≡ Some a)
some_is (Some a) h = (a, refl)
some_is None h = cc

is_some_by : {A : Type 0} (o : Option A) (a : A) → o ≡ Some a → is_some o ≡ true
is_some_by o a e = ap is_some e

module _ (g : GraphView) (is : IsGraph g) (activity : List ActiveState) (pending : List UnitJobs) where
  abbrev Inside : ℕ → Type 0
  Inside i = i < length g.names

  abbrev name : ℕ → List ℕ
  name = name_at g.names

  one : (i j : ℕ) → Inside i → Inside j → name i ≡ name j → i ≡ j
  one = names_once g.names is.sorted

  within : (kind : DependencyKind) (i j : ℕ) → Stands g.rows (bit_of kind) i j → Inside i × Inside j
  within kind i j s = stands_within g is (bit_of kind) i j s

  forth : (kind : DependencyKind) (i j : ℕ) → Stands g.rows (bit_of kind) i j → Joins g (bit_of kind) (name i) (name j)
  forth kind i j s = let w = within kind i j s in record { from = i; to = j; first = name_got g.names i w.0; second = name_got g.names j w.1; stands = s }

  back : (kind : DependencyKind) (x y : List ℕ) → Joins g (bit_of kind) x y → (i : ℕ) × (j : ℕ) × (name i ≡ x) × (name j ≡ y) × Stands g.rows (bit_of kind) i j
  back kind x y h = (h.from, h.to, name_is g.names h.from x h.first, name_is g.names h.to y h.second, h.stands)

  active : (i : ℕ) → Inside i → (activity_at activity i ≡ Active) ↔ (item_for Inactive g.names activity (name i) ≡ Active)
  active i h = let e = item_at Inactive g.names activity one i h in (λ a. e ∙ a, λ a. sym e ∙ a)

  -- the number of a unit is that under which it was found
  found_at : (i : ℕ) (h : Inside i) → IsFound g (name i) (loading_at g i)
  found_at i h = record { number = i; known = name_got g.names i h; held = slice_get-get_or g.loadings i NotFound (omega (arith, h, is.loaded)) }

  loadable : (i : ℕ) → Inside i → (is_loadable_at g i ≡ true) ↔ scenes.IsLoadable g (name i)
  loadable i h = (
    λ t. let s = some_is (loadable_of (loading_of (loading_at g i))) t in record { loading = loading_at g i; found = found_at i h; unit = s.0; loads = s.1 },
    λ l.
        let same : l.found.number ≡ i = one l.found.number i (got_within g.names l.found.number (name i) l.found.known) h (name_is g.names l.found.number (name i) l.found.known) in
        let there : loading_at g l.found.number ≡ l.loading = get_or_from_slice_get g.loadings l.found.number l.loading NotFound l.found.held in
        is_some_by (loadable_of (loading_of (loading_at g i))) l.unit (ap (λ k. loadable_of (loading_of (loading_at g k))) (sym same) ∙ (ap (λ k. loadable_of (loading_of k)) there ∙ l.loads)),
  )

  module _ (demand : Demand) (unit : ℕ) (known : unit < length g.names) where
    pub named_demanded : (d : Demand) (i : ℕ) → IsDemandedBy g activity (demand, unit) (d, i) → (i < length g.names) × Demands (scene_of g activity pending) (demand, name unit) (d, name i)
    named_demanded d i r =
        demanded_forth name Inside (Depends g is activity) (λ kind x y. Joins g (bit_of kind) x y) (IsActive g is activity) (λ x. item_for Inactive g.names activity x ≡ Active) (IsLoadable g is activity) (λ x. scenes.IsLoadable g x)
        one within forth back active loadable (demand, unit) known (d, i) (demanded_there g is activity (demand, unit) (d, i) r)

    pub demanded_named : (d : Demand) (x : List ℕ) → Demands (scene_of g activity pending) (demand, name unit) (d, x) → (i : ℕ) × (name i ≡ x) × (i < length g.names) × IsDemandedBy g activity (demand, unit) (d, i)
    demanded_named d x r =
        let b = demanded_back name Inside (Depends g is activity) (λ kind x y. Joins g (bit_of kind) x y) (IsActive g is activity) (λ x. item_for Inactive g.names activity x ≡ Active) (IsLoadable g is activity) (λ x. scenes.IsLoadable g x)
        one within forth back active loadable (demand, unit) known d x r in
        (b.0, b.1, b.2, demanded_here g is activity (demand, unit) (d, b.0) b.3)
