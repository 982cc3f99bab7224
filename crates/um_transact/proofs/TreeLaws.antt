-- The scene of a tree's graph is alike that of the tree.
use Rattle.std.proofs.Common.{◌≡◌, ◌↔◌, ◌∙◌, ℕ, List, Some, option_map, get_or, sym, ap, subst, inl, inr, ⊎_elim, arith}
use Rattle.std.proofs.lemmas.Option.{same_Some, slice_get-get_or}
use Rattle.um_model.specs.Dependencies.{Depends, IsKnown, Orders, Precedes, declared, pulled_in, ending, ends, owner, other, earlier, later, loadable_in, loadable_of}
use Rattle.um_model.specs.Jobs.{jobs_of_unit, no_jobs}
use Rattle.um_model.specs.Machine as machine
use Rattle.um_model.specs.Plan.{Scene}
use Rattle.um_model.specs.Reached.{next}
use Rattle.um_model.specs.Refusals.{Refused}
use Rattle.um_model.specs.Service.{ByUnit}
use Rattle.um_model.specs.Profiles.{ReadTree}
use Rattle.um_model.specs.Units.{LoadedUnit, load}
use Rattle.um_model.specs.declared.dependencies.DependencyKind.{DependencyKind}
use Rattle.um_model.specs.declared.dependencies.DependencyKind.TheVariants.{Wants, Requires}
use Rattle.um_model.specs.declared.jobs.UnitJobs.{UnitJobs}
use Rattle.um_model.specs.declared.service.ActiveState.{ActiveState}
use Rattle.um_laws.proofs.PlanLaws.{AreAlike}
use Rattle.um_unit.specs.View.{loading_of}
use Rattle.um_unit.specs.declared.loaded.Loading.{Loading}
use Rattle.um_unit.specs.declared.loaded.Loading.TheVariants.{NotFound}
use Rattle.um_graph.specs.Graph.{GraphView, IsGraph, IsGraphOf, IsNumberOf}
use Rattle.um_graph.specs.Kinds.{bit_of, before_bit}
use Rattle.um_jobs.specs.Named.{jobs_at, jobs_by}
use Rattle.um_graph.specs.Named.{Joins, item_for}
use Rattle.um_transact.specs.Scene.{IsFound, scene_of}
use Rattle.um_transact.specs.Scene as scenes
use Rattle.um_transact.specs.Walk.{activity_at}
use Rattle.um_model.specs.declared.service.ActiveState.TheVariants.{Inactive}
use Rattle.um_graph.proofs.NamedLaws.{among_or_apart, got_within, item_at, name_got, name_is, names_once}
use Rattle.um_jobs.proofs.NamedLaws.{jobs_by_at, jobs_by_none}

module _ (tree : ReadTree) (Extra : List ℕ → Type 0) (g : GraphView) (is : IsGraph g) (of : IsGraphOf tree Extra g) where
  -- the known units have numbers
  number : (x : List ℕ) → IsKnown tree Extra x → (i : ℕ) × IsNumberOf g i x
  number x k = let c = (of.known x).1 k in (c.0, slice_get-get_or g.names c.0 x c.1 ∙ ap Some c.2)

  depends_known : (kind : DependencyKind) (x y : List ℕ) → Depends tree Extra kind x y → IsKnown tree Extra x × IsKnown tree Extra y
  depends_known kind x y d = (next d.known (owner d.gives), next d.known (other d.gives))

  orders_known : (x y : List ℕ) → Orders tree Extra x y → IsKnown tree Extra x × IsKnown tree Extra y
  orders_known x y (declared d) = (next d.known (earlier d.declares), next d.known (later d.declares))
  orders_known x y (pulled_in p none) = let k = ⊎_elim (depends_known Wants _ _) (depends_known Requires _ _) p.depends in (k.1, k.0)
  orders_known x y (ending k l d) = (next k (owner (ends l d)), next k (other (ends l d)))

  joins_is : (kind : DependencyKind) (x y : List ℕ) → Joins g (bit_of kind) x y ↔ Depends tree Extra kind x y
  joins_is kind x y = (
    λ h. (of.depends kind h.from h.to x y h.first h.second).0 h.stands,
    λ d.
        let k = depends_known kind x y d in
        let i = number x k.0 in
        let j = number y k.1 in
        record { from = i.0; to = j.0; first = i.1; second = j.1; stands = (of.depends kind i.0 j.0 x y i.1 j.1).1 d },
  )

  before_is : (x y : List ℕ) → Joins g before_bit x y ↔ Precedes tree Extra x y
  before_is x y = (
    λ h. (of.before h.from h.to x y h.first h.second).0 h.stands,
    λ d.
        let k = orders_known x y d.orders in
        let i = number x k.0 in
        let j = number y k.1 in
        record { from = i.0; to = j.0; first = i.1; second = j.1; stands = (of.before i.0 j.0 x y i.1 j.1).1 d },
  )

  -- the loading found for a unit is the one by the tree
  found_load : (x : List ℕ) (loading : Loading) → IsFound g x loading → loading_of loading ≡ load tree x
  found_load x loading f = same_Some (loading_of loading) (load tree x) (ap (option_map loading_of) (sym f.held) ∙ of.loaded f.number x f.known)

  found : (x : List ℕ) → IsKnown tree Extra x → (loading : Loading) × IsFound g x loading
  found x k =
      let i = number x k in
      let h = got_within g.names i.0 x i.1 in
      (get_or g.loadings i.0 NotFound, record { number = i.0; known = i.1; held = slice_get-get_or g.loadings i.0 NotFound (omega (arith, h, is.loaded)) })

  loadable_is : (x : List ℕ) → IsKnown tree Extra x → scenes.IsLoadable g x ↔ ((l : LoadedUnit) × (loadable_in tree x ≡ Some l))
  loadable_is x k = (
    λ b. (b.unit, ap loadable_of (sym (found_load x b.loading b.found)) ∙ b.loads),
    λ l. let f = found x k in record { loading = f.0; found = f.1; unit = l.0; loads = ap loadable_of (found_load x f.0 f.1) ∙ l.1 },
  )

  cannot_is : (x : List ℕ) → IsKnown tree Extra x → (r : Refused) → scenes.CannotStart g x r ↔ machine.CannotStart x (load tree x) r
  cannot_is x k r = (
    λ b. subst (λ l. machine.CannotStart x l r) (found_load x b.loading b.found) b.cause,
    λ c. let f = found x k in record { loading = f.0; found = f.1; cause = subst (λ l. machine.CannotStart x l r) (sym (found_load x f.0 f.1)) c },
  )

  -- with activity and jobs of the units by number, the scene of the graph is alike that of the tree
  module _ (activity : List ActiveState) (pending : List UnitJobs) (activity_of : List ℕ → ActiveState) (held : ByUnit UnitJobs)
      (active : (i : ℕ) (x : List ℕ) → IsNumberOf g i x → activity_at activity i ≡ activity_of x)
      (pends : (i : ℕ) (x : List ℕ) → IsNumberOf g i x → jobs_at pending i ≡ jobs_of_unit held x)
      (none : (x : List ℕ) → ((i : ℕ) → ¬ IsNumberOf g i x) → jobs_of_unit held x ≡ no_jobs) where
    abbrev pub scene_in : Scene
    scene_in = record {
      Depends = λ kind x y. Depends tree Extra kind x y;
      IsBefore = λ x y. Precedes tree Extra x y;
      IsLoadable = λ x. (l : LoadedUnit) × (loadable_in tree x ≡ Some l);
      CannotStart = λ x r. machine.CannotStart x (load tree x) r;
      activity = activity_of;
      pending = held;
    }

    pub alike_tree : AreAlike (IsKnown tree Extra) (scene_of g activity pending) scene_in
    alike_tree = record {
      within = λ kind x y h. depends_known kind x y ((joins_is kind x y).0 h);
      depends = joins_is;
      before = before_is;
      loadable = loadable_is;
      cannot = cannot_is;
      activity = λ x k.
          let i = number x k in
          let e = name_is g.names i.0 x i.1 in
          ap (item_for Inactive g.names activity) (sym e) ∙ (item_at Inactive g.names activity (names_once g.names is.sorted) i.0 (got_within g.names i.0 x i.1) ∙ active i.0 x i.1);
      pending = λ x. elim (among_or_apart g.names x) as (λ _. jobs_of_unit (jobs_by g.names pending) x ≡ jobs_of_unit held x) [
        | inl b ↦
            let known : IsNumberOf g b.0 x = name_got g.names b.0 b.1 ∙ ap Some b.2 in
            ap (jobs_of_unit (jobs_by g.names pending)) (sym b.2) ∙ (jobs_by_at g.names pending (names_once g.names is.sorted) b.0 b.1 ∙ pends b.0 x known)
        | inr apart ↦ jobs_by_none g.names pending x apart ∙ sym (none x (λ i n. apart i (got_within g.names i x n) (name_is g.names i x n)))
      ];
    }
