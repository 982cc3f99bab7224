-- The marks are the demands by name, and the plan by the marks is the plan of the definitions.
use Rattle.std.proofs.Common.{◌≡◌, ◌↔◌, ◌∙◌, ◌<◌, ℕ, Bool, true, false, cond, List, length, Option, Some, None, refl, sym, ap, subst, inl, inr}
use Rattle.um_model.specs.Jobs.{jobs_of_unit, jobs_for}
use Rattle.um_model.specs.Machine as machine
use Rattle.um_model.specs.Plan.{Counts, Demands, IsPlan, IsStarted, Scene, restarted, started, stopped, left}
use Rattle.um_model.specs.Refusals.{Refused}
use Rattle.um_model.specs.Service.{ByUnit}
use Rattle.um_model.specs.declared.dependencies.Demand.{Demand}
use Rattle.um_model.specs.declared.dependencies.Demand.TheVariants.{Start, Stop, Restart}
use Rattle.um_model.specs.declared.jobs.UnitJobs.{UnitJobs}
use Rattle.um_model.specs.declared.service.ActiveState.{ActiveState}
use Rattle.um_model.specs.declared.service.ActiveState.TheVariants.{Inactive}
use Rattle.um_unit.specs.View.{loading_of}
use Rattle.um_graph.specs.Graph.{GraphView, IsGraph}
use Rattle.um_transact.specs.Checks.{CannotStartBy, counted, is_started, planned_at}
use Rattle.um_jobs.specs.Named.{jobs_at, jobs_by}
use Rattle.um_graph.specs.Named.{name_at, item_for}
use Rattle.um_transact.specs.Scene as scenes
use Rattle.um_transact.specs.Scene.{scene_of}
use Rattle.um_transact.specs.Situation.{IsDemandedBy}
use Rattle.um_transact.specs.Walk.{Demanded, IsMarked, marks_at}
use Rattle.um_transact.specs.declared.walk.Marks.{Marks}
use Rattle.um_graph.proofs.NamedLaws.{IsApart, among_or_apart, got_within, item_at, name_got, name_is, names_once}
use Rattle.um_jobs.proofs.NamedLaws.{jobs_by_at, jobs_by_none, jobs_by_tidy}
use Rattle.std.proofs.lemmas.Bool.{or_cases, or_left, or_right}
use Rattle.um_transact.proofs.SceneLaws.{demanded_named, named_demanded}

false_if : (b : Bool) → (b ≡ true → ⊥) → b ≡ false
false_if true h = absurd (h refl)
false_if false h = refl

-- which of three counts
abbrev of_three : Bool → Bool → Bool → Option Demand
of_three r s p = cond r (Some Restart) (cond s (Some Start) (cond p (Some Stop) None))

third : (r s p : Bool) → r ≡ false → s ≡ false → of_three r s p ≡ cond p (Some Stop) None
third false false p e f = refl
third true s p e f = cc
third false true p e f = cc

second : (r s p : Bool) → r ≡ false → of_three r s p ≡ cond s (Some Start) (cond p (Some Stop) None)
second false s p e = refl
second true s p e = cc

module _ (g : GraphView) (is : IsGraph g) (activity : List ActiveState) (pending : List UnitJobs) (demand : Demand) (unit : ℕ) (known : unit < length g.names)
    (marks : List Marks) (marked : (q : Demanded) → IsMarked marks q ↔ IsDemandedBy g activity (demand, unit) q) where
  abbrev name : ℕ → List ℕ
  name = name_at g.names

  abbrev pub scene : Scene
  scene = scene_of g activity pending

  abbrev pub root : Demand × List ℕ
  root = (demand, name unit)

  one : (i j : ℕ) → i < length g.names → j < length g.names → name i ≡ name j → i ≡ j
  one = names_once g.names is.sorted

  pub marked_named : (d : Demand) (i : ℕ) → IsMarked marks (d, i) → Demands scene root (d, name i)
  marked_named d i m = (named_demanded g is activity pending demand unit known d i ((marked (d, i)).0 m)).1

  pub named_marked : (d : Demand) (x : List ℕ) → Demands scene root (d, x) → (i : ℕ) × (name i ≡ x) × (i < length g.names) × IsMarked marks (d, i)
  named_marked d x r = let b = demanded_named g is activity pending demand unit known d x r in (b.0, b.1, b.2, (marked (d, b.0)).1 b.3)

  pub named_marked_at : (d : Demand) (i : ℕ) → i < length g.names → Demands scene root (d, name i) → IsMarked marks (d, i)
  named_marked_at d i h r = let b = named_marked d (name i) r in subst (λ u. IsMarked marks (d, u)) (one b.0 i b.2 h b.1) b.3

  -- ---- units that are started, and units that can't be
  pub started_named : (u : ℕ) → is_started (marks_at marks u) ≡ true → IsStarted scene root (name u)
  started_named u h = elim (or_cases (marks_at marks u).start (marks_at marks u).restart h) as (λ _. IsStarted scene root (name u)) [
    | inl a ↦ inl (marked_named Start u a)
    | inr b ↦ inr (marked_named Restart u b)
  ]

  pub named_started : (x : List ℕ) → IsStarted scene root x → (u : ℕ) × (name u ≡ x) × (u < length g.names) × (is_started (marks_at marks u) ≡ true)
  named_started x (inl r) = let b = named_marked Start x r in (b.0, b.1, b.2, or_left (marks_at marks b.0).start (marks_at marks b.0).restart b.3)
  named_started x (inr r) = let b = named_marked Restart x r in (b.0, b.1, b.2, or_right (marks_at marks b.0).start (marks_at marks b.0).restart b.3)

  pub cannot_named : (u : ℕ) (r : Refused) → u < length g.names → CannotStartBy g u r → scenes.CannotStart g (name u) r
  cannot_named u r h b = record {
    loading = b.loading;
    found = record { number = u; known = name_got g.names u h; held = b.held };
    cause = subst (λ x. machine.CannotStart x (loading_of b.loading) r) (sym (name_is g.names u b.name b.known)) b.cause;
  }

  pub named_cannot : (x : List ℕ) (r : Refused) → scenes.CannotStart g x r → (u : ℕ) × (name u ≡ x) × (u < length g.names) × CannotStartBy g u r
  named_cannot x r b = (
    b.found.number,
    name_is g.names b.found.number x b.found.known,
    got_within g.names b.found.number x b.found.known,
    record { name = x; known = b.found.known; loading = b.loading; held = b.found.held; cause = b.cause },
  )

  -- ---- the plan
  counts_is : (i : ℕ) → i < length g.names → (o : Option Demand) → Counts scene root (name i) o → counted (marks_at marks i) ≡ o
  counts_is i h o (restarted r) = ap (λ b. of_three b (marks_at marks i).start (marks_at marks i).stop) (named_marked_at Restart i h r)
  counts_is i h o (started nr s) =
      second (marks_at marks i).restart (marks_at marks i).start (marks_at marks i).stop (false_if (marks_at marks i).restart (λ m. nr (marked_named Restart i m)))
      ∙ ap (λ b. cond b (Some Start) (cond (marks_at marks i).stop (Some Stop) None)) (named_marked_at Start i h s)
  counts_is i h o (stopped nr ns p) =
      third (marks_at marks i).restart (marks_at marks i).start (marks_at marks i).stop (false_if (marks_at marks i).restart (λ m. nr (marked_named Restart i m))) (false_if (marks_at marks i).start (λ m. ns (marked_named Start i m)))
      ∙ ap (λ b. cond b (Some Stop) None) (named_marked_at Stop i h p)
  counts_is i h o (left nr ns np) =
      third (marks_at marks i).restart (marks_at marks i).start (marks_at marks i).stop (false_if (marks_at marks i).restart (λ m. nr (marked_named Restart i m))) (false_if (marks_at marks i).start (λ m. ns (marked_named Start i m)))
      ∙ ap (λ b. cond b (Some Stop) None) (false_if (marks_at marks i).stop (λ m. np (marked_named Stop i m)))

  module _ (plan : List UnitJobs) (each : (u : ℕ) → u < length g.names → jobs_at plan u ≡ planned_at marks activity pending u) where
    abbrev pub after : ByUnit UnitJobs
    after = jobs_by g.names plan

    abbrev Goal : List ℕ → Option Demand → Type 0
    Goal x o = jobs_of_unit after x ≡ jobs_for o (item_for Inactive g.names activity x) (jobs_of_unit (jobs_by g.names pending) x)

    at_unit : (i : ℕ) → i < length g.names → (o : Option Demand) → Counts scene root (name i) o → Goal (name i) o
    at_unit i h o c =
        let a = item_at Inactive g.names activity one i h in
        let p = jobs_by_at g.names pending one i h in
        let q = counts_is i h o c in
        jobs_by_at g.names plan one i h ∙ (each i h ∙ (λ k. jobs_for (q k) (sym a k) (sym p k)))

    at_none : (x : List ℕ) → IsApart g.names x → (o : Option Demand) → Counts scene root x o → Goal x o
    at_none x none o (restarted r) = let b = named_marked Restart x r in absurd (none b.0 b.2 b.1)
    at_none x none o (started nr s) = let b = named_marked Start x s in absurd (none b.0 b.2 b.1)
    at_none x none o (stopped nr ns p) = let b = named_marked Stop x p in absurd (none b.0 b.2 b.1)
    at_none x none o (left nr ns np) = jobs_by_none g.names plan x none ∙ sym (jobs_by_none g.names pending x none)

    pub is_plan : IsPlan scene root after
    is_plan = record {
      tidy = jobs_by_tidy g.names plan;
      jobs = λ x o c. elim (among_or_apart g.names x) as (λ _. Goal x o) [
        | inl b ↦ subst (λ y. Goal y o) b.2 (at_unit b.0 b.1 o (subst (λ y. Counts scene root y o) (sym b.2) c))
        | inr none ↦ at_none x none o c
      ];
    }
