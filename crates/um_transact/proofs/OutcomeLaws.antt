-- The checks by number are the refusals of the definitions by name, and their order is that of the causes.
use Rattle.std.proofs.Common.{◌≡◌, ◌↔◌, ◌∙◌, ◌<◌, ℕ, true, List, length, refl, sym, ap, subst, inl, inr, arith}
use Rattle.std.proofs.lemmas.Bool.{cases_lt}
use Rattle.um_model.specs.Jobs.{Job, ComesBefore, DropsOne, jobs_of_unit}
use Rattle.um_model.specs.Least.{IsLeast, IsNamedBefore, NamesLeast}
use Rattle.um_model.specs.Order.{IsCycle}
use Rattle.um_model.specs.Plan.{CausesOfPlan, Clashes, IsBarred, NamesCycle, NamesDrop}
use Rattle.um_model.specs.Refusals.{Refused, FirstCause, at_first, at_second, clash, job_conflict}
use Rattle.um_model.specs.declared.commands.JobMode.{JobMode}
use Rattle.um_model.specs.declared.commands.JobMode.TheVariants.{Fail}
use Rattle.um_model.specs.declared.dependencies.Demand.{Demand}
use Rattle.um_model.specs.declared.dependencies.Demand.TheVariants.{Stop}
use Rattle.um_model.specs.declared.jobs.UnitJobs.{UnitJobs}
use Rattle.um_model.specs.declared.service.ActiveState.{ActiveState}
use Rattle.um_graph.specs.Graph.{GraphView, IsGraph, IsNumberOf}
use Rattle.um_graph.specs.Kinds.{before_bit}
use Rattle.um_transact.specs.Checks.{BarsBy, ClashesBy, DropsBy, RefusesFirst, is_started, planned_at}
use Rattle.um_jobs.specs.Named.{jobs_at, jobs_by}
use Rattle.um_graph.specs.Named.{name_at, Joins}
use Rattle.um_transact.specs.Scene.{scene_of}
use Rattle.um_transact.specs.Situation.{IsDemandedBy}
use Rattle.um_transact.specs.Walk.{Demanded, IsMarked, marks_at}
use Rattle.um_transact.specs.declared.walk.Marks.{Marks}
use Rattle.um_jobs.proofs.DropLaws.{dropped_told, none_dropped, told_dropped}
use Rattle.um_transact.proofs.MarkedLaws.{cannot_named, marked_named, named_cannot, named_marked, named_started, started_named}
use Rattle.um_graph.proofs.NamedLaws.{among_or_apart, name_got, name_is, named_before, names_once}
use Rattle.um_jobs.proofs.NamedLaws.{jobs_by_at, jobs_by_none}

-- the first unit that gives a refusal is the least of those that have the property
module _ (g : GraphView) (is : IsGraph g) (Has : List ℕ → Type 0) (Refuses : ℕ → Refused → Type 0)
    (sound : (u : ℕ) (r : Refused) → u < length g.names → Refuses u r → Has (name_at g.names u))
    (whole : (x : List ℕ) → Has x → (u : ℕ) × (name_at g.names u ≡ x) × (u < length g.names) × (r : Refused) × Refuses u r) where
  first_least : (r : Refused) (f : RefusesFirst Refuses (length g.names) r) → IsLeast IsNamedBefore Has (name_at g.names f.unit)
  first_least r f = record {
    has = sound f.unit r f.within f.cause;
    first = λ other has apart.
        let w = whole other has in
        elim (cases_lt w.0 f.unit) as (λ _. IsNamedBefore (name_at g.names f.unit) other) [
          | inl lower ↦ absurd (f.first w.0 lower w.3 w.4)
          | inr past ↦ elim (cases_lt f.unit w.0) as (λ _. IsNamedBefore (name_at g.names f.unit) other) [
            | inl later ↦ subst (IsNamedBefore (name_at g.names f.unit)) w.1 (named_before g.names is.sorted f.unit w.0 later w.2)
            | inr equal ↦ let e : w.0 ≡ f.unit = omega arith in absurd (apart (sym w.1 ∙ ap (name_at g.names) e))
          ]
        ];
  }

  none_has : ((u : ℕ) → u < length g.names → (r : Refused) → ¬ Refuses u r) → (x : List ℕ) → ¬ Has x
  none_has none x has = let w = whole x has in none w.0 w.2 w.3 w.4

module _ (g : GraphView) (is : IsGraph g) (activity : List ActiveState) (pending : List UnitJobs) (demand : Demand) (unit : ℕ) (known : unit < length g.names)
    (marks : List Marks) (marked : (q : Demanded) → IsMarked marks q ↔ IsDemandedBy g activity (demand, unit) q) (mode : JobMode) (plan : List UnitJobs)
    (each : (u : ℕ) → u < length g.names → jobs_at plan u ≡ planned_at marks activity pending u) where
  abbrev name : ℕ → List ℕ
  name = name_at g.names

  one : (i j : ℕ) → i < length g.names → j < length g.names → name i ≡ name j → i ≡ j
  one = names_once g.names is.sorted

  abbrev None : (ℕ → Refused → Type 0) → Type 0
  None Refuses = (u : ℕ) → u < length g.names → (r : Refused) → ¬ Refuses u r

  -- ---- units that can't be started
  abbrev NamesBarred : Refused → Type 0
  NamesBarred = NamesLeast (IsBarred (scene_of g activity pending) (demand, name unit)) (scene_of g activity pending).CannotStart

  bars_sound : (u : ℕ) (r : Refused) → u < length g.names → BarsBy g marks u r → IsBarred (scene_of g activity pending) (demand, name unit) (name u)
  bars_sound u r h b = record {
    started = started_named g is activity pending demand unit known marks marked u b.started;
    refusal = r;
    cause = cannot_named g is activity pending demand unit known marks marked u r h b.cause;
  }

  bars_whole : (x : List ℕ) → IsBarred (scene_of g activity pending) (demand, name unit) x → (u : ℕ) × (name u ≡ x) × (u < length g.names) × (r : Refused) × BarsBy g marks u r
  bars_whole x b =
      let s = named_started g is activity pending demand unit known marks marked x b.started in
      let k = named_cannot g is activity pending demand unit known marks marked x b.refusal b.cause in
      let same : s.0 ≡ k.0 = one s.0 k.0 s.2 k.2 (s.1 ∙ sym k.1) in
      (k.0, k.1, k.2, b.refusal, record { started = subst (λ v. is_started (marks_at marks v) ≡ true) same s.3; cause = k.3 })

  bars_named : (r : Refused) → RefusesFirst (BarsBy g marks) (length g.names) r → NamesBarred r
  bars_named r f = record {
    name = name f.unit;
    least = first_least g is (IsBarred (scene_of g activity pending) (demand, name unit)) (BarsBy g marks) bars_sound bars_whole r f;
    told = cannot_named g is activity pending demand unit known marks marked f.unit r f.within f.cause.cause;
  }

  no_bars : None (BarsBy g marks) → (r : Refused) → ¬ NamesBarred r
  no_bars none r b = none_has g is (IsBarred (scene_of g activity pending) (demand, name unit)) (BarsBy g marks) bars_sound bars_whole none b.name b.least.has

  -- ---- units that are started and stopped
  abbrev NamesClash : Refused → Type 0
  NamesClash = NamesLeast (Clashes (scene_of g activity pending) (demand, name unit)) (λ unit r. r ≡ clash unit)

  clashes_sound : (u : ℕ) (r : Refused) → u < length g.names → ClashesBy g marks u r → Clashes (scene_of g activity pending) (demand, name unit) (name u)
  clashes_sound u r h b = record {
    started = started_named g is activity pending demand unit known marks marked u b.started;
    stopped = marked_named g is activity pending demand unit known marks marked Stop u b.stopped;
  }

  clashes_whole : (x : List ℕ) → Clashes (scene_of g activity pending) (demand, name unit) x → (u : ℕ) × (name u ≡ x) × (u < length g.names) × (r : Refused) × ClashesBy g marks u r
  clashes_whole x b =
      let s = named_started g is activity pending demand unit known marks marked x b.started in
      let k = named_marked g is activity pending demand unit known marks marked Stop x b.stopped in
      let same : s.0 ≡ k.0 = one s.0 k.0 s.2 k.2 (s.1 ∙ sym k.1) in
      (k.0, k.1, k.2, clash (name k.0), record { started = subst (λ v. is_started (marks_at marks v) ≡ true) same s.3; stopped = k.3; name = name k.0; known = name_got g.names k.0 k.2; refusal = refl })

  clashes_named : (r : Refused) → RefusesFirst (ClashesBy g marks) (length g.names) r → NamesClash r
  clashes_named r f = record {
    name = name f.unit;
    least = first_least g is (Clashes (scene_of g activity pending) (demand, name unit)) (ClashesBy g marks) clashes_sound clashes_whole r f;
    told = f.cause.refusal ∙ ap clash (sym (name_is g.names f.unit f.cause.name f.cause.known));
  }

  no_clashes : None (ClashesBy g marks) → (r : Refused) → ¬ NamesClash r
  no_clashes none r b = none_has g is (Clashes (scene_of g activity pending) (demand, name unit)) (ClashesBy g marks) clashes_sound clashes_whole none b.name b.least.has

  -- ---- units of which a job is dropped
  abbrev DropsAt : List ℕ → Type 0
  DropsAt x = DropsOne (jobs_of_unit (jobs_by g.names pending) x) (jobs_of_unit (jobs_by g.names plan) x)

  abbrev DropsIn : List ℕ → Type 0
  DropsIn x = (mode ≡ Fail) × DropsAt x

  drops_sound : (u : ℕ) (r : Refused) → u < length g.names → DropsBy g mode pending plan u r → DropsIn (name u)
  drops_sound u r h b = (
    b.fails,
    subst (λ j. DropsOne j (jobs_of_unit (jobs_by g.names plan) (name u))) (sym (jobs_by_at g.names pending one u h))
        (subst (DropsOne (jobs_at pending u)) (sym (jobs_by_at g.names plan one u h)) (told_dropped (jobs_at pending u) (jobs_at plan u) b.drops)),
  )

  drops_whole : (x : List ℕ) → DropsIn x → (u : ℕ) × (name u ≡ x) × (u < length g.names) × (r : Refused) × DropsBy g mode pending plan u r
  drops_whole x d = elim (among_or_apart g.names x) as (λ _. (u : ℕ) × (name u ≡ x) × (u < length g.names) × (r : Refused) × DropsBy g mode pending plan u r) [
    | inl b ↦
        let here : DropsAt (name b.0) = subst DropsAt (sym b.2) d.1 in
        let told = dropped_told (jobs_at pending b.0) (jobs_at plan b.0)
        (subst (λ j. DropsOne j (jobs_at plan b.0)) (jobs_by_at g.names pending one b.0 b.1) (subst (DropsOne (jobs_of_unit (jobs_by g.names pending) (name b.0))) (jobs_by_at g.names plan one b.0 b.1) here)) in
        (b.0, b.2, b.1, job_conflict (name b.0), record { fails = d.0; drops = told; name = name b.0; known = name_got g.names b.0 b.1; refusal = refl })
    | inr none ↦ absurd (none_dropped (jobs_of_unit (jobs_by g.names plan) x) (subst (λ j. DropsOne j (jobs_of_unit (jobs_by g.names plan) x)) (jobs_by_none g.names pending x none) d.1))
  ]

  drops_named : (r : Refused) → RefusesFirst (DropsBy g mode pending plan) (length g.names) r → NamesDrop mode (jobs_by g.names pending) (jobs_by g.names plan) r
  drops_named r f =
      let l = first_least g is DropsIn (DropsBy g mode pending plan) drops_sound drops_whole r f in
      record {
        fails = f.cause.fails;
        names = record {
          name = name f.unit;
          least = record { has = l.has.1; first = λ other has apart. l.first other (f.cause.fails, has) apart };
          told = f.cause.refusal ∙ ap job_conflict (sym (name_is g.names f.unit f.cause.name f.cause.known));
        };
      }

  no_drops : None (DropsBy g mode pending plan) → (r : Refused) → ¬ NamesDrop mode (jobs_by g.names pending) (jobs_by g.names plan) r
  no_drops none r b = none_has g is DropsIn (DropsBy g mode pending plan) drops_sound drops_whole none b.names.name (b.fails, b.names.least.has)

  -- ---- the outcome
  abbrev Causes : Refused → Type 0
  Causes = CausesOfPlan (scene_of g activity pending) (demand, name unit) mode (jobs_by g.names plan)

  module _ (asked : List ℕ) (number : IsNumberOf g unit asked) where
    abbrev Asked : Refused → Type 0
    Asked = CausesOfPlan (scene_of g activity pending) (demand, asked) mode (jobs_by g.names plan)

    refused_for : (r : Refused) → Causes r → Asked r
    refused_for r c = subst (λ x. CausesOfPlan (scene_of g activity pending) (demand, x) mode (jobs_by g.names plan) r) (name_is g.names unit asked number) c

    pub refused_bars : (r : Refused) → RefusesFirst (BarsBy g marks) (length g.names) r → Asked r
    refused_bars r f = refused_for r (at_first (bars_named r f))

    module _ (able : None (BarsBy g marks)) where
      pub refused_clashes : (r : Refused) → RefusesFirst (ClashesBy g marks) (length g.names) r → Asked r
      refused_clashes r f = refused_for r (at_second (no_bars able) (at_first (clashes_named r f)))

      module _ (apart : None (ClashesBy g marks)) where
        pub refused_drops : (r : Refused) → RefusesFirst (DropsBy g mode pending plan) (length g.names) r → Asked r
        refused_drops r f = refused_for r (at_second (no_bars able) (at_second (no_clashes apart) (at_first (drops_named r f))))

        module _ (keeps : None (DropsBy g mode pending plan)) where
          pub refused_cycle : (r : Refused) → NamesCycle (Joins g before_bit) (jobs_by g.names plan) r → Asked r
          refused_cycle r n = refused_for r (at_second (no_bars able) (at_second (no_clashes apart) (at_second (no_drops keeps) n)))

          module _ (free : (cycle : List Job) → ¬ IsCycle (ComesBefore (Joins g before_bit) (jobs_by g.names plan)) cycle) where
            last_unrefused : (r : Refused) → ¬ FirstCause (NamesDrop mode (jobs_by g.names pending) (jobs_by g.names plan)) (NamesCycle (Joins g before_bit) (jobs_by g.names plan)) r
            last_unrefused r (at_first d) = no_drops keeps r d
            last_unrefused r (at_second none n) = free n.cycle n.closed

            later_unrefused : (r : Refused) → ¬ FirstCause NamesClash (FirstCause (NamesDrop mode (jobs_by g.names pending) (jobs_by g.names plan)) (NamesCycle (Joins g before_bit) (jobs_by g.names plan))) r
            later_unrefused r (at_first b) = no_clashes apart r b
            later_unrefused r (at_second none n) = last_unrefused r n

            unrefused : (r : Refused) → ¬ Causes r
            unrefused r (at_first b) = no_bars able r b
            unrefused r (at_second none n) = later_unrefused r n

            pub accepted : (r : Refused) → ¬ Asked r
            accepted r c =
                unrefused r (subst (λ x. CausesOfPlan (scene_of g activity pending) (demand, x) mode (jobs_by g.names plan) r) (sym (name_is g.names unit asked number)) c)
