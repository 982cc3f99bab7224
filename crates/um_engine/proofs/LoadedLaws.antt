-- Why a tree isn't loaded, from the contracts of the functions called.
use Rattle.std.proofs.Common.{◌≡◌, ◌≢◌, ◌∙◌, ℕ, List, Contains, Option, Some, None, Result, Ok, Err, unwrap_or, refl, sym, ap, subst, inl, inr}
use Rattle.std.specs.Bool.{⊤}
use Rattle.std.specs.Prelude.{IsErrAnd}
use Rattle.std.specs.FinMap as map
use Rattle.std.proofs.lemmas.Option.{none-some, slice_get-get_or}
use Rattle.um_model.specs.Profiles.{ReadTree, lasting_tree}
use Rattle.um_model.specs.Dependencies.{extra}
use Rattle.um_model.specs.Jobs.{Job, ComesBefore, GoesBefore, starts, stops, stops_then_starts, stops_then_starts_before, of_one_unit, IsPending, jobs_of_unit, job_of, no_jobs}
use Rattle.um_model.specs.Machine.{State, IsHeld, IsBefore, CausesOfLoad}
use Rattle.um_model.specs.Plan.{AreFree, NamesCycle}
use Rattle.um_model.specs.Reached.{first}
use Rattle.um_model.specs.Refusals.{Refused, at_first, at_second, too_large}
use Rattle.um_model.specs.Service.{ByUnit}
use Rattle.um_model.specs.declared.jobs.JobKind.{JobKind}
use Rattle.um_model.specs.declared.jobs.JobKind.TheVariants.{Start, Stop}
use Rattle.um_model.specs.declared.jobs.JobState.TheVariants.{Waiting}
use Rattle.um_model.specs.declared.jobs.UnitJobs.{UnitJobs}
use Rattle.um_model.specs.declared.refusals.Limit.TheVariants.{Units}
use Rattle.um_laws.proofs.OrderLaws.{cycle_weaker}
use Rattle.um_model.proofs.OwnNameLaws.{precedes_anyhow}
use Rattle.um_graph.specs.Graph.{GraphView, IsGraph, IsGraphOf, IsNumberOf}
use Rattle.um_graph.specs.Kinds.{before_bit}
use Rattle.um_graph.specs.Named.{Joins}
use Rattle.um_graph.proofs.NamedLaws.{among_or_apart, got_within, name_got, name_is, names_once}
use Rattle.um_jobs.specs.Named.{jobs_by}
use Rattle.um_jobs.proofs.NamedLaws.{jobs_by_at, jobs_by_none}
use Rattle.um_wire.specs.Gives.{RefusesBy}
use Rattle.um_wire.specs.Refusal.{refused_of}
use Rattle.um_wire.specs.declared.refusal.Refusal.{Refusal}
use Rattle.um_wire.specs.declared.refusal.Refusal.TheVariants.{NoMemory}
use Rattle.um_engine.specs.Known.{IsFull}
use Rattle.um_engine.specs.Planned.{ArePending}

-- jobs go before one another by the one order as by the other, where units of some kind do
pub goes_too : (P Q : List ℕ → List ℕ → Type 0) (K : List ℕ → Type 0) → ((x y : List ℕ) → K x → K y → P x y → Q x y) → (a b : Job) → K a.unit → K b.unit → GoesBefore P a b → GoesBefore Q a b
goes_too P Q K f _ _ k l (starts {x = x} {y = y} h) = starts (f x y k l h)
goes_too P Q K f _ _ k l (stops {x = x} {y = y} h) = stops (f x y l k h)
goes_too P Q K f _ _ k l (stops_then_starts {x = x} {y = y} h) = stops_then_starts (f x y k l h)
goes_too P Q K f _ _ k l (stops_then_starts_before {x = x} {y = y} h) = stops_then_starts_before (f x y l k h)
goes_too P Q K f _ _ k l of_one_unit = of_one_unit

-- a circle by the one order is one by the other, where the same jobs are pending
module _ (P Q : List ℕ → List ℕ → Type 0) (K : List ℕ → Type 0) (f : (x y : List ℕ) → K x → K y → P x y → Q x y) (p q : ByUnit UnitJobs)
    (same : (x : List ℕ) → jobs_of_unit p x ≡ jobs_of_unit q x) (held : (job : Job) → IsPending q job → K job.unit) where
  comes_too : (a b : Job) → ComesBefore P p a b → ComesBefore Q q a b
  comes_too a b c =
      let pends : IsPending q a = subst (λ j. job_of a.kind j ≢ None) (same a.unit) c.pends in
      let waits : job_of b.kind (jobs_of_unit q b.unit) ≡ Some Waiting = subst (λ j. job_of b.kind j ≡ Some Waiting) (same b.unit) c.waits in
      record { pends = pends; waits = waits; goes = goes_too P Q K f a b (held a pends) (held b (λ e. none-some Waiting (sym e ∙ waits))) c.goes }

  pub cycle_too : (r : Refused) → NamesCycle P p r → NamesCycle Q q r
  cycle_too r c = record { cycle = c.cycle; closed = cycle_weaker (ComesBefore P p) (ComesBefore Q q) comes_too c.cycle c.closed; least = c.least; refusal = c.refusal }

no_job_pends : (kind : JobKind) → job_of kind no_jobs ≡ None
no_job_pends Stop = refl
no_job_pends Start = refl

-- the pending jobs of a state by the numbers of a graph that holds its units, and by its names
module _ (s : State) (tree : ReadTree) (Extra : List ℕ → Type 0) (g : GraphView) (is : IsGraph g) (of : IsGraphOf tree Extra g)
    (held : (x : List ℕ) → IsHeld s x → Contains g.names x) (pending : List UnitJobs) (pends : ArePending g s pending) where
  number : (x : List ℕ) → Contains g.names x → (i : ℕ) × IsNumberOf g i x
  number x c = (c.0, slice_get-get_or g.names c.0 x c.1 ∙ ap Some c.2)

  none_apart : (x : List ℕ) (o : Option UnitJobs) → map.get s.pending x ≡ o → ¬ Contains g.names x → jobs_of_unit s.pending x ≡ no_jobs
  none_apart x None at apart = ap (λ o. unwrap_or o no_jobs) at
  none_apart x (Some j) at apart = absurd (apart (held x (inr (λ e. none-some j (sym e ∙ at)))))

  same_jobs : (x : List ℕ) → jobs_of_unit (jobs_by g.names pending) x ≡ jobs_of_unit s.pending x
  same_jobs x = elim (among_or_apart g.names x) as (λ _. jobs_of_unit (jobs_by g.names pending) x ≡ jobs_of_unit s.pending x) [
    | inl b ↦
        let known : IsNumberOf g b.0 x = name_got g.names b.0 b.1 ∙ ap Some b.2 in
        ap (jobs_of_unit (jobs_by g.names pending)) (sym b.2) ∙ (jobs_by_at g.names pending (names_once g.names is.sorted) b.0 b.1 ∙ pends b.0 x known)
    | inr apart ↦
        jobs_by_none g.names pending x apart
        ∙ sym (none_apart x (map.get s.pending x) refl (λ c. let n = number x c in apart n.0 (got_within g.names n.0 x n.1) (name_is g.names n.0 x n.1)))
  ]

  pending_held : (job : Job) → IsPending s.pending job → Contains g.names job.unit
  pending_held job p = held job.unit (inr (λ e. p (ap (λ o. job_of job.kind (unwrap_or o no_jobs)) e ∙ no_job_pends job.kind)))

  joins_into : (x y : List ℕ) → Contains g.names x → Contains g.names y → Joins g before_bit x y → IsBefore tree x y
  joins_into x y c d j =
      precedes_anyhow tree Extra (λ unit. ⊤) x y (first (extra tt)) (first (extra tt)) ((of.before j.from j.to x y j.first j.second).0 j.stands)

  joins_back : (x y : List ℕ) → Contains g.names x → Contains g.names y → IsBefore tree x y → Joins g before_bit x y
  joins_back x y c d p =
      let i = number x c in
      let j = number y d in
      record {
        from = i.0;
        to = j.0;
        first = i.1;
        second = j.1;
        stands = (of.before i.0 j.0 x y i.1 j.1).1 (precedes_anyhow tree (λ unit. ⊤) Extra x y ((of.known x).0 c) ((of.known y).0 d) p);
      }

  pub circle_of_state : (r : Refused) → NamesCycle (Joins g before_bit) (jobs_by g.names pending) r → NamesCycle (IsBefore tree) s.pending r
  circle_of_state =
      cycle_too (Joins g before_bit) (IsBefore tree) (Contains g.names) joins_into (jobs_by g.names pending) s.pending same_jobs pending_held

  by_number_held : (job : Job) → IsPending (jobs_by g.names pending) job → Contains g.names job.unit
  by_number_held job p = pending_held job (subst (λ j. job_of job.kind j ≢ None) (same_jobs job.unit) p)

  pub circle_by_number : (r : Refused) → NamesCycle (IsBefore tree) s.pending r → NamesCycle (Joins g before_bit) (jobs_by g.names pending) r
  circle_by_number =
      cycle_too (IsBefore tree) (Joins g before_bit) (Contains g.names) joins_back s.pending (jobs_by g.names pending) (λ x. sym (same_jobs x)) by_number_held

  -- a set of jobs without a circle by number has none by name
  pub free_of_state : AreFree (Joins g before_bit) (jobs_by g.names pending) → AreFree (IsBefore tree) s.pending
  free_of_state free cycle closed =
      let back = comes_too (IsBefore tree) (Joins g before_bit) (Contains g.names) joins_back s.pending (jobs_by g.names pending) (λ x. sym (same_jobs x)) by_number_held in
      free cycle (cycle_weaker (ComesBefore (IsBefore tree) s.pending) (ComesBefore (Joins g before_bit) (jobs_by g.names pending)) back cycle closed)

-- the causes for which a tree isn't loaded, and that there is none
module _ (s : State) (tree : ReadTree) where
  pub loads_none_full : (r : Refused) → r ≡ too_large Units → IsFull tree (IsHeld s) → CausesOfLoad s tree r
  loads_none_full r is full = at_first (record { many = full; refusal = is })

  pub loads_none_circle : (r : Refused) → ¬ IsFull tree (IsHeld s) → NamesCycle (IsBefore tree) s.pending r → CausesOfLoad s tree r
  loads_none_circle r few h = at_second (λ q c. few c.many) h

  pub free_to_load : ¬ IsFull tree (IsHeld s) → ((r : Refused) → ¬ NamesCycle (IsBefore tree) s.pending r) → (r : Refused) → ¬ CausesOfLoad s tree r
  free_to_load few free r (at_first h) = few h.many
  free_to_load few free r (at_second n h) = free r h

-- a call that passes on a refusal is refused for the cause of that refusal
pub refused_is : {X : Type 0} (Cause : Refused → Type 0) (result : Result X Refusal) (e : Refusal) → IsErrAnd result (λ f. f ≡ e)
    → (e ≢ NoMemory → Cause (refused_of e)) → RefusesBy Cause result
refused_is Cause (Ok done) e h step = absurd h
refused_is Cause (Err f) e h step = subst (λ g. g ≢ NoMemory → Cause (refused_of g)) (sym h) step
