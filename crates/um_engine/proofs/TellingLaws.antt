-- The job table is filled by number: for one unit first the stop and then the start, and one unit after another.
use Rattle.std.proofs.Common.{◌≡◌, ◌∙◌, ◌+◌, ◌<◌, ◌≤◌, ℕ, List, length, set, Option, Some, None, MatchOption, false, refl, sym, ap, subst, inl, inr, arith}
use Rattle.std.proofs.lemmas.Bool.{cases_lt}
use Rattle.std.proofs.lemmas.Grind.{get_or-set_at}
use Rattle.std.proofs.lemmas.List.{get_or-set_other, length-set, set-set, set_past}
use Rattle.std.proofs.lemmas.Option.{same_Some}
use Rattle.std.specs.Prelude.{slice_get}
use Rattle.um_model.specs.Jobs.{jobs, jobs_of_unit, no_jobs, with_job}
use Rattle.um_model.specs.Machine.{State}
use Rattle.um_model.specs.declared.jobs.JobKind.{JobKind}
use Rattle.um_model.specs.declared.jobs.JobKind.TheVariants.{Stop, Start}
use Rattle.um_model.specs.declared.jobs.JobState.{JobState}
use Rattle.um_model.specs.declared.jobs.UnitJobs.{UnitJobs}
use Rattle.um_graph.specs.Graph.{GraphView, IsGraph, IsNumberOf}
use Rattle.um_graph.specs.Named.{name_at}
use Rattle.um_graph.proofs.NamedLaws.{got_within, name_got}
use Rattle.um_jobs.specs.Jobs.{JobsView, held_at, with_jobs_at, without_job}
use Rattle.um_jobs.specs.Named.{jobs_at}
use Rattle.um_engine.specs.Filled.{Tells, deactivates, told_of}

-- ---- the jobs of one unit

-- the table records how far the unit's job of the kind is, or that none is pending
abbrev pub TellsJob : JobKind → ℕ → Option JobState → JobsView → JobsView → Type 0
TellsJob kind u job v w =
    MatchOption job (w ≡ with_jobs_at v u (without_job kind (jobs_at v.units u))) (λ state. w ≡ with_jobs_at v u (with_job kind state (jobs_at v.units u)))

stop_told : (u : ℕ) (job : Option JobState) (v w : JobsView) → TellsJob Stop u job v w → w ≡ with_jobs_at v u (jobs job (jobs_at v.units u).start)
stop_told u None v w is = is
stop_told u (Some state) v w is = is

start_told : (u : ℕ) (job : Option JobState) (v w : JobsView) → TellsJob Start u job v w → w ≡ with_jobs_at v u (jobs (jobs_at v.units u).stop job)
start_told u None v w is = is
start_told u (Some state) v w is = is

past_same : (v : JobsView) (u : ℕ) (j : UnitJobs) → length v.units ≤ u → with_jobs_at v u j ≡ v
past_same v u j past = ap (λ units. record v { units = units }) (set_past v.units u j past)

module _ (u : ℕ) (told : UnitJobs) (v w : JobsView) (stop : TellsJob Stop u told.stop v w) where
  abbrev between : UnitJobs
  between = jobs told.stop (jobs_at v.units u).start

  first : w ≡ with_jobs_at v u between
  first = stop_told u told.stop v w stop

  pub both_told : (x : JobsView) → TellsJob Start u told.start w x → x ≡ with_jobs_at v u told
  both_told x start =
      start_told u told.start w x start ∙ elim (cases_lt u (length v.units)) as (λ _. with_jobs_at w u (jobs (jobs_at w.units u).stop told.start) ≡ with_jobs_at v u told) [
        | inl within ↦
            let there : jobs_at w.units u ≡ between = ap (λ (y : JobsView). jobs_at y.units u) first ∙ get_or-set_at v.units u u between no_jobs refl within in
            ap (λ (j : UnitJobs). with_jobs_at w u (jobs j.stop told.start)) there
            ∙ (ap (λ y. with_jobs_at y u told) first ∙ ap (λ units. record v { units = units }) (set-set v.units u between told))
        | inr past ↦
            let long : length w.units ≡ length v.units = ap (λ (y : JobsView). length y.units) first ∙ length-set v.units u between in
            past_same w u (jobs (jobs_at w.units u).stop told.start) (omega (arith, long, past))
            ∙ (first ∙ (past_same v u between (omega (arith, past)) ∙ sym (past_same v u told (omega (arith, past)))))
      ]

-- ---- one unit after another

-- the table is for the graph's units, and for each number below n it records what the state holds
pub record TellsFirst (g : GraphView) (s : State) (n : ℕ) (v : JobsView) : Type 0 where
  pub graph : IsGraph g
  pub same : v.graph ≡ g
  pub long : length v.units ≡ length g.names
  pub wide : length v.held ≡ length g.names
  pub jobs : (i : ℕ) (unit : List ℕ) → i < n → IsNumberOf g i unit → jobs_at v.units i ≡ jobs_of_unit s.pending unit
  pub held : (i : ℕ) (unit : List ℕ) → i < n → IsNumberOf g i unit → held_at v.held i ≡ deactivates s unit

pub none_first : (g : GraphView) (before s : State) (v : JobsView) → Tells g before v → TellsFirst g s 0 v
none_first g before s v tells = record {
  graph = tells.graph;
  same = tells.same;
  long = tells.long;
  wide = tells.wide;
  jobs = λ i unit below. absurd (omega (arith, below));
  held = λ i unit below. absurd (omega (arith, below));
}

module _ (g : GraphView) (s : State) (n : ℕ) (v : JobsView) (low : n < length g.names) (tells : TellsFirst g s n v) where
  abbrev name : List ℕ
  name = name_at g.names n

  number : IsNumberOf g n name
  number = name_got g.names n low

  here : (i : ℕ) (unit : List ℕ) → IsNumberOf g i unit → i ≡ n → name ≡ unit
  here i unit m at = same_Some name unit (sym number ∙ (ap (slice_get g.names) (sym at) ∙ m))

  jobs_now : (i : ℕ) (unit : List ℕ) → i < n + 1 → IsNumberOf g i unit → jobs_at (set v.units n (jobs_of_unit s.pending name)) i ≡ jobs_of_unit s.pending unit
  jobs_now i unit below m = elim (cases_lt i n) as (λ _. jobs_at (set v.units n (jobs_of_unit s.pending name)) i ≡ jobs_of_unit s.pending unit) [
    | inl lower ↦ get_or-set_other v.units n i (jobs_of_unit s.pending name) no_jobs (λ e. omega (arith, e, lower)) ∙ tells.jobs i unit lower m
    | inr past ↦
        let at : i ≡ n = omega arith in
        get_or-set_at v.units n i (jobs_of_unit s.pending name) no_jobs at (omega (arith, low, tells.long)) ∙ ap (jobs_of_unit s.pending) (here i unit m at)
  ]

  held_now : (i : ℕ) (unit : List ℕ) → i < n + 1 → IsNumberOf g i unit → held_at (set v.held n (deactivates s name)) i ≡ deactivates s unit
  held_now i unit below m = elim (cases_lt i n) as (λ _. held_at (set v.held n (deactivates s name)) i ≡ deactivates s unit) [
    | inl lower ↦ get_or-set_other v.held n i (deactivates s name) false (λ e. omega (arith, e, lower)) ∙ tells.held i unit lower m
    | inr past ↦
        let at : i ≡ n = omega arith in
        get_or-set_at v.held n i (deactivates s name) false at (omega (arith, low, tells.wide)) ∙ ap (deactivates s) (here i unit m at)
  ]

  pub more_first : (w : JobsView) → ((x : List ℕ) → IsNumberOf g n x → w ≡ told_of s n x v) → TellsFirst g s (n + 1) w
  more_first w is = subst (TellsFirst g s (n + 1)) (sym (is name number)) (record {
    graph = tells.graph;
    same = tells.same;
    long = length-set v.units n (jobs_of_unit s.pending name) ∙ tells.long;
    wide = length-set v.held n (deactivates s name) ∙ tells.wide;
    jobs = jobs_now;
    held = held_now;
  })

pub all_first : (g : GraphView) (s : State) (n : ℕ) (v : JobsView) → TellsFirst g s n v → length g.names ≤ n → Tells g s v
all_first g s n v tells past = record {
  graph = tells.graph;
  same = tells.same;
  long = tells.long;
  wide = tells.wide;
  jobs = λ i unit m. tells.jobs i unit (let within = got_within g.names i unit m in omega (arith, within, past)) m;
  held = λ i unit m is. sym (tells.held i unit (let within = got_within g.names i unit m in omega (arith, within, past)) m) ∙ is;
}
