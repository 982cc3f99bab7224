-- An event of a unit is carried out, by the results of its parts.
use Rattle.um_falling.specs.Carrying.{Adds}
use Rattle.std.proofs.Common.{◌≡◌, ◌⊎◌, ◌∙◌, ℕ, ◌+◌, ◌≤◌, Bool, true, false, List, ◌++◌, Contains, Option, Some, None, unwrap_or, sym, ap, subst, inl, inr, arith, refl, true≢false}
use Rattle.std.proofs.lemmas.Option.{none-some}
use Rattle.um_model.specs.Jobs.{AreTidyJobs, jobs_of_unit, jobs_left, start_left, unless_running, with_jobs}
use Rattle.um_model.specs.Machine as machine
use Rattle.um_model.specs.Machine.{State, IsHeld, TakesAlong, settings_in, around, alone, along, change_of, changed}
use Rattle.um_model.specs.Service.{Action, AreTidyUnits, dead_unit, state_of_unit, with_unit}
use Rattle.um_model.specs.Transitions.{AreActions, HasNumber, spawned}
use Rattle.um_model.specs.declared.jobs.JobKind.TheVariants.{Stop, Start}
use Rattle.um_model.specs.declared.jobs.JobState.{JobState}
use Rattle.um_model.specs.declared.jobs.JobState.TheVariants.{Waiting, Running}
use Rattle.um_model.specs.declared.jobs.UnitJobs.{UnitJobs}
use Rattle.um_model.specs.declared.service.UnitState.{UnitState}
use Rattle.um_model.specs.declared.transition.Change.{Change}
use Rattle.um_model.specs.declared.transition.StartJob.{StartJob}
use Rattle.um_model.specs.declared.transition.StartJob.TheVariants.{Stays, Ends, Fails}
use Rattle.um_model.specs.declared.transition.UnitEvent.{UnitEvent}
use Rattle.um_model.proofs.TimersLaws.{same_name}
use Rattle.um_model.proofs.UnitLaws.{jobs_apart, jobs_here, state_apart, tidy_jobs, tidy_units}
use Rattle.um_model.specs.Waiting.{NoMoreWait, waits, waits_in}
use Rattle.um_graph.specs.Graph.{GraphView}
use Rattle.um_falling.specs.Carrying.{ChangesTo, KeepsOthers, OnlyEnds, fails_start}
use Rattle.um_falling.specs.Over.{Serves}

-- ---- whether a start fails

fails_told : (start : StartJob) (job : Option JobState) → fails_start start job ≡ true → (start ≡ Fails) × (job ≡ Some Running)
fails_told Fails (Some Running) e = (refl, refl)
fails_told Fails (Some Waiting) e = absurd (true≢false (sym e))
fails_told Fails None e = absurd (true≢false (sym e))
fails_told Stays job e = absurd (true≢false (sym e))
fails_told Ends job e = absurd (true≢false (sym e))

fails_not : (start : StartJob) (job : Option JobState) → fails_start start job ≡ false → ¬ ((start ≡ Fails) × (job ≡ Some Running))
fails_not start job none fails = true≢false (sym (ap (λ x. fails_start x job) fails.0 ∙ ap (fails_start Fails) fails.1) ∙ none)

-- ---- the unit and its jobs

pub changes_so : (t : ℕ) (unit : List ℕ) (event : UnitEvent) (s u v w : State) (before after new : List Action) (fails : Bool)
    → u ≡ record s { units = with_unit s.units unit (change_of t s unit event).unit }
    → v ≡ record u { pending = with_jobs u.pending unit (jobs_left (change_of t s unit event).start (change_of t s unit event).stop_ends (jobs_of_unit s.pending unit)) }
    → w ≡ record v { next = s.next + spawned (change_of t s unit event).order }
    → fails ≡ fails_start (change_of t s unit event).start (jobs_of_unit s.pending unit).start
    → AreActions (settings_in s.loaded unit) (around t s unit) (change_of t s unit event).unit (change_of t s unit event).order new
    → after ≡ before ++ new → AreTidyJobs s.pending → AreTidyUnits s.units
    → ChangesTo t unit event s before fails w after
changes_so t unit event s u v w before after new fails e f g is asked all tidy_jobs tidy_units =
    let c = change_of t s unit event in
    let jobs = jobs_left c.start c.stop_ends (jobs_of_unit s.pending unit) in
    record {
      new = new;
      state = g
          ∙ (ap (λ (x : State). record x { next = s.next + spawned c.order }) f
          ∙ ap (λ (x : State). record x { pending = with_jobs x.pending unit jobs; next = s.next + spawned c.order }) e);
      fails_so = is;
      asked = asked;
      actions = all;
      tidy_jobs = tidy_jobs;
      tidy_units = tidy_units;
    }

-- ---- no unit has more waiting jobs

unless_waits : (o : Option JobState) → waits (unless_running o) ≤ waits o
unless_waits None = omega arith
unless_waits (Some Waiting) = omega arith
unless_waits (Some Running) = omega arith

start_waits : (start : StartJob) (o : Option JobState) → waits (start_left start o) ≤ waits o
start_waits Stays o = omega arith
start_waits Ends o = unless_waits o
start_waits Fails o = unless_waits o

left_waits : (start : StartJob) (stop_ends : Bool) (j : UnitJobs) → waits_in (jobs_left start stop_ends j) ≤ waits_in j
left_waits start true j = omega (arith, unless_waits j.stop, start_waits start j.start)
left_waits start false j = omega (arith, start_waits start j.start)

pub no_more_left : (unit : List ℕ) (start : StartJob) (stop_ends : Bool) (s u v w : State) (stands : UnitState) (next : ℕ) → u ≡ record s { units = with_unit s.units unit stands }
    → v ≡ record u { pending = with_jobs u.pending unit (jobs_left start stop_ends (jobs_of_unit s.pending unit)) } → w ≡ record v { next = next } → NoMoreWait w.pending s.pending
no_more_left unit start stop_ends s u v w stands next e f g other =
    let left = jobs_left start stop_ends (jobs_of_unit s.pending unit) in
    let pending : w.pending ≡ with_jobs s.pending unit left =
    ap (λ (x : State). x.pending) g ∙ (ap (λ (x : State). x.pending) f ∙ ap (λ (x : State). with_jobs x.pending unit left) e) in
    elim (same_name other unit) as (λ _. waits_in (jobs_of_unit w.pending other) ≤ waits_in (jobs_of_unit s.pending other)) [
      | inl same ↦
          let now : waits_in (jobs_of_unit w.pending unit) ≡ waits_in left = ap waits_in (ap (λ p. jobs_of_unit p unit) pending ∙ jobs_here s.pending unit left) in
          let less = left_waits start stop_ends (jobs_of_unit s.pending unit) in
          subst (λ x. waits_in (jobs_of_unit w.pending x) ≤ waits_in (jobs_of_unit s.pending x)) (sym same) (omega arith)
      | inr apart ↦
          let now : waits_in (jobs_of_unit w.pending other) ≡ waits_in (jobs_of_unit s.pending other) = ap waits_in (ap (λ p. jobs_of_unit p other) pending ∙ jobs_apart s.pending unit left other apart) in
          omega arith
    ]

-- a job of the unit is left, or is over
unless_ends : (o : Option JobState) → (unless_running o ≡ o) ⊎ (unless_running o ≡ None)
unless_ends None = inl refl
unless_ends (Some Waiting) = inl refl
unless_ends (Some Running) = inr refl

left_ends : (start : StartJob) (stop_ends : Bool) (j : UnitJobs) → OnlyEnds j (jobs_left start stop_ends j)
left_ends start true j Stop = unless_ends j.stop
left_ends start false j Stop = inl refl
left_ends Stays stop_ends j Start = inl refl
left_ends Ends stop_ends j Start = unless_ends j.start
left_ends Fails stop_ends j Start = unless_ends j.start

pub ends_own : (unit : List ℕ) (start : StartJob) (stop_ends : Bool) (s u v w : State) (stands : UnitState) (next : ℕ) → u ≡ record s { units = with_unit s.units unit stands }
    → v ≡ record u { pending = with_jobs u.pending unit (jobs_left start stop_ends (jobs_of_unit s.pending unit)) } → w ≡ record v { next = next }
    → OnlyEnds (jobs_of_unit s.pending unit) (jobs_of_unit w.pending unit)
ends_own unit start stop_ends s u v w stands next e f g =
    let left = jobs_left start stop_ends (jobs_of_unit s.pending unit) in
    let pending : w.pending ≡ with_jobs s.pending unit left =
    ap (λ (x : State). x.pending) g ∙ (ap (λ (x : State). x.pending) f ∙ ap (λ (x : State). with_jobs x.pending unit left) e) in
    subst (OnlyEnds (jobs_of_unit s.pending unit)) (sym (ap (λ p. jobs_of_unit p unit) pending ∙ jobs_here s.pending unit left)) (left_ends start stop_ends (jobs_of_unit s.pending unit))

pub no_more_then : (u v w : State) → NoMoreWait v.pending u.pending → NoMoreWait w.pending v.pending → NoMoreWait w.pending u.pending
no_more_then u v w first later unit = omega (arith, first unit, later unit)

-- ---- the event is carried out

module _ (t : ℕ) (unit : List ℕ) (event : UnitEvent) (s v : State) (before after : List Action) (fails : Bool) (changes : ChangesTo t unit event s before fails v after) where
  abbrev c : Change
  c = change_of t s unit event

  -- if no start fails
  pub carried_alone : fails ≡ false → Adds (machine.Carries t unit event s) before v after
  carried_alone none = (
    changes.new,
    record {
      state = subst (λ x. machine.Becomes s unit c x) (sym changes.state) (alone (fails_not c.start (jobs_of_unit s.pending unit).start (sym changes.fails_so ∙ none)));
      asked = changes.asked;
    },
    changes.actions,
  )

  -- if one fails, and takes others along
  pub carried_along : (w : State) (later : List Action) → fails ≡ true → (AreTidyJobs v.pending → AreTidyUnits v.units → TakesAlong v unit w) → later ≡ after
      → Adds (machine.Carries t unit event s) before w later
  carried_along w later one takes same =
      let pending = subst (λ (x : State). AreTidyJobs x.pending) (sym changes.state) (tidy_jobs s.pending unit (jobs_left c.start c.stop_ends (jobs_of_unit s.pending unit)) changes.tidy_jobs) in
      let units = subst (λ (x : State). AreTidyUnits x.units) (sym changes.state) (tidy_units s.units unit c.unit changes.tidy_units) in (
        changes.new,
        record {
          state = along (fails_told c.start (jobs_of_unit s.pending unit).start (sym changes.fails_so ∙ one)) (subst (λ x. TakesAlong x unit w) changes.state (takes pending units));
          asked = changes.asked;
        },
        same ∙ changes.actions,
      )

-- ---- units of which the state holds something are known

pub deadline_known : (g : GraphView) (s : State) (unit : List ℕ) (deadline : ℕ) → Serves g s → (state_of_unit s.units unit).deadline ≡ Some deadline → Contains g.names unit
deadline_known g s unit deadline serves stands =
    serves.held unit (inl (λ e. none-some deadline (sym (ap (λ o. (unwrap_or o dead_unit).deadline) e) ∙ stands)))

pub process_known : (g : GraphView) (s : State) (unit : List ℕ) (number : ℕ) → Serves g s → HasNumber (state_of_unit s.units unit) number → Contains g.names unit
process_known g s unit number serves has = serves.held unit (inl (λ e. dead_has (subst (λ o. HasNumber (unwrap_or o dead_unit) number) e has)))
  where
    dead_has : HasNumber dead_unit number → ⊥
    dead_has (inl e) = none-some number e
    dead_has (inr e) = none-some number e

-- ---- the other units are as they were

pub others_kept : (unit : List ℕ) (s u v w : State) (stands : UnitState) (jobs : UnitJobs) (next : ℕ) → u ≡ record s { units = with_unit s.units unit stands }
    → v ≡ record u { pending = with_jobs u.pending unit jobs } → w ≡ record v { next = next } → KeepsOthers unit s w
others_kept unit s u v w stands jobs next e f g = record {
  jobs = λ x apart. ap (λ p. jobs_of_unit p x) pending ∙ jobs_apart s.pending unit jobs x apart;
  states = λ x apart. ap (λ p. state_of_unit p x) units ∙ state_apart s.units unit stands x apart;
}
  where
    pending : w.pending ≡ with_jobs s.pending unit jobs
    pending = ap (λ (x : State). x.pending) g ∙ (ap (λ (x : State). x.pending) f ∙ ap (λ (x : State). with_jobs x.pending unit jobs) e)

    units : w.units ≡ with_unit s.units unit stands
    units = ap (λ (x : State). x.units) g ∙ (ap (λ (x : State). x.units) f ∙ ap (λ (x : State). x.units) e)
