-- Settling and firing end: a job that begins is one fewer that waits, a timer that fires or passes one fewer that is set.
use Rattle.std.proofs.Common.{ℕ, zero, suc, ◌<◌, ◌≤◌, ◌≡◌, ◌≢◌, ◌⊎◌, ◌∙◌, ◌||◌, Bool, true, false, cond, List, [], ◌∷◌, ◌++◌, Option, Some, None, is_some, unwrap_or, refl, sym, ap, subst, inl, inr, arith}
use Rattle.std.specs.FinMap as map
use Rattle.std.specs.List.{list_any}
use Rattle.std.specs.Cmp.Lexicographic.{slice_cmp}
use Rattle.std.specs.Ordering.{nat_cmp, eq_by_cmp}
use Rattle.std.proofs.lemmas.Bool.{cases_lt}
use Rattle.std.proofs.lemmas.Map.Lookups.{exact_bytes}
use Rattle.std.proofs.lemmas.Map.Views.{tells_apart}
use Rattle.std.proofs.lemmas.Option.{none-some}
use Rattle.um_model.specs.Service.{ByUnit, active_state_of, dead_unit, state_of_unit}
use Rattle.um_model.specs.Jobs.{Job, no_jobs, stop_job, start_job, jobs_of_unit, state_of_job, ComesBefore, IsReady, IsToldBefore, by_name, stop_first, BeginsNext}
use Rattle.um_model.specs.Order.{IsCycle}
use Rattle.um_model.specs.Plan.{AreFree}
use Rattle.um_model.specs.Timers.{Timers, IsDueFirst}
use Rattle.um_model.specs.Machine.{State, begins, begun, IsBefore, IsStill, Settles, begins_next, AreReset, all_reset, reset_next, AreDeadlines, with_start_alone, Restarts, puts, isnt_put, ComesDue, restarts, Fires, FiresOne, none_due}
use Rattle.um_model.specs.declared.jobs.JobKind.{JobKind}
use Rattle.um_model.specs.declared.jobs.JobKind.TheVariants.{Stop, Start}
use Rattle.um_model.specs.declared.jobs.JobState.TheVariants.{Waiting}
use Rattle.um_model.specs.declared.jobs.UnitJobs.{UnitJobs}
use Rattle.um_model.specs.declared.service.ActiveState.{ActiveState}
use Rattle.um_model.specs.declared.service.ActiveState.TheVariants.{Inactive, Activating, Active, Deactivating, Failed}
use Rattle.um_model.specs.declared.service.SubState.{SubState}
use Rattle.um_model.specs.declared.service.SubState.TheVariants.{AutoRestart}
use Rattle.um_model.specs.declared.service.UnitState.{UnitState}
use Rattle.um_model.specs.declared.transition.UnitEvent.TheVariants.{DeadlinePasses, Reset}
use Rattle.um_laws.proofs.AlongLaws.{before_or_not}
use Rattle.um_laws.proofs.AmongLaws.{any_decided, both_decided, decided_as, not_decided}
use Rattle.um_laws.proofs.CycleLaws.{among_pending, comes_or_not, jobs_cycle_or_none, jobs_of}
use Rattle.um_laws.proofs.DeadlinesLaws.{with_deadline, get_with, or_else}
use Rattle.um_laws.proofs.FallTotal.{HasOutcome, a_happening}
use Rattle.um_model.proofs.LeastLaws.{IsDecided, a_least}
use Rattle.um_laws.proofs.MachineLaws.{same_job}
use Rattle.um_model.proofs.SameUnits.{same_job_state, same_jobs}
use Rattle.um_model.proofs.TimersLaws.{same_name, same_number, same_option, one_named_first, named_trans, first_timer, first_is_late, fewer_timers}
use Rattle.um_laws.proofs.WaitingLaws.{waiting, begun_fewer, begun_no_more}
use Rattle.um_model.specs.Waiting.{NoMoreWait}

-- ---- a job is ready or not

-- no pending job comes before the job
abbrev IsFree : State → Job → Type 0
IsFree s job = (other : Job) → ¬ (ComesBefore (IsBefore s.loaded) s.pending other job)

free_or_not : (s : State) (job : Job) → IsDecided (IsFree s job)
free_or_not s job =
    decided_as (λ none other comes. none (other, among_pending s.pending other comes.pends, comes)) (λ free any. free any.0 any.2)
    (not_decided (any_decided (λ other. ComesBefore (IsBefore s.loaded) s.pending other job)
    (λ other. comes_or_not (IsBefore s.loaded) (before_or_not s.loaded) s.pending other job) (jobs_of (map.keys s.pending))))

-- a start doesn't find its unit deactivating
abbrev IsUndisturbed : JobKind → ActiveState → Type 0
IsUndisturbed kind state = kind ≡ Start → state ≢ Deactivating

undisturbed_or_not : (kind : JobKind) (state : ActiveState) → IsDecided (IsUndisturbed kind state)
undisturbed_or_not Stop state = inl (λ e. cc)
undisturbed_or_not Start Inactive = inl (λ _ e. cc)
undisturbed_or_not Start Activating = inl (λ _ e. cc)
undisturbed_or_not Start Active = inl (λ _ e. cc)
undisturbed_or_not Start Deactivating = inr (λ still. still refl refl)
undisturbed_or_not Start Failed = inl (λ _ e. cc)

-- a job is ready or not
pub ready_or_not : (s : State) (job : Job) → IsDecided (IsReady (IsBefore s.loaded) s.units s.pending job)
ready_or_not s job =
    decided_as (λ h. record { waits = h.0; free = h.1.0; still = h.1.1 }) (λ ready. (ready.waits, (ready.free, ready.still)))
    (both_decided (same_option same_job_state (state_of_job s.pending job) (Some Waiting))
    (both_decided (free_or_not s job) (undisturbed_or_not job.kind (active_state_of (state_of_unit s.units job.unit).sub))))

-- ---- the job that begins next

told_trans : (a b c : Job) → IsToldBefore a b → IsToldBefore b c → IsToldBefore a c
told_trans a b c (by_name l) (by_name m) = by_name (named_trans a.unit b.unit c.unit l m)
told_trans a b c (by_name l) stop_first = by_name l
told_trans a b c stop_first (by_name m) = by_name m

stop_told : (a b : Job) → a.unit ≡ b.unit → a.kind ≡ Stop → b.kind ≡ Start → IsToldBefore a b
stop_told a b same stop start =
    let here : stop_job b.unit ≡ a = λ i. record { unit = sym same i; kind = sym stop i } in
    let there : start_job b.unit ≡ b = λ i. record { unit = b.unit; kind = sym start i } in
    subst (λ j. IsToldBefore j b) here (subst (IsToldBefore (stop_job b.unit)) there stop_first)

told_first : (a b : Job) → a ≢ b → IsToldBefore a b ⊎ IsToldBefore b a
told_first a b apart = elim (same_name a.unit b.unit) as (λ _. IsToldBefore a b ⊎ IsToldBefore b a) [
  | inl same ↦ of_unit a.kind b.kind refl refl same
  | inr other ↦ elim (one_named_first a.unit b.unit other) as (λ _. IsToldBefore a b ⊎ IsToldBefore b a) [
    | inl less ↦ inl (by_name less)
    | inr more ↦ inr (by_name more)
  ]
]
  where
    of_unit : (k l : JobKind) → a.kind ≡ k → b.kind ≡ l → a.unit ≡ b.unit → IsToldBefore a b ⊎ IsToldBefore b a
    of_unit Stop Stop e f same = absurd (apart (λ i. record { unit = same i; kind = (e ∙ sym f) i }))
    of_unit Start Start e f same = absurd (apart (λ i. record { unit = same i; kind = (e ∙ sym f) i }))
    of_unit Stop Start e f same = inl (stop_told a b same e f)
    of_unit Start Stop e f same = inr (stop_told b a (sym same) f e)

-- no job is ready, or one begins next
pub still_or_next : (s : State) → IsStill s ⊎ ((j : Job) × BeginsNext (IsBefore s.loaded) s.units s.pending j)
still_or_next s =
    a_least IsToldBefore (IsReady (IsBefore s.loaded) s.units s.pending) same_job told_trans told_first (ready_or_not s) (jobs_of (map.keys s.pending))
    (λ j ready. among_pending s.pending j (λ none. none-some Waiting (sym none ∙ ready.waits)))

-- ---- settling ends

-- a job begins, and then the others
settles_by : (t : ℕ) (first : ByUnit UnitJobs) (s : State) → NoMoreWait s.pending first
    → ((u : State) → NoMoreWait u.pending first → waiting (map.keys first) u.pending < waiting (map.keys first) s.pending → HasOutcome (Settles t u))
    → (j : Job) → BeginsNext (IsBefore s.loaded) s.units s.pending j → HasOutcome (Settles t s)
settles_by t first s none later j next =
    let now = a_happening t j.unit (begins j.kind) (begun s j) in
    let no_more = begun_no_more t s now.1 now.0 j next now.2 in
    let more = later now.1 (λ unit. let a = no_more unit in let b = none unit in omega arith) (begun_fewer t s now.1 now.0 j next now.2 first none) in
    (now.0 ++ more.0, more.1, begins_next j next now.2 more.2)

-- either no job is ready or one begins
settles_or : (t : ℕ) (first : ByUnit UnitJobs) (s : State) → NoMoreWait s.pending first
    → ((u : State) → NoMoreWait u.pending first → waiting (map.keys first) u.pending < waiting (map.keys first) s.pending → HasOutcome (Settles t u))
    → HasOutcome (Settles t s)
settles_or t first s none later = elim (still_or_next s) as (λ _. HasOutcome (Settles t s)) [
  | inl still ↦ ([], s, Settles.rests still)
  | inr found ↦ settles_by t first s none later found.0 found.1
]

settles_within : (n t : ℕ) (first : ByUnit UnitJobs) (s : State) → NoMoreWait s.pending first → waiting (map.keys first) s.pending ≤ n → HasOutcome (Settles t s)
settles_within zero t first s none few = settles_or t first s none (λ u no_more less. absurd (omega arith))
settles_within (suc n) t first s none few = settles_or t first s none (λ u no_more less. settles_within n t first u no_more (omega arith))

-- jobs begin, until none is ready
pub a_settling : (t : ℕ) (s : State) → HasOutcome (Settles t s)
a_settling t s = settles_within (waiting (map.keys s.pending) s.pending) t s.pending s (λ unit. omega arith) (omega arith)

-- ---- firing ends

-- a start of the unit is put, or none is
a_restart : (s : State) (unit : List ℕ) → (u : State) × Restarts s unit u
a_restart s unit = by_jobs (same_jobs (jobs_of_unit s.pending unit) no_jobs)
  where
    by_circle : jobs_of_unit s.pending unit ≡ no_jobs
        → ((cycle : List Job) × IsCycle (ComesBefore (IsBefore s.loaded) (with_start_alone s unit).pending) cycle) ⊎ AreFree (IsBefore s.loaded) (with_start_alone s unit).pending
        → (u : State) × Restarts s unit u
    by_circle none (inl (cycle, closed)) = (s, isnt_put (λ may. may.1 cycle closed))
    by_circle none (inr free) = (with_start_alone s unit, puts none free)

    by_jobs : IsDecided (jobs_of_unit s.pending unit ≡ no_jobs) → (u : State) × Restarts s unit u
    by_jobs (inl none) = by_circle none (jobs_cycle_or_none (IsBefore s.loaded) (before_or_not s.loaded) (with_start_alone s unit).pending)
    by_jobs (inr some) = (s, isnt_put (λ may. some may.0))

waits_or_not : (sub : SubState) → IsDecided (sub ≡ AutoRestart)
waits_or_not AutoRestart = inl refl
waits_or_not _ = inr (λ e. cc)

-- a deadline that is due is carried out
a_due : (t : ℕ) (s : State) (unit : List ℕ) → HasOutcome (ComesDue t s unit)
a_due t s unit = by_test (waits_or_not (state_of_unit s.units unit).sub)
  where
    by_test : IsDecided ((state_of_unit s.units unit).sub ≡ AutoRestart) → HasOutcome (ComesDue t s unit)
    by_test (inl is) =
        let now = a_restart s unit in
        ([], now.0, restarts is now.1)
    by_test (inr isnt) =
        let now = a_happening t unit DeadlinePasses s in
        (now.0, now.1, ComesDue.passes isnt now.2)

-- a timer that is due fires, or has changed by now, and then the others
fires_by : (t : ℕ) (timers : Timers) (s : State) → ((later : Timers) (u : State) → map.len later < map.len timers → HasOutcome (Fires t later u))
    → (deadline : ℕ) (unit : List ℕ) → IsDueFirst timers deadline unit → deadline ≤ t → HasOutcome (Fires t timers s)
fires_by t timers s later deadline unit due low = elim (same_option same_number (state_of_unit s.units unit).deadline (Some deadline)) as (λ _. HasOutcome (Fires t timers s)) [
  | inl stands ↦
      let now = a_due t s unit in
      let next = a_settling t now.1 in
      let more = later (map.remove timers unit) next.1 fewer in
      ((now.0 ++ next.0) ++ more.0, more.1, Fires.fires_next deadline unit due low (FiresOne.fires stands now.2 next.2) more.2)
  | inr gone ↦
      let more = later (map.remove timers unit) s fewer in
      (more.0, more.1, Fires.fires_next deadline unit due low (FiresOne.is_gone gone) more.2)
]
  where
    fewer : map.len (map.remove timers unit) < map.len timers
    fewer = fewer_timers timers (map.remove timers unit) deadline unit refl due.has

-- either no timer is due or one fires
fires_or : (t : ℕ) (timers : Timers) (s : State) → ((later : Timers) (u : State) → map.len later < map.len timers → HasOutcome (Fires t later u)) → HasOutcome (Fires t timers s)
fires_or t timers s later = elim (first_timer timers) as (λ _. HasOutcome (Fires t timers s)) [
  | inl none ↦ ([], s, none_due (λ deadline unit at. absurd (none (deadline, unit) at)))
  | inr found ↦ elim (cases_lt t found.0.0) as (λ _. HasOutcome (Fires t timers s)) [
    | inl late ↦ ([], s, none_due (first_is_late t timers found.0.0 found.0.1 found.1 late))
    | inr low ↦ fires_by t timers s later found.0.0 found.0.1 found.1 low
  ]
]

fires_within : (n t : ℕ) (timers : Timers) (s : State) → map.len timers ≤ n → HasOutcome (Fires t timers s)
fires_within zero t timers s few = fires_or t timers s (λ later u less. absurd (omega arith))
fires_within (suc n) t timers s few = fires_or t timers s (λ later u less. fires_within n t later u (omega arith))

-- of the timers those that are due fire
pub a_firing : (t : ℕ) (timers : Timers) (s : State) → HasOutcome (Fires t timers s)
a_firing t timers s = fires_within (map.len timers) t timers s (omega arith)

-- ---- failures are forgotten

-- of these units, one after another
pub a_reset : (t : ℕ) (units : List (List ℕ)) (s : State) → HasOutcome (AreReset t units s)
a_reset t [] s = ([], s, all_reset)
a_reset t (unit ∷ units) s =
    let now = a_happening t unit Reset s in
    let more = a_reset t units now.1 in
    (now.0 ++ more.0, more.1, reset_next now.2 more.2)

-- ---- the deadlines of units are a map

-- the deadlines of these units
abbrev collected : ByUnit UnitState → List (List ℕ) → Timers
collected units [] = map.empty
collected units (unit ∷ others) = with_deadline (collected units others) unit (state_of_unit units unit).deadline

either_way : (b : Bool) (o : Option ℕ) → cond b o o ≡ o
either_way true o = refl
either_way false o = refl

one_more : (b c : Bool) (here there : Option ℕ) → (b ≡ true → here ≡ there) → cond b (or_else here (cond c there None)) (cond c there None) ≡ cond (b || c) there None
one_more false c here there same = refl
one_more true c here None same = ap (λ o. or_else o (cond c None None)) (same refl) ∙ either_way c None
one_more true c here (Some d) same = ap (λ o. or_else o (cond c (Some d) None)) (same refl)

get-collected : (units : ByUnit UnitState) (names : List (List ℕ)) (unit : List ℕ)
    → map.get (collected units names) unit ≡ cond (list_any (eq_by_cmp (slice_cmp nat_cmp) unit) names) (state_of_unit units unit).deadline None
get-collected units [] unit = map.get-empty (slice_cmp nat_cmp) unit
get-collected units (name ∷ names) unit =
    get_with (collected units names) name unit (state_of_unit units name).deadline
    ∙ (ap (λ o. cond (eq_by_cmp (slice_cmp nat_cmp) unit name) (or_else (state_of_unit units name).deadline o) o) (get-collected units names unit)
    ∙ one_more (eq_by_cmp (slice_cmp nat_cmp) unit name) (list_any (eq_by_cmp (slice_cmp nat_cmp) unit) names) (state_of_unit units name).deadline (state_of_unit units unit).deadline
    (λ e. ap (λ n. (state_of_unit units n).deadline) (sym (tells_apart exact_bytes unit name e))))

-- a unit that isn't held has no deadline
held_alone : (o : Option UnitState) → cond (is_some o) (unwrap_or o dead_unit).deadline None ≡ (unwrap_or o dead_unit).deadline
held_alone None = refl
held_alone (Some u) = refl

pub a_deadline_map : (units : ByUnit UnitState) → (timers : Timers) × AreDeadlines units timers
a_deadline_map units = (
  collected units (map.keys units),
  λ unit.
      get-collected units (map.keys units) unit
      ∙ (ap (λ b. cond b (state_of_unit units unit).deadline None) (sym (map.contains_key-keys units unit)) ∙ held_alone (map.get units unit)),
)
