-- No more units are known than may be: a plan or another tree makes more known, and both are refused if these would be too many.
use Rattle.std.proofs.Common.{ℕ, ◌≡◌, ◌≢◌, ◌⊎◌, ◌∙◌, Bool, true, false, true≢false, cond, is_some, List, [], ◌∷◌, ◌++◌, length, Option, Some, None, unwrap_or, refl, sym, ap, subst, inl, inr, arith}
use Rattle.std.proofs.lemmas.Option.{none-some}
use Rattle.std.specs.Cmp.Lexicographic.{slice_cmp, nat_list_cmp_total}
use Rattle.std.specs.FinMap as map
use Rattle.std.specs.List.{list_any}
use Rattle.std.specs.Ordering.{nat_cmp, eq_by_cmp}
use Rattle.um_model.specs.Profiles.{ReadTree, read_by, lasting_tree}
use Rattle.um_model.specs.declared.profile.Profile.{Profile}
use Rattle.um_model.specs.Dependencies as model
use Rattle.um_model.specs.Dependencies.{Links, IsNamed, KnowsTooMany, extra}
use Rattle.um_model.specs.Jobs.{Job, job_of, jobs, no_jobs, jobs_of_unit, has_job, with_jobs, cancelled, IsPending, jobs_left, state_of_job}
use Rattle.um_model.specs.Machine.{State, empty_of, Command, Happening, Event, Input, Reply, IsHeld, IsCrowded, by_jobs, settings_in, around, changed, IsTakenAlong, TakesAlong, Becomes, Carries, change_of, FallDown, all_told, told_next, Happens, begins, begun, Settles, Refuses, Changes, AreReset, all_reset, reset_next, units_reset, Does, with_plan, unit_asked, with_start_alone, Restarts, isnt_put, ComesDue, Fires, FiresOne, IsProcessOf, booted, Follows, TakesEffect, end_of, moment_of, Step, Run}
use Rattle.um_model.specs.Reached.{first, next}
use Rattle.um_model.specs.Refusals.{Refused, at_first, at_second}
use Rattle.um_model.specs.Resolution.{unit_path}
use Rattle.um_model.specs.Servable.{IsBlank, IsFew}
use Rattle.um_model.specs.Service.{Action, ByUnit, dead_unit, holds_nothing, state_of_unit, with_unit}
use Rattle.um_model.specs.Settings.{ServiceSettings}
use Rattle.um_model.specs.Timers.{Timers}
use Rattle.um_model.specs.Transitions.{transition}
use Rattle.um_model.specs.Tree.{Entry, Link, is_volatile, without_run}
use Rattle.um_model.specs.declared.dependencies.DependencyKind.{DependencyKind}
use Rattle.um_model.specs.declared.jobs.JobKind.{JobKind}
use Rattle.um_model.specs.declared.jobs.JobKind.TheVariants as job
use Rattle.um_model.specs.declared.jobs.JobState.TheVariants.{Waiting, Running}
use Rattle.um_model.specs.declared.jobs.UnitJobs.{UnitJobs}
use Rattle.um_model.specs.declared.service.UnitState.{UnitState}
use Rattle.um_model.specs.declared.transition.Around.{Around}
use Rattle.um_model.specs.declared.transition.Change.{Change}
use Rattle.um_model.specs.declared.transition.StartJob.{StartJob}
use Rattle.um_model.specs.declared.transition.StartJob.TheVariants.{Stays, Ends, Fails}
use Rattle.um_model.specs.declared.transition.UnitEvent.{UnitEvent}
use Rattle.um_model.specs.declared.transition.UnitEvent.TheVariants.{StartBegins, StopBegins, BoundStop, Executed, MainEnds, ControlEnds, DeadlinePasses, Reset}
use Rattle.um_laws.proofs.CycleLaws.{held}
use Rattle.um_laws.proofs.DemandsLaws.{reached_in}
use Rattle.um_laws.proofs.GivesLaws.{link_there}
use Rattle.um_laws.proofs.KnownLaws.{more_known}
use Rattle.um_model.proofs.LeastLaws.{IsDecided}
use Rattle.um_laws.proofs.ScanLaws.{held_with_number}
use Rattle.um_laws.proofs.SceneLaws.{held_or_not}
use Rattle.um_model.proofs.TimersLaws.{same_name}
use Rattle.um_model.proofs.TreeLaws.{without_run_same, without_run_twice}
use Rattle.um_model.proofs.UnitLaws.{jobs_here, unlike}
use Rattle.um_model.proofs.Forms.{with_running}
use Rattle.um_model.specs.Live.{HoldsNoMore}

-- ---- the values that maps hold of a unit

none_left : {A : Type 0} (b : Bool) (o : Option A) → o ≡ None → cond b None o ≡ None
none_left true o none = refl
none_left false o none = none

-- of a name under which nothing is held nothing is held after a value is put under another, or taken out
module _ {A : Type 0} (m : ByUnit A) (unit : List ℕ) (a : A) (x : List ℕ) (none : map.get m x ≡ None) where
  removed_none : map.get (map.remove m unit) x ≡ None
  removed_none = map.get-remove nat_list_cmp_total m unit x ∙ none_left (eq_by_cmp (slice_cmp nat_cmp) x unit) (map.get m x) none

  inserted_none : x ≢ unit → map.get (map.insert m unit a) x ≡ None
  inserted_none apart = map.get-insert nat_list_cmp_total m unit a x ∙ (ap (λ b. cond b (Some a) (map.get m x)) (unlike x unit apart) ∙ none)

-- so with the jobs of a unit, unless they are its own
pub with_none : (pending : ByUnit UnitJobs) (unit : List ℕ) (j : UnitJobs) (x : List ℕ) → map.get pending x ≡ None → (x ≡ unit → has_job j ≡ false)
    → map.get (with_jobs pending unit j) x ≡ None
with_none pending unit j x none own = elim (same_name x unit) as (λ _. map.get (with_jobs pending unit j) x ≡ None) [
  | inl is ↦ ap (λ b. map.get (cond b (map.insert pending unit j) (map.remove pending unit)) x) (own is) ∙ removed_none pending unit j x none
  | inr apart ↦ put_none (has_job j) apart
]
  where
    put_none : (b : Bool) → x ≢ unit → map.get (cond b (map.insert pending unit j) (map.remove pending unit)) x ≡ None
    put_none true apart = inserted_none pending unit j x none apart
    put_none false apart = removed_none pending unit j x none

-- and with the state of another
unit_none : (units : ByUnit UnitState) (unit : List ℕ) (u : UnitState) (x : List ℕ) → map.get units x ≡ None → x ≢ unit → map.get (with_unit units unit u) x ≡ None
unit_none units unit u x none apart = by_test (holds_nothing u)
  where
    by_test : (b : Bool) → map.get (cond b (map.remove units unit) (map.insert units unit u)) x ≡ None
    by_test true = removed_none units unit u x none
    by_test false = inserted_none units unit u x none apart

pub none_there : {A : Type 0} (o : Option A) → ¬ (o ≢ None) → o ≡ None
none_there None h = refl
none_there (Some a) h = absurd (h (λ none. none-some a (sym none)))

-- a tidy map holds no entry for a name whose value is the empty one
none_told : {A : Type 0} (nothing : A) (o : Option A) → o ≢ Some nothing → unwrap_or o nothing ≡ nothing → o ≡ None
none_told nothing None tidy told = refl
none_told nothing (Some a) tidy told = absurd (tidy (ap Some told))

there : {A : Type 0} (o : Option A) → is_some o ≡ true → o ≢ None
there o is none = true≢false (sym is ∙ ap is_some none)

-- ---- why the state holds something of a unit

-- one of its jobs waits
waiting_held : (s : State) (j : Job) → state_of_job s.pending j ≡ Some Waiting → IsHeld s j.unit
waiting_held s j waits = inr (there (map.get s.pending j.unit) (held s.pending j (λ none. none-some Waiting (sym none ∙ waits))))

-- it has a deadline
deadline_held : (s : State) (unit : List ℕ) (deadline : ℕ) → (state_of_unit s.units unit).deadline ≡ Some deadline → IsHeld s unit
deadline_held s unit deadline is = inl (λ none. none-some deadline (sym (ap (λ o. (unwrap_or o dead_unit).deadline) none) ∙ is))

-- ---- events of units make the state hold nothing new

pub same_no_more : (s : State) → HoldsNoMore s s
same_no_more s = record { loaded = refl; held = λ unit is. is }

pub no_more_trans : (s u v : State) → HoldsNoMore s u → HoldsNoMore u v → HoldsNoMore s v
no_more_trans s u v f g = record { loaded = g.loaded ∙ f.loaded; held = λ x is. f.held x (g.held x is) }

-- of a unit without jobs none is left
none_of_none : (start : StartJob) (stop_ends : Bool) → has_job (jobs_left start stop_ends no_jobs) ≡ false
none_of_none Stays true = refl
none_of_none Stays false = refl
none_of_none Ends true = refl
none_of_none Ends false = refl
none_of_none Fails true = refl
none_of_none Fails false = refl

-- a dead unit of which nothing is held stays so, whatever happens to it but that its start begins
stays_dead : (settings : ServiceSettings) (c : Around) (event : UnitEvent) → event ≢ StartBegins → (transition settings c dead_unit event).unit ≡ dead_unit
stays_dead settings c StartBegins isnt = absurd (isnt refl)
stays_dead settings c StopBegins isnt = refl
stays_dead settings c BoundStop isnt = refl
stays_dead settings c Executed isnt = refl
stays_dead settings c (MainEnds e) isnt = refl
stays_dead settings c (ControlEnds e) isnt = refl
stays_dead settings c DeadlinePasses isnt = refl
stays_dead settings c Reset isnt = refl

-- the changes of a unit that is held
changed_no_more : (s : State) (unit : List ℕ) (c : Change) → IsHeld s unit → HoldsNoMore s (changed s unit c)
changed_no_more s unit c is = record { loaded = refl; held = by_unit }
  where
    of_other : (x : List ℕ) → x ≢ unit → IsHeld (changed s unit c) x → IsHeld s x
    of_other x apart (inl h) = inl (λ none. h (unit_none s.units unit c.unit x none apart))
    of_other x apart (inr h) = inr (λ none. h (with_none s.pending unit _ x none (λ is. absurd (apart is))))

    by_unit : (x : List ℕ) → IsHeld (changed s unit c) x → IsHeld s x
    by_unit x h = elim (same_name x unit) as (λ _. IsHeld s x) [
      | inl same ↦ subst (IsHeld s) (sym same) is
      | inr apart ↦ of_other x apart h
    ]

-- or of one that stays dead
changed_dead : (s : State) (unit : List ℕ) (c : Change) → map.get s.pending unit ≡ None → c.unit ≡ dead_unit → HoldsNoMore s (changed s unit c)
changed_dead s unit c no_job dead = record { loaded = refl; held = by_unit }
  where
    no_state : (x : List ℕ) → map.get s.units x ≡ None → map.get (with_unit s.units unit c.unit) x ≡ None
    no_state x none = subst (λ u. map.get (with_unit s.units unit u) x ≡ None) (sym dead) (removed_none s.units unit dead_unit x none)

    no_jobs_left : has_job (jobs_left c.start c.stop_ends (jobs_of_unit s.pending unit)) ≡ false
    no_jobs_left = ap (λ o. has_job (jobs_left c.start c.stop_ends (unwrap_or o no_jobs))) no_job ∙ none_of_none c.start c.stop_ends

    by_unit : (x : List ℕ) → IsHeld (changed s unit c) x → IsHeld s x
    by_unit x (inl h) = inl (λ none. h (no_state x none))
    by_unit x (inr h) = inr (λ none. h (with_none s.pending unit _ x none (λ same. no_jobs_left)))

-- its job that begins
begun_no_more : (s : State) (j : Job) → IsHeld s j.unit → HoldsNoMore s (begun s j)
begun_no_more s j is = record { loaded = refl; held = by_unit }
  where
    of_other : (x : List ℕ) → x ≢ j.unit → IsHeld (begun s j) x → IsHeld s x
    of_other x apart (inl h) = inl h
    of_other x apart (inr h) = inr (λ none. h (with_none s.pending j.unit _ x none (λ is. absurd (apart is))))

    by_unit : (x : List ℕ) → IsHeld (begun s j) x → IsHeld s x
    by_unit x h = elim (same_name x j.unit) as (λ _. IsHeld s x) [
      | inl same ↦ subst (IsHeld s) (sym same) is
      | inr apart ↦ of_other x apart h
    ]

-- the unit of a job that begins is held with the job running
begun_held : (s : State) (j : Job) → IsHeld (begun s j) j.unit
begun_held s j = inr (there (map.get (begun s j).pending j.unit) (held (begun s j).pending j runs))
  where
    running_is : (kind : JobKind) (k : UnitJobs) → job_of kind (with_running kind k) ≡ Some Running
    running_is job.Start k = refl
    running_is job.Stop k = refl

    runs : IsPending (begun s j).pending j
    runs none = none-some Running
        (sym none ∙ (ap (job_of j.kind) (jobs_here s.pending j.unit (with_running j.kind (jobs_of_unit s.pending j.unit))) ∙ running_is j.kind (jobs_of_unit s.pending j.unit)))

-- the starts that a failed start takes along
along_no_more : (s : State) (failed : List ℕ) (v : State) → TakesAlong s failed v → HoldsNoMore s v
along_no_more s failed v a = record { loaded = ap (λ (x : State). x.loaded) a.rest; held = by_unit }
  where
    waits_along : (x : List ℕ) → IsTakenAlong s failed x → (jobs_of_unit s.pending x).start ≡ Some Waiting
    waits_along x (first needs) = needs.waits
    waits_along x (next more needs) = needs.waits

    none_new : (x : List ℕ) → map.get s.units x ≡ None → map.get s.pending x ≡ None → ¬ IsHeld v x
    none_new x no_state no_job = by_part
      where
        isnt : ¬ IsTakenAlong s failed x
        isnt along = none-some Waiting (sym (ap (λ o. (unwrap_or o no_jobs).start) no_job) ∙ waits_along x along)

        by_part : ¬ IsHeld v x
        by_part (inl h) = h (none_told dead_unit (map.get v.units x) (a.tidy_units x) (a.other_units x isnt ∙ ap (λ o. unwrap_or o dead_unit) no_state))
        by_part (inr h) = h (none_told no_jobs (map.get v.pending x) (a.tidy_jobs x) (a.other_jobs x isnt ∙ ap (λ o. unwrap_or o no_jobs) no_job))

    by_unit : (x : List ℕ) → IsHeld v x → IsHeld s x
    by_unit x h = elim (held_or_not s x) as (λ _. IsHeld s x) [
      | inl is ↦ is
      | inr isnt ↦ absurd (none_new x (none_there (map.get s.units x) (λ is. isnt (inl is))) (none_there (map.get s.pending x) (λ is. isnt (inr is))) h)
    ]

becomes_no_more : (s : State) (unit : List ℕ) (c : Change) (v : State) → HoldsNoMore s (changed s unit c) → Becomes s unit c v → HoldsNoMore s v
becomes_no_more s unit c v less (Becomes.alone isnt) = less
becomes_no_more s unit c v less (Becomes.along fails a) = no_more_trans s (changed s unit c) v less (along_no_more (changed s unit c) unit v a)

-- the unit is held, or the event isn't the beginning of its start
abbrev MayHappen : State → List ℕ → UnitEvent → Type 0
MayHappen s unit event = IsHeld s unit ⊎ (event ≢ StartBegins)

carried_no_more : (t : ℕ) (unit : List ℕ) (event : UnitEvent) (s : State) (actions : List Action) (v : State) → MayHappen s unit event → Carries t unit event s actions v
    → HoldsNoMore s v
carried_no_more t unit event s actions v may h = becomes_no_more s unit (change_of t s unit event) v (by_held (held_or_not s unit) may) h.state
  where
    by_held : IsDecided (IsHeld s unit) → MayHappen s unit event → HoldsNoMore s (changed s unit (change_of t s unit event))
    by_held (inl is) may = changed_no_more s unit (change_of t s unit event) is
    by_held (inr isnt) (inl is) = absurd (isnt is)
    by_held (inr isnt) (inr other) =
        let no_state = none_there (map.get s.units unit) (λ is. isnt (inl is)) in
        changed_dead s unit (change_of t s unit event) (none_there (map.get s.pending unit) (λ is. isnt (inr is)))
        (ap (λ o. (transition (settings_in s.loaded unit) (around t s unit) (unwrap_or o dead_unit) event).unit) no_state
        ∙ stays_dead (settings_in s.loaded unit) (around t s unit) event other)

bound_apart : BoundStop ≡ StartBegins → ⊥
bound_apart e = cc

-- and with all units that fall with it
falls_no_more : (t : ℕ) (units : List (List ℕ)) (s : State) (actions : List Action) (v : State) → FallDown t units s actions v → HoldsNoMore s v
falls_no_more t units s actions v all_told = same_no_more s
falls_no_more t (unit ∷ units) s actions v (told_next {falling = falling} {u = u} {first = x} {more = y} h among k) =
    no_more_trans s u v (carried_no_more t unit BoundStop s x u (inr bound_apart) h) (falls_no_more t (falling ++ units) u y v k)

happens_no_more : (t : ℕ) (unit : List ℕ) (event : UnitEvent) (s : State) (actions : List Action) (v : State) → MayHappen s unit event → Happens t unit event s actions v
    → HoldsNoMore s v
happens_no_more t unit event s actions v may (Happens.happens {falling = falling} {u = u} {first = x} {more = y} h among k) =
    no_more_trans s u v (carried_no_more t unit event s x u may h) (falls_no_more t falling u y v k)

reset_apart : Reset ≡ StartBegins → ⊥
reset_apart e = cc

pub resets_no_more : (t : ℕ) (units : List (List ℕ)) (s : State) (actions : List Action) (v : State) → AreReset t units s actions v → HoldsNoMore s v
resets_no_more t units s actions v all_reset = same_no_more s
resets_no_more t (unit ∷ units) s actions v (reset_next {u = u} {first = x} {more = y} h k) =
    no_more_trans s u v (happens_no_more t unit Reset s x u (inr reset_apart) h) (resets_no_more t units u y v k)

pub settles_no_more : (t : ℕ) (s : State) (actions : List Action) (v : State) → Settles t s actions v → HoldsNoMore s v
settles_no_more t s actions v (Settles.rests none) = same_no_more s
settles_no_more t s actions v (Settles.begins_next {u = u} {first = x} {more = y} j n h k) =
    no_more_trans s u v
    (no_more_trans s (begun s j) u (begun_no_more s j (waiting_held s j n.has.waits)) (happens_no_more t j.unit (begins j.kind) (begun s j) x u (inl (begun_held s j)) h))
    (settles_no_more t u y v k)

-- an event of a unit, and the jobs that begin by it
pub happened_no_more : (t : ℕ) (unit : List ℕ) (event : UnitEvent) (s : State) (early late : List Action) (u v : State) → MayHappen s unit event
    → Happens t unit event s early u → Settles t u late v → HoldsNoMore s v
happened_no_more t unit event s early late u v may h k = no_more_trans s u v (happens_no_more t unit event s early u may h) (settles_no_more t u late v k)

-- a start that is put for a unit that is held
restarts_no_more : (s : State) (unit : List ℕ) (v : State) → IsHeld s unit → Restarts s unit v → HoldsNoMore s v
restarts_no_more s unit v is (isnt_put why) = same_no_more s
restarts_no_more s unit v is (Restarts.puts none free) = record { loaded = refl; held = by_unit }
  where
    of_other : (x : List ℕ) → x ≢ unit → IsHeld (with_start_alone s unit) x → IsHeld s x
    of_other x apart (inl h) = inl h
    of_other x apart (inr h) = inr (λ none. h (with_none s.pending unit (jobs None (Some Waiting)) x none (λ is. absurd (apart is))))

    by_unit : (x : List ℕ) → IsHeld (with_start_alone s unit) x → IsHeld s x
    by_unit x h = elim (same_name x unit) as (λ _. IsHeld s x) [
      | inl same ↦ subst (IsHeld s) (sym same) is
      | inr apart ↦ of_other x apart h
    ]

due_no_more : (t : ℕ) (s : State) (unit : List ℕ) (actions : List Action) (v : State) → IsHeld s unit → ComesDue t s unit actions v → HoldsNoMore s v
due_no_more t s unit actions v is (ComesDue.restarts awaits again) = restarts_no_more s unit v is again
due_no_more t s unit actions v is (ComesDue.passes isnt h) = happens_no_more t unit DeadlinePasses s actions v (inl is) h

pub fires_no_more : (t : ℕ) (timers : Timers) (s : State) (actions : List Action) (v : State) → Fires t timers s actions v → HoldsNoMore s v
fires_no_more t timers s actions v (Fires.none_due none) = same_no_more s
fires_no_more t timers s actions v (Fires.fires_next {more = z} d n least due (FiresOne.fires {u = u} {v = p} {first = x} {next = y} is h k) l) =
    no_more_trans s u v (due_no_more t s n x u (deadline_held s n d is) h)
    (no_more_trans u p v (settles_no_more t u y p k) (fires_no_more t (map.remove timers n) p z v l))
fires_no_more t timers s actions v (Fires.fires_next {more = z} d n least due (FiresOne.is_gone isnt) l) = fires_no_more t (map.remove timers n) s z v l

-- the unit of a live process is held
pub number_held : (s : State) (number : ℕ) (unit : List ℕ) → IsProcessOf s.units number unit → IsHeld s unit
number_held s number unit is = inl (there (map.get s.units unit) (held_with_number s.units unit number is.has))

-- without the waiting jobs of a unit nothing new is held
pub cancel_no_more : (s : State) (unit : List ℕ) → HoldsNoMore s (with_plan s unit (cancelled (jobs_of_unit s.pending unit)))
cancel_no_more s unit = record { loaded = refl; held = still }
  where
    still : (x : List ℕ) → IsHeld (with_plan s unit (cancelled (jobs_of_unit s.pending unit))) x → IsHeld s x
    still x (inl h) = inl h
    still x (inr h) =
        inr
        (λ none. h
        (with_none s.pending unit (cancelled (jobs_of_unit s.pending unit)) x none (λ is.
        ap (λ o. has_job (cancelled (unwrap_or o no_jobs))) (subst (λ y. map.get s.pending y ≡ None) is none))))

-- ---- no more units are known than may be

-- if no more is held, no more is known
pub no_more_few : (s u : State) → HoldsNoMore s u → IsFew s → IsFew u
no_more_few s u less few r crowded = few r (fewer (subst (λ tree. IsCrowded tree (IsHeld u) r) less.loaded crowded))
  where
    many : (tree : ReadTree) → KnowsTooMany tree (IsHeld u) → KnowsTooMany tree (IsHeld s)
    many tree = more_known tree (IsHeld u) (IsHeld s) (λ x is. first (extra (less.held x is)))

    by_tree : KnowsTooMany s.loaded (IsHeld u) ⊎ KnowsTooMany (lasting_tree s.loaded) (IsHeld u) → KnowsTooMany s.loaded (IsHeld s) ⊎ KnowsTooMany (lasting_tree s.loaded) (IsHeld s)
    by_tree (inl k) = inl (many s.loaded k)
    by_tree (inr k) = inr (many (lasting_tree s.loaded) k)

    fewer : IsCrowded s.loaded (IsHeld u) r → IsCrowded s.loaded (IsHeld s) r
    fewer c = record { many = by_tree c.many; refusal = c.refusal }

-- a command that isn't refused leaves them so
changes_few : {profile : Profile} (s : State) (command : Command) (u : State) → ((r : Refused) → ¬ Refuses profile s command r) → Changes profile s command u → IsFew s → IsFew u
changes_few s command u none (Changes.puts e) few = few
changes_few s command u none (Changes.links e) few = few
changes_few s command u none (Changes.removes e) few = few
changes_few s command u none Changes.reloads few = λ r crowded. none r ((at_first crowded))
changes_few s command u none (Changes.installs {tree = tree} h) few = λ r crowded.
    none r (at_second (λ q refuses. none q (at_first refuses)) (at_first (record { tree = tree; installs = h; cause = crowded })))
changes_few s command u none (Changes.cancels {asked = asked}) few = no_more_few s u (cancel_no_more s (unit_asked s asked)) few
changes_few s command u none (Changes.demands_nothing is) few = few
changes_few s command u none (Changes.plans is plan) few = λ r crowded. none r (at_first (by_jobs is plan crowded))

does_few : {profile : Profile} (t : ℕ) (s : State) (command : Command) (actions : List Action) (u : State) → ((r : Refused) → ¬ Refuses profile s command r) → Does profile t s command actions u → IsFew s → IsFew u
does_few t s command actions u none (Does.changes h) few = changes_few s command u none h few
does_few t s command actions u none (Does.resets {asked = asked} h) few = no_more_few s u (resets_no_more t (units_reset s asked) s actions u h) few

-- nothing is held after a boot
pub booted_none : (boot : List ℕ) (s : State) (x : List ℕ) → ¬ IsHeld (booted boot s) x
booted_none boot s x (inl h) = h (map.get-empty (slice_cmp nat_cmp) x)
booted_none boot s x (inr h) = h (map.get-empty (slice_cmp nat_cmp) x)

-- and no more is known by the entries that aren't under `run/`
pub booted_few : (boot : List ℕ) (s : State) → IsFew s → IsFew (booted boot s)
booted_few boot s few r crowded = few r (record { many = inr (by_tree crowded.many); refusal = crowded.refusal })
  where
    fewer : (tree : ReadTree) → KnowsTooMany tree (IsHeld (booted boot s)) → KnowsTooMany tree (IsHeld s)
    fewer tree = more_known tree (IsHeld (booted boot s)) (IsHeld s) (λ x is. absurd (booted_none boot s x is))

    by_tree : KnowsTooMany (lasting_tree s.loaded) (IsHeld (booted boot s)) ⊎ KnowsTooMany (lasting_tree (lasting_tree s.loaded)) (IsHeld (booted boot s))
        → KnowsTooMany (lasting_tree s.loaded) (IsHeld s)
    by_tree (inl k) = fewer (lasting_tree s.loaded) k
    by_tree (inr k) = fewer (lasting_tree s.loaded) (subst (λ entries. KnowsTooMany (read_by s.loaded.profile entries) (IsHeld (booted boot s))) (without_run_twice s.loaded.entries) k)

-- a happening makes the state hold nothing new, or it is a boot
pub follows_no_more : (t : ℕ) (s : State) (happening : Happening) (actions : List Action) (v : State) → Follows t s happening actions v
    → HoldsNoMore s v ⊎ ((boot : List ℕ) × (v ≡ booted boot s))
follows_no_more t s happening actions v (Follows.ends {number = number} {end = end} {first = x} {more = y} {u = u} unit is h k) =
    inl (happened_no_more t unit (end_of (state_of_unit s.units unit) number end) s x y u v (inl (number_held s number unit is)) h k)
follows_no_more t s happening actions v (Follows.reports {number = number} {first = x} {more = y} {u = u} unit is awaits h k) =
    inl (happened_no_more t unit Executed s x y u v (inl (number_held s number unit is)) h k)
follows_no_more t s happening actions v (Follows.ticks timers are h) = inl (fires_no_more t timers s actions v h)
follows_no_more t s happening actions v (Follows.boots {boot = boot}) = inr (boot, refl)

pub follows_few : (t : ℕ) (s : State) (happening : Happening) (actions : List Action) (v : State) → Follows t s happening actions v → IsFew s → IsFew v
follows_few t s happening actions v h few = elim (follows_no_more t s happening actions v h) as (λ _. IsFew v) [
  | inl less ↦ no_more_few s v less few
  | inr (boot, is) ↦ subst IsFew (sym is) (booted_few boot s few)
]

takes_few : {profile : Profile} (t : ℕ) (s : State) (event : Event) (actions : List Action) (v : State) → TakesEffect profile t s event actions v → IsFew s → IsFew v
takes_few t s event actions v (TakesEffect.obeys {command = command} {first = x} {more = y} {u = u} none h k) few =
    no_more_few u v (settles_no_more t u y v k) (does_few t s command x u none h few)
takes_few t s event actions v (TakesEffect.meets {happening = happening} effect h) few = follows_few t s happening actions v h few

-- a step keeps the units few
pub step_few : (size : ℕ) (s : State) (input : Input) (reply : Reply) (actions : List Action) (t : State) → Step size s input reply actions t → IsFew s → IsFew t
step_few size s input reply actions t (Step.refused e) few = few
step_few size s input reply actions t (Step.crowded_out h heavy) few = few
step_few size s input reply actions t (Step.idle e) few = few
step_few size s input reply actions t (Step.taken {moment = moment} {event = event} {u = u} h light) few = takes_few (moment_of s moment) s event actions u h few

run_few : (size : ℕ) (s t : State) (inputs : List Input) → Run size s inputs t → IsFew s → IsFew t
run_few size s t inputs Run.rests few = few
run_few size s t (i ∷ inputs) (Run.goes {t = v} reply actions step run) few = run_few size v t inputs run (step_few size s i reply actions v step few)

-- ---- a state in which nothing is held

-- in an empty tree nothing is known if nothing is held
module _ (tree : ReadTree) (empty : tree.entries ≡ map.empty) (Extra : List ℕ → Type 0) (none : (x : List ℕ) → ¬ Extra x) where
  nothing_at : (path : List ℕ) → map.get tree.entries path ≡ None
  nothing_at path = ap (λ entries. map.get entries path) empty ∙ map.get-empty (slice_cmp nat_cmp) path

  none_linked : (kind : DependencyKind) (x y : List ℕ) → ¬ Links tree.entries kind x y
  none_linked kind x y links = let l = link_there tree.entries kind x y links in none-some (Link l.target) (sym (nothing_at l.path) ∙ l.link)

  pub none_named : (x : List ℕ) → ¬ IsNamed tree Extra x
  none_named x (model.has h) = true≢false (sym h.held ∙ ap is_some (nothing_at (unit_path h.layer x)))
  none_named x (model.holder {kind = kind} {y = y} links) = none_linked kind x y links
  none_named x (model.link {kind = kind} {x = holder} links) = none_linked kind holder x links
  none_named x (model.extra is) = none x is

  none_many : ¬ KnowsTooMany tree Extra
  none_many k = reached_in (λ _. ⊥) none_named (λ a b known mentions. known) _ (k.known 0 [] (omega (arith, k.many)))

pub blank_none : (s : State) → IsBlank s → (x : List ℕ) → ¬ IsHeld s x
blank_none s blank x (inl h) = h (ap (λ us. map.get us x) blank.units ∙ map.get-empty (slice_cmp nat_cmp) x)
blank_none s blank x (inr h) = h (ap (λ js. map.get js x) blank.pending ∙ map.get-empty (slice_cmp nat_cmp) x)

none_under_run : (entries : List (List ℕ × Entry)) → length entries ≡ 0 → list_any (λ e. is_volatile e.0) entries ≡ false
none_under_run [] none = refl
none_under_run (e ∷ entries) none = cc

pub empty_same : without_run map.empty ≡ map.empty
empty_same =
    without_run_same map.empty (none_under_run (map.entries map.empty) (sym (map.len-entries map.empty) ∙ map.len-empty (slice_cmp nat_cmp) Entry))

pub blank_few : (s : State) → IsBlank s → IsFew s
blank_few s blank r crowded = by_tree crowded.many
  where
    none : (x : List ℕ) → ¬ IsHeld s x
    none = blank_none s blank

    by_tree : ¬ (KnowsTooMany s.loaded (IsHeld s) ⊎ KnowsTooMany (lasting_tree s.loaded) (IsHeld s))
    by_tree (inl k) = none_many s.loaded blank.loaded (IsHeld s) none k
    by_tree (inr k) = none_many (lasting_tree s.loaded) (ap without_run blank.loaded ∙ empty_same) (IsHeld s) none k

-- the empty state of each profile is such a state
pub empty_blank : (profile : Profile) → IsBlank (empty_of profile)
empty_blank profile = record { tree = refl; loaded = refl; units = refl; pending = refl }

-- after any inputs from it no more units are known than may be
pub few_after : (size : ℕ) (s : State) (inputs : List Input) (t : State) → IsBlank s → Run size s inputs t → IsFew t
few_after size s inputs t blank run = run_few size s t inputs run (blank_few s blank)
