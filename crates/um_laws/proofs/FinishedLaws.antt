-- A finished job isn't repeated: a unit at rest stays so until a command puts a start of it.
use Rattle.std.proofs.Common.{ℕ, ◌≡◌, ◌≢◌, ◌∙◌, ◌+◌, ◌||◌, ◌&&◌, ◌⊎◌, Bool, true, false, true≢false, not, cond, List, [], ◌∷◌, ◌++◌, Contains, Option, Some, None, unwrap_or, refl, sym, ap, subst, inl, inr}
use Rattle.std.proofs.lemmas.List.{map-append}
use Rattle.std.proofs.lemmas.Option.{none-some}
use Rattle.std.specs.Cmp.Lexicographic.{slice_cmp}
use Rattle.std.specs.FinMap as map
use Rattle.std.specs.Ordering.{nat_cmp}
use Rattle.um_model.specs.declared.profile.Profile.{Profile}
use Rattle.um_model.specs.Begun.{Begun, begun_settling, begun_firing, begun_following, begun_taking, jobs_of, jobs_begun_in}
use Rattle.um_model.specs.Ends.{is_clean, is_failed, is_restart_wanted}
use Rattle.um_model.specs.Finished.{is_exited, Finishes, is_down_or_done, IsAtRest, PutsStart, PutsNoStart}
use Rattle.um_model.specs.Jobs.{BeginsNext, Job, job_of, jobs, no_jobs, start_job, state_of_job, jobs_of_unit}
use Rattle.um_model.specs.Machine.{IsBefore, State, Command, Happening, Event, Commanded, Input, Reply, TakesAlong, Becomes, Carries, change_of, changed, settings_in, around, begins, begun, FallDown, all_told, told_next, Happens, AreReset, all_reset, reset_next, Settles, unit_asked, jobs_asked, ForUnit, Done, Changes, Does, units_reset, end_of, Restarts, isnt_put, ComesDue, Fires, FiresOne, booted, Follows, TakesEffect, reply_after, moment_of, Step, Run, goes}
use Rattle.um_model.specs.Service.{Action, active_state_of, dead_unit, is_dead, is_number, is_success, state_of_unit}
use Rattle.um_model.specs.Settings.{ServiceSettings, has_place}
use Rattle.um_model.specs.Timers.{Timers}
use Rattle.um_model.specs.Transitions as table
use Rattle.um_model.specs.Transitions.{deadline_after, has_number, is_live, just, asking, rests_for_good, rests, terminates, stop_command, winds_down, rests_unless_live, noted, without_main, without_control, timed_out, told_to_stop, is_control_done, row, is_going, transition, fails_start}
use Rattle.um_model.specs.Tree.{Tree}
use Rattle.um_model.specs.declared.jobs.JobKind.{JobKind}
use Rattle.um_model.specs.declared.jobs.JobKind.TheVariants as job
use Rattle.um_model.specs.declared.jobs.JobState.{JobState}
use Rattle.um_model.specs.declared.jobs.JobState.TheVariants.{Waiting}
use Rattle.um_model.specs.declared.jobs.UnitJobs.{UnitJobs}
use Rattle.um_model.specs.declared.service.End.{End}
use Rattle.um_model.specs.declared.service.Signal.TheVariants.{Term}
use Rattle.um_model.specs.declared.service.SubState.{SubState}
use Rattle.um_model.specs.declared.service.SubState.TheVariants.{Dead, StartPre, Start, Running, Exited, Stop, StopSigterm, StopSigkill, Failed, AutoRestart, Active}
use Rattle.um_model.specs.declared.service.UnitResult.TheVariants as result
use Rattle.um_model.specs.declared.service.UnitState.{UnitState}
use Rattle.um_model.specs.declared.transition.Around.{Around}
use Rattle.um_model.specs.declared.transition.Change.{Change}
use Rattle.um_model.specs.declared.transition.CommandList.TheVariants.{OfStop}
use Rattle.um_model.specs.declared.transition.Order.TheVariants.{Spawn, Signal}
use Rattle.um_model.specs.declared.transition.Process.TheVariants.{Main, Control}
use Rattle.um_model.specs.declared.transition.UnitEvent.{UnitEvent}
use Rattle.um_model.specs.declared.transition.UnitEvent.TheVariants.{StartBegins, StopBegins, BoundStop, Executed, MainEnds, ControlEnds, DeadlinePasses, Reset}
use Rattle.um_laws.proofs.AlongLaws.{taken_along_or_not}
use Rattle.um_laws.proofs.AmongLaws.{among_either, among_contained}
use Rattle.um_laws.proofs.FreeLaws.{cancelled_fewer, fewer_at, begun_less, carried_less}
use Rattle.um_model.proofs.LeastLaws.{Among}
use Rattle.um_model.proofs.TimersLaws.{same_name}
use Rattle.um_laws.proofs.TransitionLaws.{by_cond}
use Rattle.um_model.proofs.UnitLaws.{state_here, state_apart, jobs_apart}

-- ---- one unit

-- it is down or done
abbrev Rests : UnitState → Type 0
Rests u = is_down_or_done u.sub u.stop_asked ≡ true

resting_rests : (well asked : Bool) → is_down_or_done (cond well Dead Failed) asked ≡ true
resting_rests true asked = refl
resting_rests false asked = refl

forgiven_rests : (failed : Bool) (sub : SubState) (asked : Bool) → is_down_or_done sub asked ≡ true → is_down_or_done (cond failed Dead sub) asked ≡ true
forgiven_rests true sub asked h = refl
forgiven_rests false sub asked h = h

noted_asked : (w : UnitState) (e : End) (clean : Bool) → (noted w e clean).stop_asked ≡ w.stop_asked
noted_asked w e true = refl
noted_asked w e false = refl

noted_rests : (w : UnitState) (e : End) (clean : Bool) → Rests w → Rests (noted w e clean)
noted_rests w e true h = h
noted_rests w e false h = h

-- a change of a unit whose stop was requested leaves it down, done, or with that request
module _ (s : ServiceSettings) (c : Around) where
  abbrev Leaves : Change → Type 0
  Leaves v = Rests v.unit

  rests_rests : (w : UnitState) → w.stop_asked ≡ true → Leaves (rests s c w)
  rests_rests w is =
      subst (λ b. Leaves (cond (not b && not c.stop_waits && is_restart_wanted s w) (table.waits_to_restart s c w) (rests_for_good w))) (sym is)
      (resting_rests (is_success w.result) w.stop_asked)

  terminates_rests : (w : UnitState) → w.stop_asked ≡ true → Leaves (terminates s c w)
  terminates_rests w is =
      by_cond Leaves (is_live w) (asking (Signal Term) (just (record w { sub = StopSigterm; deadline = deadline_after c.moment s.timeout_stop }))) (rests s c w)
      (λ e. is) (λ e. rests_rests w is)

  stop_command_rests : (w : UnitState) (i : ℕ) → w.stop_asked ≡ true → Leaves (stop_command s c w i)
  stop_command_rests w i is =
      by_cond Leaves (has_number c)
      (asking (Spawn OfStop i) (just (record w { sub = Stop; control = Some c.next; index = i; deadline = deadline_after c.moment s.timeout_stop })))
      (terminates s c (record w { result = result.Resources; index = i }))
      (λ e. is) (λ e. terminates_rests (record w { result = result.Resources; index = i }) is)

  winds_down_rests : (w : UnitState) (i : ℕ) → w.stop_asked ≡ true → Leaves (winds_down s c w i)
  winds_down_rests w i is = by_cond Leaves (has_place s.stop i) (stop_command s c w i) (terminates s c w) (λ e. stop_command_rests w i is) (λ e. terminates_rests w is)

  unless_live_rests : (w : UnitState) → Rests w → w.stop_asked ≡ true → Leaves (rests_unless_live s c w)
  unless_live_rests w h is = by_cond Leaves (is_live w) (just w) (rests s c w) (λ e. h) (λ e. rests_rests w is)

  main_asked : (u : UnitState) (e : End) → u.stop_asked ≡ true → (without_main s u e).stop_asked ≡ true
  main_asked u e is = noted_asked (record u { main = None; last = Some e }) e (is_clean s u Main e) ∙ is

  control_asked : (u : UnitState) (e : End) → u.stop_asked ≡ true → (without_control s u e).stop_asked ≡ true
  control_asked u e is = noted_asked (record u { control = None }) e (is_clean s u Control e) ∙ is

  main_rests : (u : UnitState) (e : End) → Rests u → Rests (without_main s u e)
  main_rests u e h = noted_rests (record u { main = None; last = Some e }) e (is_clean s u Main e) h

  control_rests : (u : UnitState) (e : End) → Rests u → Rests (without_control s u e)
  control_rests u e h = noted_rests (record u { control = None }) e (is_clean s u Control e) h

  -- in this sub state the unit is down or done
  there : (sub : SubState) (u : UnitState) → u.sub ≡ sub → is_down_or_done sub u.stop_asked ≡ true → Rests u
  there sub u is h = subst (λ x. is_down_or_done x u.stop_asked ≡ true) (sym is) h

  row_rests : (sub : SubState) (event : UnitEvent) (u : UnitState) → u.sub ≡ sub → is_down_or_done sub u.stop_asked ≡ true → event ≢ StartBegins
      → Leaves (row s c u (active_state_of sub) sub event)
  row_rests sub StartBegins u is h isnt = absurd (isnt refl)
  row_rests sub Reset u is h isnt = forgiven_rests (is_failed u.sub) u.sub u.stop_asked (there sub u is h)
  row_rests StartPre event u is h isnt = absurd (true≢false (sym h))
  row_rests Start event u is h isnt = absurd (true≢false (sym h))
  row_rests Running event u is h isnt = absurd (true≢false (sym h))
  row_rests AutoRestart event u is h isnt = absurd (true≢false (sym h))
  row_rests Active event u is h isnt = absurd (true≢false (sym h))
  row_rests Exited StopBegins u is h isnt = winds_down_rests (told_to_stop u) 0 refl
  row_rests Stop StopBegins u is h isnt = there Stop (told_to_stop u) is refl
  row_rests StopSigterm StopBegins u is h isnt = there StopSigterm (told_to_stop u) is refl
  row_rests StopSigkill StopBegins u is h isnt = there StopSigkill (told_to_stop u) is refl
  row_rests Stop (ControlEnds e) u is h isnt =
      by_cond Leaves (is_control_done s OfStop u e) (winds_down s c (record u { control = None }) (u.index + 1)) (terminates s c (without_control s u e))
      (λ _. winds_down_rests (record u { control = None }) (u.index + 1) h) (λ _. terminates_rests (without_control s u e) (control_asked u e h))
  row_rests Stop (MainEnds e) u is h isnt = main_rests u e (there Stop u is h)
  row_rests Stop DeadlinePasses u is h isnt = terminates_rests (timed_out u) h
  row_rests StopSigterm (MainEnds e) u is h isnt = unless_live_rests (without_main s u e) (main_rests u e (there StopSigterm u is h)) (main_asked u e h)
  row_rests StopSigterm (ControlEnds e) u is h isnt = unless_live_rests (without_control s u e) (control_rests u e (there StopSigterm u is h)) (control_asked u e h)
  row_rests StopSigkill (MainEnds e) u is h isnt = unless_live_rests (without_main s u e) (main_rests u e (there StopSigkill u is h)) (main_asked u e h)
  row_rests StopSigkill (ControlEnds e) u is h isnt = unless_live_rests (without_control s u e) (control_rests u e (there StopSigkill u is h)) (control_asked u e h)
  row_rests StopSigterm DeadlinePasses u is h isnt = h
  row_rests StopSigkill DeadlinePasses u is h isnt = resting_rests (is_success (timed_out u).result) u.stop_asked
  row_rests sub event u is h isnt = there sub u is h

  stop_apart : StopBegins ≡ StartBegins → ⊥
  stop_apart e = cc

  -- whatever happens to a unit that is down or done, but that its start begins, leaves it so
  transition_rests : (u : UnitState) (event : UnitEvent) → event ≢ StartBegins → Rests u → Leaves (transition s c u event)
  transition_rests u BoundStop isnt h =
      by_cond Leaves (is_going (active_state_of u.sub)) (fails_start u.sub (row s c u (active_state_of u.sub) u.sub StopBegins)) (just u) (λ e. row_rests u.sub StopBegins u refl h stop_apart) (λ e. h)
  transition_rests u StartBegins isnt h = absurd (isnt refl)
  transition_rests u StopBegins isnt h = row_rests u.sub StopBegins u refl h isnt
  transition_rests u Executed isnt h = row_rests u.sub Executed u refl h isnt
  transition_rests u (MainEnds e) isnt h = row_rests u.sub (MainEnds e) u refl h isnt
  transition_rests u (ControlEnds e) isnt h = row_rests u.sub (ControlEnds e) u refl h isnt
  transition_rests u DeadlinePasses isnt h = row_rests u.sub DeadlinePasses u refl h isnt
  transition_rests u Reset isnt h = row_rests u.sub Reset u refl h isnt

-- ---- the state

-- x: the unit at rest
module _ (x : List ℕ) where
  abbrev AtRest : State → Type 0
  AtRest s = IsAtRest s x

  -- the event isn't the beginning of the unit's start
  abbrev IsOther : List ℕ → UnitEvent → Type 0
  IsOther unit event = x ≡ unit → event ≢ StartBegins

  changed_rests : (s : State) (unit : List ℕ) (c : Change) → (x ≡ unit → Rests c.unit) → Rests (state_of_unit s.units x) → Rests (state_of_unit (changed s unit c).units x)
  changed_rests s unit c own h = elim (same_name x unit) as (λ _. Rests (state_of_unit (changed s unit c).units x)) [
    | inl same ↦ subst (λ q. Rests (state_of_unit (changed s unit c).units q)) (sym same) (subst Rests (sym (state_here s.units unit c.unit)) (own same))
    | inr apart ↦ subst Rests (sym (state_apart s.units unit c.unit x apart)) h
  ]

  along_rests : (s : State) (failed : List ℕ) (v : State) → TakesAlong s failed v → Rests (state_of_unit s.units x) → Rests (state_of_unit v.units x)
  along_rests s failed v a h = elim (taken_along_or_not s failed x) as (λ _. Rests (state_of_unit v.units x)) [
    | inl taken ↦ subst Rests (sym (a.results x taken)) h
    | inr isnt ↦ subst Rests (sym (a.other_units x isnt)) h
  ]

  becomes_rests : (s : State) (unit : List ℕ) (c : Change) (v : State) → (x ≡ unit → Rests c.unit) → Becomes s unit c v → Rests (state_of_unit s.units x)
      → Rests (state_of_unit v.units x)
  becomes_rests s unit c v own (Becomes.alone isnt) h = changed_rests s unit c own h
  becomes_rests s unit c v own (Becomes.along fails a) h = along_rests (changed s unit c) unit v a (changed_rests s unit c own h)

  carried_rests : (t : ℕ) (unit : List ℕ) (event : UnitEvent) (s : State) (actions : List Action) (v : State) → IsOther unit event → Carries t unit event s actions v
      → AtRest s → AtRest v
  carried_rests t unit event s actions v other h rest = record {
    none = ((carried_less t unit event s actions v h).fewer x job.Start).none rest.none;
    rests = becomes_rests s unit (change_of t s unit event) v own h.state rest.rests;
  }
    where
      own : x ≡ unit → Rests (change_of t s unit event).unit
      own same =
          transition_rests (settings_in s.loaded unit) (around t s unit) (state_of_unit s.units unit) event (other same)
          (subst (λ q. Rests (state_of_unit s.units q)) same rest.rests)

  bound_apart : BoundStop ≡ StartBegins → ⊥
  bound_apart e = cc

  falls_rest : (t : ℕ) (units : List (List ℕ)) (s : State) (actions : List Action) (v : State) → FallDown t units s actions v → AtRest s → AtRest v
  falls_rest t units s actions v all_told rest = rest
  falls_rest t (unit ∷ units) s actions v (told_next {falling = falling} {u = u} {first = first} {more = more} h among k) rest =
      falls_rest t (falling ++ units) u more v k (carried_rests t unit BoundStop s first u (λ same. bound_apart) h rest)

  happens_rest : (t : ℕ) (unit : List ℕ) (event : UnitEvent) (s : State) (actions : List Action) (v : State) → IsOther unit event → Happens t unit event s actions v
      → AtRest s → AtRest v
  happens_rest t unit event s actions v other (Happens.happens {falling = falling} {u = u} {first = first} {more = more} h among k) rest =
      falls_rest t falling u more v k (carried_rests t unit event s first u other h rest)

  reset_apart : Reset ≡ StartBegins → ⊥
  reset_apart e = cc

  resets_rest : (t : ℕ) (units : List (List ℕ)) (s : State) (actions : List Action) (v : State) → AreReset t units s actions v → AtRest s → AtRest v
  resets_rest t units s actions v all_reset rest = rest
  resets_rest t (unit ∷ units) s actions v (reset_next {u = u} {first = first} {more = more} h k) rest =
      resets_rest t units u more v k (happens_rest t unit Reset s first u (λ same. reset_apart) h rest)

  -- a job that begins isn't a start of a unit of which none is pending
  begins_other : (kind : JobKind) (j : UnitJobs) → job_of kind j ≡ Some Waiting → j.start ≡ None → begins kind ≢ StartBegins
  begins_other job.Start j waits none = absurd (none-some Waiting (sym none ∙ waits))
  begins_other job.Stop j waits none = λ e. cc

  -- the job that begins next isn't a start of the unit, and leaves it at rest
  next_rests : (t : ℕ) (s : State) (j : Job) (actions : List Action) (u : State) → BeginsNext (IsBefore s.loaded) s.units s.pending j
      → Happens t j.unit (begins j.kind) (begun s j) actions u → AtRest s → AtRest u
  next_rests t s j actions u n h rest = happens_rest t j.unit (begins j.kind) (begun s j) actions u other h begun_rest
    where
      other : IsOther j.unit (begins j.kind)
      other same = begins_other j.kind (jobs_of_unit s.pending j.unit) n.has.waits (subst (λ q. (jobs_of_unit s.pending q).start ≡ None) same rest.none)

      begun_rest : AtRest (begun s j)
      begun_rest = record { none = ((begun_less s j n.has.waits).fewer x job.Start).none rest.none; rests = rest.rests }

  settles_rest : (t : ℕ) (s : State) (actions : List Action) (v : State) → Settles t s actions v → AtRest s → AtRest v
  settles_rest t s actions v (Settles.rests still) rest = rest
  settles_rest t s actions v (Settles.begins_next {u = u} {first = first} {more = more} j n h k) rest =
      settles_rest t u more v k (next_rests t s j first u n h rest)

  -- ---- deadlines that are due

  waits_apart : (sub : SubState) (asked : Bool) → sub ≡ AutoRestart → is_down_or_done sub asked ≡ true → ⊥
  waits_apart sub asked waits h = true≢false (sym h ∙ ap (λ x. is_down_or_done x asked) waits)

  restarts_rest : (s : State) (unit : List ℕ) (v : State) → (state_of_unit s.units unit).sub ≡ AutoRestart → Restarts s unit v → AtRest s → AtRest v
  restarts_rest s unit v awaits (isnt_put why) rest = rest
  restarts_rest s unit v awaits (Restarts.puts none free) rest =
      record { none = ap (λ j. j.start) (jobs_apart s.pending unit (jobs None (Some Waiting)) x apart) ∙ rest.none; rests = rest.rests }
    where
      apart : x ≢ unit
      apart same =
          waits_apart (state_of_unit s.units x).sub (state_of_unit s.units x).stop_asked (subst (λ q. (state_of_unit s.units q).sub ≡ AutoRestart) (sym same) awaits)
          rest.rests

  deadline_apart : DeadlinePasses ≡ StartBegins → ⊥
  deadline_apart e = cc

  due_rest : (t : ℕ) (s : State) (unit : List ℕ) (actions : List Action) (v : State) → ComesDue t s unit actions v → AtRest s → AtRest v
  due_rest t s unit actions v (ComesDue.restarts awaits again) rest = restarts_rest s unit v awaits again rest
  due_rest t s unit actions v (ComesDue.passes isnt h) rest = happens_rest t unit DeadlinePasses s actions v (λ same. deadline_apart) h rest

  fires_rest : (t : ℕ) (timers : Timers) (s : State) (actions : List Action) (v : State) → Fires t timers s actions v → AtRest s → AtRest v
  fires_rest t timers s actions v (Fires.none_due none) rest = rest
  fires_rest t timers s actions v (Fires.fires_next {more = more} d n least due (FiresOne.fires {u = u} {v = p} {first = first} {next = next} is h k) l) rest =
      fires_rest t (map.remove timers n) p more v l (settles_rest t u next p k (due_rest t s n first u h rest))
  fires_rest t timers s actions v (Fires.fires_next {more = more} d n least due (FiresOne.is_gone isnt) l) rest = fires_rest t (map.remove timers n) s more v l rest

  -- ---- the effect of a happening

  end_apart : (b : Bool) (e : End) → cond b (MainEnds e) (ControlEnds e) ≢ StartBegins
  end_apart true e = λ is. cc
  end_apart false e = λ is. cc

  executed_apart : Executed ≡ StartBegins → ⊥
  executed_apart e = cc

  booted_rest : (boot : List ℕ) (s : State) → AtRest (booted boot s)
  booted_rest boot s = record {
    none = ap (λ o. (unwrap_or o no_jobs).start) (map.get-empty (slice_cmp nat_cmp) x);
    rests = ap (λ o. is_down_or_done (unwrap_or o dead_unit).sub (unwrap_or o dead_unit).stop_asked) (map.get-empty (slice_cmp nat_cmp) x);
  }

  follows_rest : (t : ℕ) (s : State) (happening : Happening) (actions : List Action) (v : State) → Follows t s happening actions v → AtRest s → AtRest v
  follows_rest t s happening actions v (Follows.ends {number = number} {end = end} {first = first} {more = more} {u = u} unit is h k) rest =
      settles_rest t u more v k
      (happens_rest t unit (end_of (state_of_unit s.units unit) number end) s first u (λ same. end_apart (is_number number (state_of_unit s.units unit).main) end) h rest)
  follows_rest t s happening actions v (Follows.reports {first = first} {more = more} {u = u} unit is awaits h k) rest =
      settles_rest t u more v k (happens_rest t unit Executed s first u (λ same. executed_apart) h rest)
  follows_rest t s happening actions v (Follows.ticks timers are h) rest = fires_rest t timers s actions v h rest
  follows_rest t s happening actions v (Follows.boots {boot = boot}) rest = booted_rest boot s

  -- ---- the jobs that begin

  -- of the jobs that begin none is a start of it
  abbrev HasNone : List Begun → Type 0
  HasNone begun = ¬ Among (jobs_of begun) (start_job x)

  none_of_both : (first more : List Begun) → HasNone first → HasNone more → HasNone (first ++ more)
  none_of_both first more none none_later both =
      elim (among_either (jobs_of first) (jobs_of more) (start_job x) (subst (λ l. Among l (start_job x)) (map-append (λ (b : Begun). b.job) first more) both)) [
        | inl here ↦ none here
        | inr there ↦ none_later there
      ]

  has_none : (begun : List Begun) → HasNone begun → ¬ Contains (jobs_of begun) (start_job x)
  has_none begun none has = none (among_contained (jobs_of begun) (start_job x) has)

  settles_none : (t : ℕ) (s : State) (actions : List Action) (v : State) (h : Settles t s actions v) → AtRest s → HasNone (begun_settling h)
  settles_none t s actions v (Settles.rests still) rest = λ none. none
  settles_none t s actions v (Settles.begins_next {u = u} {first = first} {more = more} j n h k) rest =
      elim [ inl is ↦ isnt is | inr later ↦ settles_none t u more v k (next_rests t s j first u n h rest) later ]
    where
      isnt : start_job x ≢ j
      isnt is = none-some Waiting (sym rest.none ∙ subst (λ (i : Job). state_of_job s.pending i ≡ Some Waiting) (sym is) n.has.waits)

  fires_none : (t : ℕ) (timers : Timers) (s : State) (actions : List Action) (v : State) (h : Fires t timers s actions v) → AtRest s
      → HasNone (begun_firing h)
  fires_none t timers s actions v (Fires.none_due none) rest = λ none. none
  fires_none t timers s actions v (Fires.fires_next {more = more} d n least due (FiresOne.fires {u = u} {v = p} {first = first} {next = next} is h k) l) rest =
      let due_rests : AtRest u = due_rest t s n first u h rest in
      none_of_both (begun_settling k) (begun_firing l) (settles_none t u next p k due_rests)
      (fires_none t (map.remove timers n) p more v l (settles_rest t u next p k due_rests))
  fires_none t timers s actions v (Fires.fires_next {more = more} d n least due (FiresOne.is_gone isnt) l) rest = fires_none t (map.remove timers n) s more v l rest

  follows_none : (t : ℕ) (s : State) (happening : Happening) (actions : List Action) (v : State) (h : Follows t s happening actions v) → AtRest s
      → HasNone (begun_following h)
  follows_none t s happening actions v (Follows.ends {number = number} {end = end} {first = first} {more = more} {u = u} unit is h k) rest =
      settles_none t u more v k
      (happens_rest t unit (end_of (state_of_unit s.units unit) number end) s first u (λ same. end_apart (is_number number (state_of_unit s.units unit).main) end) h rest)
  follows_none t s happening actions v (Follows.reports {first = first} {more = more} {u = u} unit is awaits h k) rest =
      settles_none t u more v k (happens_rest t unit Executed s first u (λ same. executed_apart) h rest)
  follows_none t s happening actions v (Follows.ticks timers are h) rest = fires_none t timers s actions v h rest
  follows_none t s happening actions v Follows.boots rest = λ none. none

  -- ---- a step

  -- a command leaves the unit at rest, before any job begins, or puts a start of it
  changes_rest : {profile : Profile} (s : State) (moment : ℕ) (command : Command) (u : State) (tree : Tree) → Changes profile s command u → AtRest s
      → AtRest u ⊎ PutsStart x s (record { profile = profile; moment = moment; event = Commanded command }) (reply_after (Commanded command) s.tree tree)
  changes_rest s moment command u tree (Changes.puts e) rest = inl (record { none = rest.none; rests = rest.rests })
  changes_rest s moment command u tree (Changes.links e) rest = inl (record { none = rest.none; rests = rest.rests })
  changes_rest s moment command u tree (Changes.removes e) rest = inl (record { none = rest.none; rests = rest.rests })
  changes_rest s moment command u tree Changes.reloads rest = inl (record { none = rest.none; rests = rest.rests })
  changes_rest s moment command u tree (Changes.installs h) rest = inl (record { none = rest.none; rests = rest.rests })
  changes_rest s moment command u tree (Changes.cancels {asked = asked}) rest =
      inl (record { none = (fewer_at s.pending (unit_asked s asked) _ (cancelled_fewer (jobs_asked s asked)) x job.Start).none rest.none; rests = rest.rests })
  changes_rest s moment command u tree (Changes.demands_nothing is) rest = inl rest
  changes_rest {profile} s moment command u tree (Changes.plans {verb = verb} {asked = asked} {mode = mode} {after = after} is plan) rest =
      by (jobs_of_unit after x).start refl
    where
      by : (start : Option JobState) → (jobs_of_unit after x).start ≡ start
          → AtRest (record s { pending = after }) ⊎ PutsStart x s (record { profile = profile; moment = moment; event = Commanded (ForUnit verb asked mode) }) Done
      by None same = inl (record { none = same; rests = rest.rests })
      by (Some state) same = inr (record {
        command = ForUnit verb asked mode;
        is = refl;
        done = refl;
        planned = record s { pending = after };
        changes = Changes.plans is plan;
        none = rest.none;
        one = λ none. none-some state (sym none ∙ same);
      })

  does_rest : {profile : Profile} (t : ℕ) (s : State) (moment : ℕ) (command : Command) (actions : List Action) (u : State) (tree : Tree) → Does profile t s command actions u → AtRest s
      → AtRest u ⊎ PutsStart x s (record { profile = profile; moment = moment; event = Commanded command }) (reply_after (Commanded command) s.tree tree)
  does_rest t s moment command actions u tree (Does.changes h) rest = changes_rest s moment command u tree h rest
  does_rest t s moment command actions u tree (Does.resets {asked = asked} h) rest = inl (resets_rest t (units_reset s asked) s actions u h rest)

  -- so an event leaves it, with none of its starts begun, or a command puts one
  takes_rest : {profile : Profile} (t : ℕ) (s : State) (moment : ℕ) (event : Event) (actions : List Action) (v : State) (tree : Tree) (h : TakesEffect profile t s event actions v) → AtRest s
      → HasNone (begun_taking h) × AtRest v ⊎ PutsStart x s (record { profile = profile; moment = moment; event = event }) (reply_after event s.tree tree)
  takes_rest t s moment event actions v tree (TakesEffect.obeys {command = command} {first = first} {more = more} {u = u} isnt h k) rest =
      elim (does_rest t s moment command first u tree h rest) [
        | inl rests ↦ inl (settles_none t u more v k rests, settles_rest t u more v k rests)
        | inr puts ↦ inr puts
      ]
  takes_rest t s moment event actions v tree (TakesEffect.meets {happening = happening} effect h) rest =
      inl (follows_none t s happening actions v h rest, follows_rest t s happening actions v h rest)

  -- over a step a unit at rest stays so, and none of its starts begins, or a command puts one
  pub step_rests : {size : ℕ} {s t : State} {input : Input} {reply : Reply} {actions : List Action} (step : Step size s input reply actions t) → IsAtRest s x
      → (¬ Contains (jobs_begun_in step) (start_job x)) × IsAtRest t x ⊎ PutsStart x s input reply
  step_rests (Step.refused e) rest = inl (has_none [] (λ none. none), rest)
  step_rests (Step.crowded_out h heavy) rest = inl (has_none [] (λ none. none), rest)
  step_rests (Step.idle e) rest = inl (has_none [] (λ none. none), rest)
  step_rests {s = s} (Step.taken {moment = moment} {event = event} {actions = actions} {u = u} h light) rest =
      elim (takes_rest (moment_of s moment) s moment event actions u u.tree h rest) [
        | inl (none, rests) ↦ inl (has_none (begun_taking h) none, record { none = rests.none; rests = rests.rests })
        | inr puts ↦ inr puts
      ]

  -- and over a run of which no command puts one
  pub run_rests : {size : ℕ} {s t : State} {inputs : List Input} (run : Run size s inputs t) → PutsNoStart x run → IsAtRest s x → IsAtRest t x
  run_rests Run.rests none rest = rest
  run_rests (goes reply actions step run) (isnt, none) rest = elim (step_rests step rest) [
    | inl (begun, rests) ↦ run_rests run none rests
    | inr puts ↦ absurd (isnt puts)
  ]

finished_rests : (sub : SubState) (well asked : Bool) → (is_exited sub || is_dead sub && well) ≡ true → is_down_or_done sub asked ≡ true
finished_rests Dead well asked h = refl
finished_rests Exited well asked h = refl
finished_rests Failed well asked h = refl
finished_rests _ well asked h = absurd (true≢false (sym h))

-- a oneshot that finished, and of which no start is pending, is at rest
pub finished_is_at_rest : (s t : State) (unit : List ℕ) → Finishes s t unit → (jobs_of_unit t.pending unit).start ≡ None → IsAtRest t unit
finished_is_at_rest s t unit finishes none =
    let o = state_of_unit t.units unit in
    record { none = none; rests = finished_rests o.sub (is_success o.result) o.stop_asked finishes.finished }

-- and stays so over each run of which no command puts a start of it
pub not_repeated : (size : ℕ) (s t u : State) (unit : List ℕ) (input : Input) (inputs : List Input) (reply : Reply) (actions : List Action)
    → Step size s input reply actions t → Finishes s t unit → (jobs_of_unit t.pending unit).start ≡ None → (run : Run size t inputs u) → PutsNoStart unit run
    → IsAtRest u unit
not_repeated size s t u unit input inputs reply actions step finishes none run puts = run_rests unit run puts (finished_is_at_rest s t unit finishes none)
