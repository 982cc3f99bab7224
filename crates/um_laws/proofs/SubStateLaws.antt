-- A unit is in start-pre only if the loaded profile serves ExecStartPre=: row by row of the table, and over the effect of an input.
use Rattle.std.proofs.Common.{ℕ, ◌≡◌, inl, inr, ◌∙◌, ◌+◌, Bool, true, false, true≢false, not, cond, ◌&&◌, List, [], nat_lt, Option, Some, None, unwrap_or, refl, sym, ap, subst, arith}
use Rattle.std.proofs.lemmas.Bool.{ltb-true}
use Rattle.std.specs.Cmp.Lexicographic.{slice_cmp}
use Rattle.std.specs.FinMap as map
use Rattle.std.specs.Option.{option_map_or}
use Rattle.std.specs.Ordering.{nat_cmp}
use Rattle.um_model.specs.Dependencies.{loadable_of}
use Rattle.um_model.specs.Ends.{is_clean, is_failed, is_restart_wanted, has_one_command}
use Rattle.um_model.specs.InputSpellings.{FitEvent}
use Rattle.um_model.specs.Limit.{counted}
use Rattle.um_model.specs.Machine.{State, Command, Event, TakesAlong, Becomes, Carries, Changes, TakesEffect, puts, links, removes, reloads, plans, demands_nothing, cancels, installs, around, booted, change_of, changed, settings_in}
use Rattle.um_model.specs.Names.{is_template, suffix_of}
use Rattle.um_model.specs.Profiles.{ReadTree, later, serves_start_pre}
use Rattle.um_model.specs.Resolution.{Resolution, AtFile, AtNoFile, AtMask, Nowhere, resolution_of}
use Rattle.um_model.specs.Service.{Action, active_state_of, dead_unit, is_success, state_of_unit, with_unit}
use Rattle.um_model.specs.Settings.{ServiceSettings, default_settings, has_place}
use Rattle.um_model.specs.StateSpellings.{is_sub_state_in}
use Rattle.um_model.specs.Transitions.{deadline_after, has_number, is_live, just, asking, start_ends, start_fails, rests_for_good, waits_to_restart, rests, terminates, stop_command, winds_down, first_command, start_of, pre_command, prepares, starts_if, starts, starts_prepared, pre_goes_on, exits, next_command, start_goes_on, rests_unless_live, noted, without_main, without_control, timed_out, told_to_stop, is_control_done, row, is_going, transition, fails_start}
use Rattle.um_model.specs.Units.{Assigned, service_settings_of, LoadedUnit, Loading, Found, Masked, NotFound, BadSetting, loading_at, load}
use Rattle.um_model.specs.declared.limit.Counted.{Counted}
use Rattle.um_model.specs.declared.names.Suffix.{Suffix}
use Rattle.um_model.specs.declared.names.Suffix.TheVariants.{Service}
use Rattle.um_model.specs.declared.profile.Profile.{Profile}
use Rattle.um_model.specs.declared.profile.Profile.TheVariants.{One, Two}
use Rattle.um_model.specs.declared.service.End.{End}
use Rattle.um_model.specs.declared.service.Signal.TheVariants.{Term}
use Rattle.um_model.specs.declared.service.SubState.{SubState}
use Rattle.um_model.specs.declared.service.SubState.TheVariants.{Dead, StartPre, Start, Running, Exited, Stop, StopSigterm, StopSigkill, Failed, AutoRestart, Active}
use Rattle.um_model.specs.declared.service.UnitResult.TheVariants as result
use Rattle.um_model.specs.declared.service.UnitState.{UnitState}
use Rattle.um_model.specs.declared.transition.Around.{Around}
use Rattle.um_model.specs.declared.transition.Change.{Change}
use Rattle.um_model.specs.declared.transition.CommandList.TheVariants.{OfStartPre, OfStart, OfStop}
use Rattle.um_model.specs.declared.transition.Order.TheVariants.{Spawn, Signal}
use Rattle.um_model.specs.declared.transition.Process.TheVariants.{Main, Control}
use Rattle.um_model.specs.declared.transition.UnitEvent.{UnitEvent}
use Rattle.um_model.specs.declared.transition.UnitEvent.TheVariants.{StartBegins, StopBegins, BoundStop, Executed, MainEnds, ControlEnds, DeadlinePasses, Reset}
use Rattle.um_model.specs.declared.transition.UnitKind.{UnitKind}
use Rattle.um_model.specs.declared.transition.UnitKind.TheVariants.{Simple, Exec, Oneshot, Target}
use Rattle.um_model.proofs.EntriesLaws.{left_true}
use Rattle.um_model.proofs.Forms.{found_unless}
use Rattle.um_model.proofs.TimersLaws.{same_name}
use Rattle.um_model.proofs.UnitLaws.{state_here, state_apart}
use Rattle.um_laws.proofs.AlongLaws.{taken_along_or_not}
use Rattle.um_laws.proofs.InvariantLaws.{FitUnitEvent, kept_taking}
use Rattle.um_laws.proofs.TransitionLaws.{by_cond}

-- ---- settings

-- the settings have a command of ExecStartPre= only if the profile serves that
abbrev IsServed : Profile → ServiceSettings → Type 0
IsServed p s = (i : ℕ) → has_place s.start_pre i ≡ true → serves_start_pre p ≡ true

-- without such a command it is so
none_served : (p : Profile) (s : ServiceSettings) → s.start_pre ≡ [] → IsServed p s
none_served p s none i there =
    let place : has_place [] i ≡ true = ap (λ commands. has_place commands i) (sym none) ∙ there in
    absurd (omega (arith, ltb-true i 0 (left_true (nat_lt i 0) _ place)))

service_served : (p : Profile) (suffix : Option Suffix) (unit : List ℕ) (assigned : List Assigned) → IsServed p (service_settings_of p suffix unit assigned)
unfolding service_settings_of
service_served One (Some Service) unit assigned = none_served One (service_settings_of One (Some Service) unit assigned) refl
service_served Two (Some Service) unit assigned = λ i there. refl
service_served p suffix unit assigned = none_served p (service_settings_of p suffix unit assigned) refl

abbrev IsServedFound : Profile → Loading → Type 0
IsServedFound p (Found l) = IsServed p l.settings.service
IsServedFound p other = Unit {0}

unless_served : (p : Profile) (reason : Option (List ℕ)) (l : LoadedUnit) → IsServed p l.settings.service → IsServedFound p (found_unless reason l)
unless_served p None l served = served
unless_served p (Some reason) l served = tt

loads_served : (tree : ReadTree) (unit : List ℕ) → IsServedFound tree.profile (load tree unit)
unfolding load
loads_served tree unit = by (resolution_of tree.entries unit)
  where
    by : (r : Resolution) → IsServedFound tree.profile (loading_at tree r)
    by (AtFile found path text) = unless_served tree.profile _ _ (service_served tree.profile (suffix_of found) found _)
    by (AtNoFile found) = service_served tree.profile (suffix_of found) found _
    by (AtMask found) = tt
    by Nowhere = tt

loadable_served : (p : Profile) (found : Loading) → IsServedFound p found → IsServed p (option_map_or (λ (l : LoadedUnit). l.settings.service) (loadable_of found) (default_settings Simple))
loadable_served p (Found l) served = by (is_template l.name)
  where
    by : (b : Bool) → IsServed p (option_map_or (λ (l : LoadedUnit). l.settings.service) (cond b None (Some l)) (default_settings Simple))
    by true = none_served p (default_settings Simple) refl
    by false = served
loadable_served p (Masked unit) served = none_served p (default_settings Simple) refl
loadable_served p NotFound served = none_served p (default_settings Simple) refl
loadable_served p (BadSetting unit reason) served = none_served p (default_settings Simple) refl

-- those by which a unit acts
pub settings_served : (tree : ReadTree) (unit : List ℕ) → IsServed tree.profile (settings_in tree unit)
settings_served tree unit = loadable_served tree.profile (load tree unit) (loads_served tree unit)

-- ---- one unit

module _ (p : Profile) (s : ServiceSettings) (c : Around) (served : IsServed p s) where
  abbrev May : SubState → Type 0
  May sub = is_sub_state_in p sub ≡ true

  -- after a change
  abbrev Leaves : Change → Type 0
  Leaves v = May v.unit.sub

  rest_may : (well : Bool) → May (cond well Dead Failed)
  rest_may true = refl
  rest_may false = refl

  rests_for_good_may : (w : UnitState) → Leaves (rests_for_good w)
  rests_for_good_may w = rest_may (is_success w.result)

  rests_may : (w : UnitState) → Leaves (rests s c w)
  rests_may w = by_cond Leaves (not w.stop_asked && not c.stop_waits && is_restart_wanted s w) (waits_to_restart s c w) (rests_for_good w) (λ e. refl) (λ e. rests_for_good_may w)

  terminates_may : (w : UnitState) → Leaves (terminates s c w)
  terminates_may w = by_cond Leaves (is_live w) (asking (Signal Term) (just (record w { sub = StopSigterm; deadline = deadline_after c.moment s.timeout_stop }))) (rests s c w)
      (λ e. refl) (λ e. rests_may w)

  stop_command_may : (w : UnitState) (i : ℕ) → Leaves (stop_command s c w i)
  stop_command_may w i = by_cond Leaves (has_number c)
      (asking (Spawn OfStop i) (just (record w { sub = Stop; control = Some c.next; index = i; deadline = deadline_after c.moment s.timeout_stop })))
      (terminates s c (record w { result = result.Resources; index = i }))
      (λ e. refl) (λ e. terminates_may (record w { result = result.Resources; index = i }))

  winds_down_may : (w : UnitState) (i : ℕ) → Leaves (winds_down s c w i)
  winds_down_may w i = by_cond Leaves (has_place s.stop i) (stop_command s c w i) (terminates s c w) (λ e. stop_command_may w i) (λ e. terminates_may w)

  first_command_may : (w : UnitState) → Leaves (first_command s c w)
  first_command_may w = by_cond Leaves (has_number c)
      (asking (Spawn OfStart 0) (just (record w { sub = Start; main = Some c.next; deadline = deadline_after c.moment s.timeout_start })))
      (start_fails (rests_for_good (record w { result = result.Resources })))
      (λ e. refl) (λ e. rests_for_good_may (record w { result = result.Resources }))

  start_simple_may : (w : UnitState) → Leaves (start_of Simple s c w)
  start_simple_may w = by_cond Leaves (has_number c)
      (start_ends (asking (Spawn OfStart 0) (just (record w { sub = Running; main = Some c.next; deadline = None }))))
      (start_fails (rests_for_good (record w { result = result.Resources })))
      (λ e. refl) (λ e. rests_for_good_may (record w { result = result.Resources }))

  start_of_may : (k : UnitKind) (w : UnitState) → Leaves (start_of k s c w)
  start_of_may Target w = refl
  start_of_may Simple w = start_simple_may w
  start_of_may Exec w = first_command_may w
  start_of_may Oneshot w = by_cond Leaves (has_place s.start 0) (first_command s c w) (start_ends (just (record w { sub = Exited; deadline = None })))
      (λ e. first_command_may w) (λ e. refl)

  pre_command_may : (w : UnitState) (i : ℕ) → has_place s.start_pre i ≡ true → Leaves (pre_command c w i)
  pre_command_may w i there = by_cond Leaves (has_number c)
      (asking (Spawn OfStartPre i) (just (record w { sub = StartPre; control = Some c.next; index = i })))
      (start_fails (rests_for_good (record w { index = i; result = result.Resources })))
      (λ e. served i there) (λ e. rests_for_good_may (record w { index = i; result = result.Resources }))

  prepares_may : (w : UnitState) → Leaves (prepares s c w)
  prepares_may w = by_cond Leaves (has_place s.start_pre 0) (pre_command c (record w { deadline = deadline_after c.moment s.timeout_start }) 0) (start_of s.kind s c w)
      (λ e. pre_command_may (record w { deadline = deadline_after c.moment s.timeout_start }) 0 e) (λ e. start_of_may s.kind w)

  starts_if_may : (through : Bool) (window : Option Counted) (w : UnitState) → Leaves (starts_if through window s c w)
  starts_if_may true window w = prepares_may (record w { result = result.Success; stop_asked = false; index = 0; last = None; window = window })
  starts_if_may false window w = refl

  starts_may : (w : UnitState) → Leaves (starts s c w)
  starts_may w = let answer = counted s.limit_interval s.limit_burst c.moment w.window in starts_if_may answer.0 answer.1 w

  starts_prepared_may : (w : UnitState) → Leaves (starts_prepared s c w)
  starts_prepared_may w = by_cond Leaves c.loadable (start_of s.kind s c (record w { index = 0 })) (start_fails (rests s c (record w { result = result.NotLoaded })))
      (λ e. start_of_may s.kind (record w { index = 0 })) (λ e. rests_may (record w { result = result.NotLoaded }))

  pre_goes_on_may : (w : UnitState) → Leaves (pre_goes_on s c w)
  pre_goes_on_may w = by_cond Leaves (has_place s.start_pre (w.index + 1)) (pre_command c w (w.index + 1)) (starts_prepared s c w)
      (λ e. pre_command_may w (w.index + 1) e) (λ e. starts_prepared_may w)

  exits_may : (w : UnitState) → Leaves (exits s c w)
  exits_may w = by_cond Leaves s.remains (just (record w { sub = Exited; deadline = None })) (winds_down s c w 0) (λ e. refl) (λ e. winds_down_may w 0)

  unless_live_may : (w : UnitState) → May w.sub → Leaves (rests_unless_live s c w)
  unless_live_may w may = by_cond Leaves (is_live w) (just w) (rests s c w) (λ e. may) (λ e. rests_may w)

  next_command_may : (w : UnitState) (i : ℕ) → May w.sub → Leaves (next_command c w i)
  next_command_may w i may = by_cond Leaves (has_number c) (asking (Spawn OfStart i) (just (record w { main = Some c.next; index = i })))
      (start_fails (rests_for_good (record w { index = i; result = result.Resources })))
      (λ e. may) (λ e. rests_for_good_may (record w { index = i; result = result.Resources }))

  start_goes_on_may : (k : UnitKind) (w : UnitState) → May w.sub → Leaves (start_goes_on k s c w)
  start_goes_on_may Simple w may = exits_may w
  start_goes_on_may Exec w may = exits_may w
  start_goes_on_may Oneshot w may = by_cond Leaves (has_place s.start (w.index + 1)) (next_command c w (w.index + 1)) (start_ends (exits s c w))
      (λ e. next_command_may w (w.index + 1) may) (λ e. exits_may w)
  start_goes_on_may Target w may = exits_may w

  executed_may : (u : UnitState) → May u.sub → Leaves (cond (has_one_command s.kind) (start_ends (just (record u { sub = Running; deadline = None }))) (just u))
  executed_may u may = by_cond Leaves (has_one_command s.kind) (start_ends (just (record u { sub = Running; deadline = None }))) (just u) (λ e. refl) (λ e. may)

  noted_may : (w : UnitState) (e : End) (clean : Bool) → May w.sub → May (noted w e clean).sub
  noted_may w e true may = may
  noted_may w e false may = may

  main_may : (u : UnitState) (e : End) → May u.sub → May (without_main s u e).sub
  main_may u e may = noted_may (record u { main = None; last = Some e }) e (is_clean s u Main e) may

  control_may : (u : UnitState) (e : End) → May u.sub → May (without_control s u e).sub
  control_may u e may = noted_may (record u { control = None }) e (is_clean s u Control e) may

  forgiven_may : (failed : Bool) (sub : SubState) → May sub → May (cond failed Dead sub)
  forgiven_may true sub may = refl
  forgiven_may false sub may = may

  row_may : (sub : SubState) (event : UnitEvent) (u : UnitState) → May u.sub → Leaves (row s c u (active_state_of sub) sub event)
  row_may sub Reset u may = forgiven_may (is_failed u.sub) u.sub may
  row_may Running StartBegins u may = may
  row_may Exited StartBegins u may = may
  row_may Active StartBegins u may = may
  row_may Dead StartBegins u may = starts_may u
  row_may Failed StartBegins u may = starts_may u
  row_may AutoRestart StartBegins u may = starts_may u
  row_may StartPre (ControlEnds e) u may =
      by_cond Leaves (is_control_done s OfStartPre u e) (pre_goes_on s c (record u { control = None })) (start_fails (rests s c (without_control s u e)))
      (λ _. pre_goes_on_may (record u { control = None })) (λ _. rests_may (without_control s u e))
  row_may StartPre DeadlinePasses u may = terminates_may (record u { result = result.Timeout })
  row_may Start Executed u may = executed_may u may
  row_may Start (MainEnds e) u may =
      by_cond Leaves (is_clean s u Main e) (start_goes_on s.kind s c (without_main s u e)) (start_fails (rests s c (without_main s u e)))
      (λ _. start_goes_on_may s.kind (without_main s u e) (main_may u e may)) (λ _. rests_may (without_main s u e))
  row_may Start DeadlinePasses u may = terminates_may (record u { result = result.Timeout })
  row_may Running (MainEnds e) u may =
      by_cond Leaves (is_clean s u Main e) (exits s c (without_main s u e)) (winds_down s c (without_main s u e) 0)
      (λ _. exits_may (without_main s u e)) (λ _. winds_down_may (without_main s u e) 0)
  row_may Running StopBegins u may = winds_down_may (told_to_stop u) 0
  row_may Exited StopBegins u may = winds_down_may (told_to_stop u) 0
  row_may StartPre StopBegins u may = terminates_may (told_to_stop u)
  row_may Start StopBegins u may = terminates_may (told_to_stop u)
  row_may AutoRestart StopBegins u may = refl
  row_may Active StopBegins u may = refl
  row_may Stop StopBegins u may = may
  row_may StopSigterm StopBegins u may = may
  row_may StopSigkill StopBegins u may = may
  row_may Dead StopBegins u may = may
  row_may Failed StopBegins u may = may
  row_may Stop (ControlEnds e) u may =
      by_cond Leaves (is_control_done s OfStop u e) (winds_down s c (record u { control = None }) (u.index + 1)) (terminates s c (without_control s u e))
      (λ _. winds_down_may (record u { control = None }) (u.index + 1)) (λ _. terminates_may (without_control s u e))
  row_may Stop (MainEnds e) u may = main_may u e may
  row_may Stop DeadlinePasses u may = terminates_may (timed_out u)
  row_may StopSigterm (MainEnds e) u may = unless_live_may (without_main s u e) (main_may u e may)
  row_may StopSigterm (ControlEnds e) u may = unless_live_may (without_control s u e) (control_may u e may)
  row_may StopSigkill (MainEnds e) u may = unless_live_may (without_main s u e) (main_may u e may)
  row_may StopSigkill (ControlEnds e) u may = unless_live_may (without_control s u e) (control_may u e may)
  row_may StopSigterm DeadlinePasses u may = refl
  row_may StopSigkill DeadlinePasses u may = rests_for_good_may (timed_out u)
  row_may sub event u may = may

  -- each change of a unit leaves it in a sub state of the profile
  pub transition_may : (u : UnitState) (e : UnitEvent) → is_sub_state_in p u.sub ≡ true → is_sub_state_in p (transition s c u e).unit.sub ≡ true
  transition_may u BoundStop may = by_cond Leaves (is_going (active_state_of u.sub)) (fails_start u.sub (row s c u (active_state_of u.sub) u.sub StopBegins)) (just u)
      (λ e. row_may u.sub StopBegins u may) (λ e. may)
  transition_may u StartBegins may =
      by_cond Leaves c.loadable (row s c u (active_state_of u.sub) u.sub StartBegins) (start_fails (just (record u { result = result.NotLoaded })))
      (λ e. row_may u.sub StartBegins u may) (λ e. may)
  transition_may u StopBegins may = row_may u.sub StopBegins u may
  transition_may u Executed may = row_may u.sub Executed u may
  transition_may u (MainEnds e) may = row_may u.sub (MainEnds e) u may
  transition_may u (ControlEnds e) may = row_may u.sub (ControlEnds e) u may
  transition_may u DeadlinePasses may = row_may u.sub DeadlinePasses u may
  transition_may u Reset may = row_may u.sub Reset u may

-- ---- the state

-- each unit may be in its sub state by the loaded profile
abbrev pub HaveSubStates : State → Type 0
HaveSubStates s = (unit : List ℕ) → is_sub_state_in s.loaded.profile (state_of_unit s.units unit).sub ≡ true

changed_subs : (s : State) (unit : List ℕ) (c : Change) → is_sub_state_in s.loaded.profile c.unit.sub ≡ true → HaveSubStates s → HaveSubStates (changed s unit c)
changed_subs s unit c may all x = elim (same_name x unit) as (λ _. is_sub_state_in s.loaded.profile (state_of_unit (with_unit s.units unit c.unit) x).sub ≡ true) [
  | inl same ↦ subst (λ y. is_sub_state_in s.loaded.profile (state_of_unit (with_unit s.units unit c.unit) y).sub ≡ true) (sym same)
      (subst (λ (u : UnitState). is_sub_state_in s.loaded.profile u.sub ≡ true) (sym (state_here s.units unit c.unit)) may)
  | inr apart ↦ subst (λ (u : UnitState). is_sub_state_in s.loaded.profile u.sub ≡ true) (sym (state_apart s.units unit c.unit x apart)) (all x)
]

-- with this loaded profile
along_subs : (s : State) (failed : List ℕ) (v : State) → TakesAlong s failed v → HaveSubStates s → (x : List ℕ) → is_sub_state_in s.loaded.profile (state_of_unit v.units x).sub ≡ true
along_subs s failed v a all x = elim (taken_along_or_not s failed x) as (λ _. is_sub_state_in s.loaded.profile (state_of_unit v.units x).sub ≡ true) [
  | inl is ↦ subst (λ (u : UnitState). is_sub_state_in s.loaded.profile u.sub ≡ true) (sym (a.results x is)) (all x)
  | inr isnt ↦ subst (λ (u : UnitState). is_sub_state_in s.loaded.profile u.sub ≡ true) (sym (a.other_units x isnt)) (all x)
]

becomes_subs : (s : State) (unit : List ℕ) (c : Change) (v : State) → Becomes s unit c v → HaveSubStates (changed s unit c) → HaveSubStates v
becomes_subs s unit c v (Becomes.alone isnt) all = all
becomes_subs s unit c v (Becomes.along is a) all = λ x.
    subst (λ (tree : ReadTree). is_sub_state_in tree.profile (state_of_unit v.units x).sub ≡ true) (sym (ap (λ (y : State). y.loaded) a.rest))
    (along_subs (changed s unit c) unit v a all x)

carried_subs : (t : ℕ) (unit : List ℕ) (event : UnitEvent) (s : State) (actions : List Action) (v : State) → FitUnitEvent event → Carries t unit event s actions v → HaveSubStates s → HaveSubStates v
carried_subs t unit event s actions v fit carries all =
    becomes_subs s unit (change_of t s unit event) v carries.state
    (changed_subs s unit (change_of t s unit event)
    (transition_may s.loaded.profile (settings_in s.loaded unit) (around t s unit) (settings_served s.loaded unit) (state_of_unit s.units unit) event (all unit)) all)

-- each profile has the sub states of the first
each_may : (p : Profile) (sub : SubState) → is_sub_state_in One sub ≡ true → is_sub_state_in p sub ≡ true
each_may p StartPre may = absurd (true≢false (sym may))
each_may p _ may = refl

-- so a later profile has the sub states of an earlier one
later_may : (earlier p : Profile) (sub : SubState) → is_sub_state_in earlier sub ≡ true → is_sub_state_in (later earlier p) sub ≡ true
later_may One p sub may = each_may p sub may
later_may Two p sub may = may

changes_subs : (profile : Profile) (s : State) (command : Command) (u : State) → Changes profile s command u → HaveSubStates s → HaveSubStates u
changes_subs profile s command u (puts e) all = all
changes_subs profile s command u (links e) all = all
changes_subs profile s command u (removes e) all = all
changes_subs profile s command u reloads all = λ x. later_may s.loaded.profile profile (state_of_unit s.units x).sub (all x)
changes_subs profile s command u (installs made) all = λ x. later_may s.loaded.profile profile (state_of_unit s.units x).sub (all x)
changes_subs profile s command u cancels all = all
changes_subs profile s command u (demands_nothing is) all = all
changes_subs profile s command u (plans is plan) all = all

-- no unit is in start-pre if none is held
pub none_in_pre : (s : State) → s.units ≡ map.empty → HaveSubStates s
none_in_pre s none x =
    subst (λ units. is_sub_state_in s.loaded.profile (state_of_unit units x).sub ≡ true) (sym none)
    (ap (λ (o : Option UnitState). is_sub_state_in s.loaded.profile (unwrap_or o dead_unit).sub) (map.get-empty (slice_cmp nat_cmp) x))

-- the effect of an input keeps it so
pub takes_subs : {profile : Profile} (t : ℕ) (s : State) (event : Event) (actions : List Action) (v : State) → FitEvent event → TakesEffect profile t s event actions v → HaveSubStates s → HaveSubStates v
takes_subs t = kept_taking t HaveSubStates (carried_subs t) (λ s j all. all) (λ s unit all. all) changes_subs (λ s boot all. none_in_pre (booted boot s) refl)
