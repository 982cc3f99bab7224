-- A start job that goes on leaves its unit in start-pre or start, and a stop job that goes on leaves it in a stop state: row by row of the table.
use Rattle.std.proofs.Common.{ℕ, ◌≡◌, ◌≢◌, ◌∙◌, ◌+◌, ◌&&◌, Bool, true, false, true≢false, not, cond, Option, Some, None, refl, sym, ap}
use Rattle.um_model.specs.Limit.{counted}
use Rattle.um_model.specs.Service.{active_state_of}
use Rattle.um_model.specs.Settings.{ServiceSettings, has_place}
use Rattle.um_model.specs.Ends.{is_clean, is_failed, is_starting, is_stopping, is_restart_wanted, has_one_command}
use Rattle.um_model.specs.Transitions.{deadline_after, has_number, is_live, just, asking, start_ends, start_fails, stop_ends, rests_for_good, waits_to_restart, rests, terminates, stop_command, winds_down, first_command, start_of, pre_command, prepares, starts_if, starts, starts_prepared, pre_goes_on, exits, next_command, start_goes_on, rests_unless_live, noted, without_main, without_control, timed_out, told_to_stop, is_control_done, row, is_going, transition, fails_start}
use Rattle.um_model.specs.declared.limit.Counted.{Counted}
use Rattle.um_model.specs.declared.service.End.{End}
use Rattle.um_model.specs.declared.service.Signal.TheVariants.{Term}
use Rattle.um_model.specs.declared.service.SubState.{SubState}
use Rattle.um_model.specs.declared.service.SubState.TheVariants.{Dead, StartPre, Start, Running, Exited, Stop, StopSigterm, StopSigkill, Failed, AutoRestart, Active}
use Rattle.um_model.specs.declared.service.UnitResult.TheVariants as result
use Rattle.um_model.specs.declared.service.UnitState.{UnitState}
use Rattle.um_model.specs.declared.transition.Around.{Around}
use Rattle.um_model.specs.declared.transition.Change.{Change}
use Rattle.um_model.specs.declared.transition.CommandList.TheVariants.{OfStartPre, OfStart, OfStop}
use Rattle.um_model.specs.declared.transition.Order.TheVariants.{Spawn, Signal}
use Rattle.um_model.specs.declared.transition.Process.TheVariants.{Main, Control}
use Rattle.um_model.specs.declared.transition.StartJob.TheVariants.{Stays, Ends, Fails}
use Rattle.um_model.specs.declared.transition.UnitEvent.{UnitEvent}
use Rattle.um_model.specs.declared.transition.UnitEvent.TheVariants.{StartBegins, StopBegins, BoundStop, Executed, MainEnds, ControlEnds, DeadlinePasses, Reset}
use Rattle.um_model.specs.declared.transition.UnitKind.{UnitKind}
use Rattle.um_model.specs.declared.transition.UnitKind.TheVariants.{Simple, Exec, Oneshot, Target}

-- if the start job goes on, the unit is in start-pre or start
abbrev pub StartFits : Change → Type 0
StartFits v = v.start ≡ Stays → is_starting v.unit.sub ≡ true

-- if the stop job goes on, the unit is in a stop state
abbrev pub StopFits : Change → Type 0
StopFits v = v.stop_ends ≡ false → is_stopping v.unit.sub ≡ true

by_cond : (P : Change → Type 0) (b : Bool) (x y : Change) → (b ≡ true → P x) → (b ≡ false → P y) → P (cond b x y)
by_cond P true x y f g = f refl
by_cond P false x y f g = g refl

ends_stays : Ends ≡ Stays → ⊥
ends_stays e = cc

fails_stays : Fails ≡ Stays → ⊥
fails_stays e = cc

ended : (v : Change) → StartFits (start_ends v)
ended v e = absurd (ends_stays e)

failed : (v : Change) → StartFits (start_fails v)
failed v e = absurd (fails_stays e)

stopped : (v : Change) → StopFits (stop_ends v)
stopped v e = absurd (true≢false e)

sub_of_noted : (w : UnitState) (e : End) (clean : Bool) → (noted w e clean).sub ≡ w.sub
sub_of_noted w e true = refl
sub_of_noted w e false = refl

module _ (s : ServiceSettings) (c : Around) where
  -- ---- start jobs

  first_command_fits : (w : UnitState) → StartFits (first_command s c w)
  first_command_fits w = by_cond StartFits (has_number c)
      (asking (Spawn OfStart 0) (just (record w { sub = Start; main = Some c.next; deadline = deadline_after c.moment s.timeout_start })))
      (start_fails (rests_for_good (record w { result = result.Resources })))
      (λ e h. refl) (λ e. failed (rests_for_good (record w { result = result.Resources })))

  start_simple_fits : (w : UnitState) → StartFits (start_of Simple s c w)
  start_simple_fits w = by_cond StartFits (has_number c)
      (start_ends (asking (Spawn OfStart 0) (just (record w { sub = Running; main = Some c.next; deadline = None }))))
      (start_fails (rests_for_good (record w { result = result.Resources })))
      (λ e. ended (asking (Spawn OfStart 0) (just (record w { sub = Running; main = Some c.next; deadline = None }))))
      (λ e. failed (rests_for_good (record w { result = result.Resources })))

  start_of_fits : (kind : UnitKind) (w : UnitState) → StartFits (start_of kind s c w)
  start_of_fits Target w = ended (just (record w { sub = Active; deadline = None }))
  start_of_fits Simple w = start_simple_fits w
  start_of_fits Exec w = first_command_fits w
  start_of_fits Oneshot w = by_cond StartFits (has_place s.start 0) (first_command s c w) (start_ends (just (record w { sub = Exited; deadline = None })))
      (λ e. first_command_fits w) (λ e. ended (just (record w { sub = Exited; deadline = None })))

  pre_command_fits : (w : UnitState) (i : ℕ) → StartFits (pre_command c w i)
  pre_command_fits w i = by_cond StartFits (has_number c)
      (asking (Spawn OfStartPre i) (just (record w { sub = StartPre; control = Some c.next; index = i })))
      (start_fails (rests_for_good (record w { index = i; result = result.Resources })))
      (λ e h. refl) (λ e. failed (rests_for_good (record w { index = i; result = result.Resources })))

  prepares_fits : (w : UnitState) → StartFits (prepares s c w)
  prepares_fits w = by_cond StartFits (has_place s.start_pre 0) (pre_command c (record w { deadline = deadline_after c.moment s.timeout_start }) 0) (start_of s.kind s c w)
      (λ e. pre_command_fits (record w { deadline = deadline_after c.moment s.timeout_start }) 0) (λ e. start_of_fits s.kind w)

  starts_prepared_fits : (w : UnitState) → StartFits (starts_prepared s c w)
  starts_prepared_fits w = by_cond StartFits c.loadable (start_of s.kind s c (record w { index = 0 })) (start_fails (rests s c (record w { result = result.NotLoaded })))
      (λ e. start_of_fits s.kind (record w { index = 0 })) (λ e. failed (rests s c (record w { result = result.NotLoaded })))

  pre_goes_on_fits : (w : UnitState) → StartFits (pre_goes_on s c w)
  pre_goes_on_fits w = by_cond StartFits (has_place s.start_pre (w.index + 1)) (pre_command c w (w.index + 1)) (starts_prepared s c w)
      (λ e. pre_command_fits w (w.index + 1)) (λ e. starts_prepared_fits w)

  starts_if_fits : (through : Bool) (window : Option Counted) (w : UnitState) → StartFits (starts_if through window s c w)
  starts_if_fits true window w = prepares_fits (record w { result = result.Success; stop_asked = false; index = 0; last = None; window = window })
  starts_if_fits false window w = failed (just (record w { sub = Failed; result = result.StartLimitHit; deadline = None }))

  starts_fits : (w : UnitState) → StartFits (starts s c w)
  starts_fits w = let answer = counted s.limit_interval s.limit_burst c.moment w.window in starts_if_fits answer.0 answer.1 w

  not_loaded_fits : (u : UnitState) → StartFits (start_fails (just (record u { result = result.NotLoaded })))
  not_loaded_fits u = failed (just (record u { result = result.NotLoaded }))

  begun_start : (sub : SubState) (u : UnitState) → u.sub ≡ sub → is_stopping sub ≡ false → StartFits (row s c u (active_state_of sub) sub StartBegins)
  begun_start Running u is up = ended (just u)
  begun_start Exited u is up = ended (just u)
  begun_start Active u is up = ended (just u)
  begun_start Dead u is up = starts_fits u
  begun_start Failed u is up = starts_fits u
  begun_start AutoRestart u is up = starts_fits u
  begun_start StartPre u is up = λ e. ap is_starting is
  begun_start Start u is up = λ e. ap is_starting is
  begun_start Stop u is up = absurd (true≢false up)
  begun_start StopSigterm u is up = absurd (true≢false up)
  begun_start StopSigkill u is up = absurd (true≢false up)

  -- a start job that begins while its unit isn't in a stop state
  pub begun_start_fits : (u : UnitState) → is_stopping u.sub ≡ false → StartFits (transition s c u StartBegins)
  begun_start_fits u up =
      by_cond StartFits c.loadable (row s c u (active_state_of u.sub) u.sub StartBegins) (start_fails (just (record u { result = result.NotLoaded })))
      (λ e. begun_start u.sub u refl up) (λ e. not_loaded_fits u)

  next_command_fits : (w : UnitState) (i : ℕ) → w.sub ≡ Start → StartFits (next_command c w i)
  next_command_fits w i is = by_cond StartFits (has_number c)
      (asking (Spawn OfStart i) (just (record w { main = Some c.next; index = i })))
      (start_fails (rests_for_good (record w { index = i; result = result.Resources })))
      (λ e h. ap is_starting is) (λ e. failed (rests_for_good (record w { index = i; result = result.Resources })))

  start_goes_on_fits : (kind : UnitKind) (w : UnitState) → w.sub ≡ Start → StartFits (start_goes_on kind s c w)
  start_goes_on_fits Simple w is = ended (exits s c w)
  start_goes_on_fits Exec w is = ended (exits s c w)
  start_goes_on_fits Oneshot w is = by_cond StartFits (has_place s.start (w.index + 1)) (next_command c w (w.index + 1)) (start_ends (exits s c w))
      (λ e. next_command_fits w (w.index + 1) is) (λ e. ended (exits s c w))
  start_goes_on_fits Target w is = ended (exits s c w)

  executed_fits : (u : UnitState) → u.sub ≡ Start → StartFits (cond (has_one_command s.kind) (start_ends (just (record u { sub = Running; deadline = None }))) (just u))
  executed_fits u is = by_cond StartFits (has_one_command s.kind) (start_ends (just (record u { sub = Running; deadline = None }))) (just u)
      (λ e. ended (just (record u { sub = Running; deadline = None }))) (λ e h. ap is_starting is)

  main_sub : (u : UnitState) (e : End) → (without_main s u e).sub ≡ u.sub
  main_sub u e = sub_of_noted (record u { main = None; last = Some e }) e (is_clean s u Main e)

  control_sub : (u : UnitState) (e : End) → (without_control s u e).sub ≡ u.sub
  control_sub u e = sub_of_noted (record u { control = None }) e (is_clean s u Control e)

  in_start_pre : (event : UnitEvent) (u : UnitState) → event ≢ StopBegins → u.sub ≡ StartPre → StartFits (row s c u (active_state_of StartPre) StartPre event)
  in_start_pre StartBegins u isnt is = λ e. ap is_starting is
  in_start_pre StopBegins u isnt is = absurd (isnt refl)
  in_start_pre BoundStop u isnt is = λ e. ap is_starting is
  in_start_pre Executed u isnt is = λ e. ap is_starting is
  in_start_pre (MainEnds e) u isnt is = λ h. ap is_starting is
  in_start_pre (ControlEnds e) u isnt is =
      by_cond StartFits (is_control_done s OfStartPre u e) (pre_goes_on s c (record u { control = None })) (start_fails (rests s c (without_control s u e)))
      (λ _. pre_goes_on_fits (record u { control = None })) (λ _. failed (rests s c (without_control s u e)))
  in_start_pre DeadlinePasses u isnt is = failed (terminates s c (record u { result = result.Timeout }))
  in_start_pre Reset u isnt is = λ e. ap (λ x. is_starting (cond (is_failed x) Dead x)) is

  in_start : (event : UnitEvent) (u : UnitState) → event ≢ StopBegins → u.sub ≡ Start → StartFits (row s c u (active_state_of Start) Start event)
  in_start StartBegins u isnt is = λ e. ap is_starting is
  in_start StopBegins u isnt is = absurd (isnt refl)
  in_start BoundStop u isnt is = λ e. ap is_starting is
  in_start Executed u isnt is = executed_fits u is
  in_start (MainEnds e) u isnt is =
      by_cond StartFits (is_clean s u Main e) (start_goes_on s.kind s c (without_main s u e)) (start_fails (rests s c (without_main s u e)))
      (λ _. start_goes_on_fits s.kind (without_main s u e) (main_sub u e ∙ is)) (λ _. failed (rests s c (without_main s u e)))
  in_start (ControlEnds e) u isnt is = λ h. ap is_starting is
  in_start DeadlinePasses u isnt is = failed (terminates s c (record u { result = result.Timeout }))
  in_start Reset u isnt is = λ e. ap (λ x. is_starting (cond (is_failed x) Dead x)) is

  start_row : (sub : SubState) (event : UnitEvent) (u : UnitState) → event ≢ StopBegins → u.sub ≡ sub → is_starting sub ≡ true → StartFits (row s c u (active_state_of sub) sub event)
  start_row StartPre event u isnt is up = in_start_pre event u isnt is
  start_row Start event u isnt is up = in_start event u isnt is
  start_row _ event u isnt is up = absurd (true≢false (sym up))

  -- by a bound stop the start fails
  bound_fails : (u : UnitState) → is_starting u.sub ≡ true → StartFits (fails_start u.sub (row s c u (active_state_of u.sub) u.sub StopBegins))
  bound_fails u up e = absurd (fails_stays (sym (ap (λ b. cond b Fails (row s c u (active_state_of u.sub) u.sub StopBegins).start) up) ∙ e))

  -- whatever happens to a unit in start-pre or start, but that its stop job begins
  pub start_fits : (u : UnitState) (event : UnitEvent) → event ≢ StopBegins → is_starting u.sub ≡ true → StartFits (transition s c u event)
  start_fits u BoundStop isnt is =
      by_cond StartFits (is_going (active_state_of u.sub)) (fails_start u.sub (row s c u (active_state_of u.sub) u.sub StopBegins)) (just u)
      (λ e. bound_fails u is) (λ e h. is)
  start_fits u StartBegins isnt is =
      by_cond StartFits c.loadable (row s c u (active_state_of u.sub) u.sub StartBegins) (start_fails (just (record u { result = result.NotLoaded })))
      (λ e. start_row u.sub StartBegins u isnt refl is) (λ e. not_loaded_fits u)
  start_fits u StopBegins isnt is = absurd (isnt refl)
  start_fits u Executed isnt is = start_row u.sub Executed u isnt refl is
  start_fits u (MainEnds e) isnt is = start_row u.sub (MainEnds e) u isnt refl is
  start_fits u (ControlEnds e) isnt is = start_row u.sub (ControlEnds e) u isnt refl is
  start_fits u DeadlinePasses isnt is = start_row u.sub DeadlinePasses u isnt refl is
  start_fits u Reset isnt is = start_row u.sub Reset u isnt refl is

  -- ---- stop jobs

  rests_fits : (w : UnitState) → StopFits (rests s c w)
  rests_fits w = by_cond StopFits (not w.stop_asked && not c.stop_waits && is_restart_wanted s w) (waits_to_restart s c w) (rests_for_good w)
      (λ e h. absurd (true≢false h)) (λ e h. absurd (true≢false h))

  terminates_fits : (w : UnitState) → StopFits (terminates s c w)
  terminates_fits w = by_cond StopFits (is_live w) (asking (Signal Term) (just (record w { sub = StopSigterm; deadline = deadline_after c.moment s.timeout_stop }))) (rests s c w)
      (λ e h. refl) (λ e. rests_fits w)

  stop_command_fits : (w : UnitState) (i : ℕ) → StopFits (stop_command s c w i)
  stop_command_fits w i = by_cond StopFits (has_number c)
      (asking (Spawn OfStop i) (just (record w { sub = Stop; control = Some c.next; index = i; deadline = deadline_after c.moment s.timeout_stop })))
      (terminates s c (record w { result = result.Resources; index = i }))
      (λ e h. refl) (λ e. terminates_fits (record w { result = result.Resources; index = i }))

  winds_down_fits : (w : UnitState) (i : ℕ) → StopFits (winds_down s c w i)
  winds_down_fits w i = by_cond StopFits (has_place s.stop i) (stop_command s c w i) (terminates s c w) (λ e. stop_command_fits w i) (λ e. terminates_fits w)

  begun_stop : (sub : SubState) (u : UnitState) → u.sub ≡ sub → StopFits (row s c u (active_state_of sub) sub StopBegins)
  begun_stop Running u is = winds_down_fits (told_to_stop u) 0
  begun_stop Exited u is = winds_down_fits (told_to_stop u) 0
  begun_stop StartPre u is = terminates_fits (told_to_stop u)
  begun_stop Start u is = terminates_fits (told_to_stop u)
  begun_stop AutoRestart u is = stopped (just (record u { sub = Dead; deadline = None }))
  begun_stop Active u is = stopped (just (record u { sub = Dead; deadline = None }))
  begun_stop Stop u is = λ e. ap is_stopping is
  begun_stop StopSigterm u is = λ e. ap is_stopping is
  begun_stop StopSigkill u is = λ e. ap is_stopping is
  begun_stop Dead u is = stopped (just u)
  begun_stop Failed u is = stopped (just u)

  -- a stop job that begins
  pub begun_stop_fits : (u : UnitState) → StopFits (transition s c u StopBegins)
  begun_stop_fits u = begun_stop u.sub u refl

  unless_live_fits : (w : UnitState) → is_stopping w.sub ≡ true → StopFits (rests_unless_live s c w)
  unless_live_fits w down = by_cond StopFits (is_live w) (just w) (rests s c w) (λ e h. down) (λ e. rests_fits w)

  main_stops : (sub : SubState) (u : UnitState) (e : End) → u.sub ≡ sub → is_stopping sub ≡ true → StopFits (rests_unless_live s c (without_main s u e))
  main_stops sub u e is down = unless_live_fits (without_main s u e) (ap is_stopping (main_sub u e ∙ is) ∙ down)

  control_stops : (sub : SubState) (u : UnitState) (e : End) → u.sub ≡ sub → is_stopping sub ≡ true → StopFits (rests_unless_live s c (without_control s u e))
  control_stops sub u e is down = unless_live_fits (without_control s u e) (ap is_stopping (control_sub u e ∙ is) ∙ down)

  in_stop : (event : UnitEvent) (u : UnitState) → u.sub ≡ Stop → StopFits (row s c u (active_state_of Stop) Stop event)
  in_stop (ControlEnds e) u is =
      by_cond StopFits (is_control_done s OfStop u e) (winds_down s c (record u { control = None }) (u.index + 1)) (terminates s c (without_control s u e))
      (λ _. winds_down_fits (record u { control = None }) (u.index + 1)) (λ _. terminates_fits (without_control s u e))
  in_stop (MainEnds e) u is = λ h. ap is_stopping (main_sub u e ∙ is)
  in_stop DeadlinePasses u is = terminates_fits (timed_out u)
  in_stop Reset u is = λ e. ap (λ x. is_stopping (cond (is_failed x) Dead x)) is
  in_stop event u is = λ e. ap is_stopping is

  in_stop_sigterm : (event : UnitEvent) (u : UnitState) → u.sub ≡ StopSigterm → StopFits (row s c u (active_state_of StopSigterm) StopSigterm event)
  in_stop_sigterm (MainEnds e) u is = main_stops StopSigterm u e is refl
  in_stop_sigterm (ControlEnds e) u is = control_stops StopSigterm u e is refl
  in_stop_sigterm DeadlinePasses u is = λ e. refl
  in_stop_sigterm Reset u is = λ e. ap (λ x. is_stopping (cond (is_failed x) Dead x)) is
  in_stop_sigterm event u is = λ e. ap is_stopping is

  in_stop_sigkill : (event : UnitEvent) (u : UnitState) → u.sub ≡ StopSigkill → StopFits (row s c u (active_state_of StopSigkill) StopSigkill event)
  in_stop_sigkill (MainEnds e) u is = main_stops StopSigkill u e is refl
  in_stop_sigkill (ControlEnds e) u is = control_stops StopSigkill u e is refl
  in_stop_sigkill DeadlinePasses u is = λ e. absurd (true≢false e)
  in_stop_sigkill Reset u is = λ e. ap (λ x. is_stopping (cond (is_failed x) Dead x)) is
  in_stop_sigkill event u is = λ e. ap is_stopping is

  stop_row : (sub : SubState) (event : UnitEvent) (u : UnitState) → u.sub ≡ sub → is_stopping sub ≡ true → StopFits (row s c u (active_state_of sub) sub event)
  stop_row Stop event u is down = in_stop event u is
  stop_row StopSigterm event u is down = in_stop_sigterm event u is
  stop_row StopSigkill event u is down = in_stop_sigkill event u is
  stop_row _ event u is down = absurd (true≢false (sym down))

  -- whatever happens to a unit in a stop state
  pub stop_fits : (u : UnitState) (event : UnitEvent) → is_stopping u.sub ≡ true → StopFits (transition s c u event)
  stop_fits u BoundStop down =
      by_cond StopFits (is_going (active_state_of u.sub)) (fails_start u.sub (row s c u (active_state_of u.sub) u.sub StopBegins)) (just u) (λ e. stop_row u.sub StopBegins u refl down) (λ e h. down)
  stop_fits u StartBegins down =
      by_cond StopFits c.loadable (row s c u (active_state_of u.sub) u.sub StartBegins) (start_fails (just (record u { result = result.NotLoaded })))
      (λ e. stop_row u.sub StartBegins u refl down) (λ e h. down)
  stop_fits u StopBegins down = stop_row u.sub StopBegins u refl down
  stop_fits u Executed down = stop_row u.sub Executed u refl down
  stop_fits u (MainEnds e) down = stop_row u.sub (MainEnds e) u refl down
  stop_fits u (ControlEnds e) down = stop_row u.sub (ControlEnds e) u refl down
  stop_fits u DeadlinePasses down = stop_row u.sub DeadlinePasses u refl down
  stop_fits u Reset down = stop_row u.sub Reset u refl down
