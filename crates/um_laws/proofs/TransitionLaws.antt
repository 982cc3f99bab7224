-- Laws of the service table: a unit keeps its process, new numbers are the next ones, and an order's actions are one list.
use Rattle.std.proofs.Common.{ℕ, ◌≡◌, ◌+◌, ◌<◌, ◌≤◌, ◌⊎◌, inl, inr, ◌∙◌, Bool, true, false, not, cond, ◌||◌, ◌&&◌, List, [], ◌∷◌, map, slice_get, Option, Some, None, is_some, refl, sym, subst, ap, arith}
use Rattle.std.proofs.lemmas.Bool.{ltb-true, false≢true}
use Rattle.um_model.specs.Moments.{process_limit}
use Rattle.um_model.specs.Commands.{Command}
use Rattle.um_model.specs.Substitution.{Variable, AreSubstituted}
use Rattle.um_model.specs.Limit.{counted}
use Rattle.um_model.specs.Service.{Action, SpawnProcess, SendSignal, active_state_of, is_success}
use Rattle.um_model.specs.Settings.{ServiceSettings, environment_texts, commands_in, has_place}
use Rattle.um_model.specs.Ends.{is_clean, is_failed, is_restart_wanted, has_one_command}
use Rattle.um_model.specs.Transitions.{deadline_after, has_number, is_live, just, asking, start_ends, start_fails, stop_ends, rests_for_good, waits_to_restart, rests, terminates, stop_command, winds_down, first_command, start_of, pre_command, prepares, starts_if, starts, starts_prepared, pre_goes_on, exits, next_command, start_goes_on, rests_unless_live, noted, without_main, without_control, timed_out, told_to_stop, forgiven, is_control_done, row, is_going, transition, AreStarted, no_command, substituted, as_written, AreActions, nothing, spawn, signals, spawned, live_numbers, HasNumber, has_its_process, HasItsProcess, fails_start}
use Rattle.um_model.specs.declared.limit.Counted.{Counted}
use Rattle.um_model.specs.declared.service.End.{End}
use Rattle.um_model.specs.declared.service.Signal as signal
use Rattle.um_model.specs.declared.service.Signal.TheVariants.{Term}
use Rattle.um_model.specs.declared.service.SubState.{SubState}
use Rattle.um_model.specs.declared.service.SubState.TheVariants.{Dead, StartPre, Start, Running, Exited, Stop, StopSigterm, StopSigkill, Failed, AutoRestart, Active}
use Rattle.um_model.specs.declared.service.UnitResult.TheVariants as result
use Rattle.um_model.specs.declared.service.UnitState.{UnitState}
use Rattle.um_model.specs.declared.transition.Around.{Around}
use Rattle.um_model.specs.declared.transition.Change.{Change}
use Rattle.um_model.specs.declared.transition.CommandList.{CommandList}
use Rattle.um_model.specs.declared.transition.CommandList.TheVariants.{OfStartPre, OfStart, OfStop}
use Rattle.um_model.specs.declared.transition.Order.{Order}
use Rattle.um_model.specs.declared.transition.Order.TheVariants.{Nothing, Spawn, Signal}
use Rattle.um_model.specs.declared.transition.Process.TheVariants.{Main, Control}
use Rattle.um_model.specs.declared.transition.UnitEvent.{UnitEvent}
use Rattle.um_model.specs.declared.transition.UnitEvent.TheVariants.{StartBegins, StopBegins, BoundStop, Executed, MainEnds, ControlEnds, DeadlinePasses, Reset}
use Rattle.um_model.specs.declared.transition.UnitKind.{UnitKind}
use Rattle.um_model.specs.declared.transition.UnitKind.TheVariants.{Simple, Exec, Oneshot, Target}
use Rattle.um_model.proofs.SubstitutionLaws.{same_substituted, have_substituted}

pub by_cond : (P : Change → Type 0) (b : Bool) (x y : Change) → (b ≡ true → P x) → (b ≡ false → P y) → P (cond b x y)
by_cond P true x y f g = f refl
by_cond P false x y f g = g refl

held_at_rest : (well : Bool) (w : UnitState) → has_its_process (cond well Dead Failed) w ≡ true
held_at_rest true w = refl
held_at_rest false w = refl

-- only the numbers count
pub same_held : (sub : SubState) (w v : UnitState) → w.main ≡ v.main → w.control ≡ v.control → has_its_process sub w ≡ true → has_its_process sub v ≡ true
same_held StartPre w v m k h = subst (λ x. is_some x ≡ true) k h
same_held Start w v m k h = subst (λ x. is_some x ≡ true) m h
same_held Running w v m k h = subst (λ x. is_some x ≡ true) m h
same_held Stop w v m k h = subst (λ x. is_some x ≡ true) k h
same_held StopSigterm w v m k h = subst (λ x. (is_some v.main || is_some x) ≡ true) k (subst (λ x. (is_some x || is_some w.control) ≡ true) m h)
same_held StopSigkill w v m k h = subst (λ x. (is_some v.main || is_some x) ≡ true) k (subst (λ x. (is_some x || is_some w.control) ≡ true) m h)
same_held Dead w v m k h = refl
same_held Exited w v m k h = refl
same_held Failed w v m k h = refl
same_held AutoRestart w v m k h = refl
same_held Active w v m k h = refl

noted_sub : (w : UnitState) (e : End) (clean : Bool) → (noted w e clean).sub ≡ w.sub
noted_sub w e true = refl
noted_sub w e false = refl

noted_control : (w : UnitState) (e : End) (clean : Bool) → (noted w e clean).control ≡ w.control
noted_control w e true = refl
noted_control w e false = refl

held_with_main : (sub : SubState) → sub ≡ Start → (v : UnitState) → is_some v.main ≡ true → has_its_process sub v ≡ true
held_with_main sub is v h = subst (λ x. has_its_process x v ≡ true) (sym is) h

held_unless_failed : (failed : Bool) (sub : SubState) (w : UnitState) → has_its_process sub w ≡ true → has_its_process (cond failed Dead sub) w ≡ true
held_unless_failed true sub w h = refl
held_unless_failed false sub w h = h

-- Known: the numbers that the unit had
module _ (s : ServiceSettings) (c : Around) (Known : ℕ → Type 0) (Held : Type 0) where
  abbrev Old : UnitState → Type 0
  Old w = (n : ℕ) → HasNumber w n → Known n

  record Good (v : Change) : Type 0 where
    held : Held → HasItsProcess v.unit
    fresh : (n : ℕ) → HasNumber v.unit n → Known n ⊎ ((n ≡ c.next) × (spawned v.order ≡ 1))
    below : (spawned v.order ≡ 0) ⊎ (c.next < process_limit)

  just_good : (w : UnitState) → Old w → (Held → HasItsProcess w) → Good (just w)
  just_good w old h = record { held = h; fresh = λ n k. inl (old n k); below = inl refl }

  none_known : (n : ℕ) → ((None ≡ Some n) ⊎ (None ≡ Some n)) → Known n
  none_known n (inl e) = absurd (let b : ⊥ = cc in b)
  none_known n (inr e) = absurd (let b : ⊥ = cc in b)

  rests_for_good_good : (w : UnitState) → Good (rests_for_good w)
  rests_for_good_good w = record { held = λ q. held_at_rest (is_success w.result) (record w { sub = cond (is_success w.result) Dead Failed; main = None; control = None; deadline = None }); fresh = λ n k. inl (none_known n k); below = inl refl }

  rests_good : (w : UnitState) → Good (rests s c w)
  rests_good w = by_cond Good (not w.stop_asked && not c.stop_waits && is_restart_wanted s w) (waits_to_restart s c w) (rests_for_good w)
      (λ e. record { held = λ q. refl; fresh = λ n k. inl (none_known n k); below = inl refl })
      (λ e. rests_for_good_good w)

  terminates_good : (w : UnitState) → Old w → Good (terminates s c w)
  terminates_good w old = by_cond Good (is_live w) (asking (Signal Term) (just (record w { sub = StopSigterm; deadline = deadline_after c.moment s.timeout_stop }))) (rests s c w)
      (λ e. record { held = λ q. e; fresh = λ n k. inl (old n k); below = inl refl })
      (λ e. rests_good w)

  next_known : (w : UnitState) → Old w → (n : ℕ) → ((w.main ≡ Some n) ⊎ (Some c.next ≡ Some n)) → Known n ⊎ ((n ≡ c.next) × (spawned (Spawn OfStart 0) ≡ 1))
  next_known w old n (inl e) = inl (old n (inl e))
  next_known w old n (inr e) = inr (cc, refl)

  known_next : (w : UnitState) → Old w → (n : ℕ) → ((Some c.next ≡ Some n) ⊎ (w.control ≡ Some n)) → Known n ⊎ ((n ≡ c.next) × (spawned (Spawn OfStart 0) ≡ 1))
  known_next w old n (inl e) = inr (cc, refl)
  known_next w old n (inr e) = inl (old n (inr e))

  stop_command_good : (w : UnitState) (i : ℕ) → Old w → Good (stop_command s c w i)
  stop_command_good w i old = by_cond Good (has_number c) (asking (Spawn OfStop i) (just (record w { sub = Stop; control = Some c.next; index = i; deadline = deadline_after c.moment s.timeout_stop }))) (terminates s c (record w { result = result.Resources; index = i }))
      (λ e. record { held = λ q. refl; fresh = next_known w old; below = inr (ltb-true _ _ e) })
      (λ e. terminates_good (record w { result = result.Resources; index = i }) old)

  winds_down_good : (w : UnitState) (i : ℕ) → Old w → Good (winds_down s c w i)
  winds_down_good w i old = by_cond Good (has_place s.stop i) (stop_command s c w i) (terminates s c w) (λ e. stop_command_good w i old) (λ e. terminates_good w old)

  -- whether the start job ends or fails changes nothing of this
  started : (v : Change) → Good v → Good (start_ends v)
  started v g = record { held = g.held; fresh = g.fresh; below = g.below }

  failed : (v : Change) → Good v → Good (start_fails v)
  failed v g = record { held = g.held; fresh = g.fresh; below = g.below }

  failing : (sub : SubState) (v : Change) → Good v → Good (fails_start sub v)
  failing sub v g = record { held = g.held; fresh = g.fresh; below = g.below }

  stopped : (v : Change) → Good v → Good (stop_ends v)
  stopped v g = record { held = g.held; fresh = g.fresh; below = g.below }

  spent : (w : UnitState) → Good (start_fails (rests_for_good (record w { result = result.Resources })))
  spent w = failed (rests_for_good (record w { result = result.Resources })) (rests_for_good_good (record w { result = result.Resources }))

  first_command_good : (w : UnitState) → Old w → Good (first_command s c w)
  first_command_good w old = by_cond Good (has_number c) (asking (Spawn OfStart 0) (just (record w { sub = Start; main = Some c.next; deadline = deadline_after c.moment s.timeout_start })))
      (start_fails (rests_for_good (record w { result = result.Resources })))
      (λ e. record { held = λ q. refl; fresh = known_next w old; below = inr (ltb-true _ _ e) })
      (λ e. spent w)

  start_simple_good : (w : UnitState) → Old w → Good (start_of Simple s c w)
  start_simple_good w old = by_cond Good (has_number c) (start_ends (asking (Spawn OfStart 0) (just (record w { sub = Running; main = Some c.next; deadline = None }))))
      (start_fails (rests_for_good (record w { result = result.Resources })))
      (λ e. record { held = λ q. refl; fresh = known_next w old; below = inr (ltb-true _ _ e) })
      (λ e. spent w)

  start_of_good : (k : UnitKind) (w : UnitState) → Old w → Good (start_of k s c w)
  start_of_good Target w old = record { held = λ q. refl; fresh = λ n k. inl (old n k); below = inl refl }
  start_of_good Simple w old = start_simple_good w old
  start_of_good Exec w old = first_command_good w old
  start_of_good Oneshot w old = by_cond Good (has_place s.start 0) (first_command s c w) (start_ends (just (record w { sub = Exited; deadline = None }))) (λ e. first_command_good w old)
      (λ e. record { held = λ q. refl; fresh = λ n k. inl (old n k); below = inl refl })

  pre_command_good : (w : UnitState) (i : ℕ) → Old w → Good (pre_command c w i)
  pre_command_good w i old = by_cond Good (has_number c) (asking (Spawn OfStartPre i) (just (record w { sub = StartPre; control = Some c.next; index = i })))
      (start_fails (rests_for_good (record w { index = i; result = result.Resources })))
      (λ e. record { held = λ q. refl; fresh = next_known w old; below = inr (ltb-true _ _ e) })
      (λ e. spent (record w { index = i }))

  prepares_good : (w : UnitState) → Old w → Good (prepares s c w)
  prepares_good w old = by_cond Good (has_place s.start_pre 0) (pre_command c (record w { deadline = deadline_after c.moment s.timeout_start }) 0) (start_of s.kind s c w)
      (λ e. pre_command_good (record w { deadline = deadline_after c.moment s.timeout_start }) 0 old) (λ e. start_of_good s.kind w old)

  starts_prepared_good : (w : UnitState) → Old w → Good (starts_prepared s c w)
  starts_prepared_good w old = by_cond Good c.loadable (start_of s.kind s c (record w { index = 0 })) (start_fails (rests s c (record w { result = result.NotLoaded })))
      (λ e. start_of_good s.kind (record w { index = 0 }) old) (λ e. failed (rests s c (record w { result = result.NotLoaded })) (rests_good (record w { result = result.NotLoaded })))

  pre_goes_on_good : (w : UnitState) → Old w → Good (pre_goes_on s c w)
  pre_goes_on_good w old = by_cond Good (has_place s.start_pre (w.index + 1)) (pre_command c w (w.index + 1)) (starts_prepared s c w)
      (λ e. pre_command_good w (w.index + 1) old) (λ e. starts_prepared_good w old)

  starts_if_good : (through : Bool) (window : Option Counted) (w : UnitState) → Old w → Good (starts_if through window s c w)
  starts_if_good true window w old = prepares_good (record w { result = result.Success; stop_asked = false; index = 0; last = None; window = window }) old
  starts_if_good false window w old = record { held = λ q. refl; fresh = λ n k. inl (old n k); below = inl refl }

  starts_good : (w : UnitState) → Old w → Good (starts s c w)
  starts_good w old = let answer = counted s.limit_interval s.limit_burst c.moment w.window in starts_if_good answer.0 answer.1 w old

  exits_good : (w : UnitState) → Old w → Good (exits s c w)
  exits_good w old = by_cond Good s.remains (just (record w { sub = Exited; deadline = None })) (winds_down s c w 0)
      (λ e. record { held = λ q. refl; fresh = λ n k. inl (old n k); below = inl refl })
      (λ e. winds_down_good w 0 old)

  rests_unless_live_good : (w : UnitState) → Old w → (is_live w ≡ true → Held → HasItsProcess w) → Good (rests_unless_live s c w)
  rests_unless_live_good w old h = by_cond Good (is_live w) (just w) (rests s c w) (λ e. just_good w old (h e)) (λ e. rests_good w)

  next_command_good : (w : UnitState) (i : ℕ) → Old w → w.sub ≡ Start → Good (next_command c w i)
  next_command_good w i old is = by_cond Good (has_number c) (asking (Spawn OfStart i) (just (record w { main = Some c.next; index = i })))
      (start_fails (rests_for_good (record w { index = i; result = result.Resources })))
      (λ e. record { held = λ q. held_with_main w.sub is (record w { main = Some c.next; index = i }) refl; fresh = known_next w old; below = inr (ltb-true _ _ e) })
      (λ e. spent (record w { index = i }))

  start_goes_on_good : (k : UnitKind) (w : UnitState) → Old w → w.sub ≡ Start → Good (start_goes_on k s c w)
  start_goes_on_good Simple w old is = started (exits s c w) (exits_good w old)
  start_goes_on_good Exec w old is = started (exits s c w) (exits_good w old)
  start_goes_on_good Oneshot w old is = by_cond Good (has_place s.start (w.index + 1)) (next_command c w (w.index + 1)) (start_ends (exits s c w))
      (λ e. next_command_good w (w.index + 1) old is) (λ e. started (exits s c w) (exits_good w old))
  start_goes_on_good Target w old is = started (exits s c w) (exits_good w old)

  executed_good : (u : UnitState) → u.sub ≡ Start → Old u → (Held → HasItsProcess u)
      → Good (cond (has_one_command s.kind) (start_ends (just (record u { sub = Running; deadline = None }))) (just u))
  executed_good u is old h = by_cond Good (has_one_command s.kind) (start_ends (just (record u { sub = Running; deadline = None }))) (just u)
      (λ e. record { held = λ q. subst (λ x. has_its_process x u ≡ true) is (h q); fresh = λ n k. inl (old n k); below = inl refl })
      (λ e. just_good u old h)

  noted_old : (w : UnitState) (e : End) (clean : Bool) → Old w → Old (noted w e clean)
  noted_old w e true old = old
  noted_old w e false old = old

  without_main_old : (u : UnitState) (e : End) → Old u → Old (without_main s u e)
  without_main_old u e old = noted_old (record u { main = None; last = Some e }) e (is_clean s u Main e) less
    where
      less : Old (record u { main = None; last = Some e })
      less n (inl e) = absurd (let b : ⊥ = cc in b)
      less n (inr e) = old n (inr e)

  with_no_control_old : (u : UnitState) → Old u → Old (record u { control = None })
  with_no_control_old u old n (inl e) = old n (inl e)
  with_no_control_old u old n (inr e) = absurd (let b : ⊥ = cc in b)

  without_control_old : (u : UnitState) (e : End) → Old u → Old (without_control s u e)
  without_control_old u e old = noted_old (record u { control = None }) e (is_clean s u Control e) (with_no_control_old u old)

  main_sub : (u : UnitState) (e : End) → (without_main s u e).sub ≡ u.sub
  main_sub u e = noted_sub (record u { main = None; last = Some e }) e (is_clean s u Main e)

  control_sub : (u : UnitState) (e : End) → (without_control s u e).sub ≡ u.sub
  control_sub u e = noted_sub (record u { control = None }) e (is_clean s u Control e)

  -- a unit that stays in a state with these processes has its process as before
  held_in : (sub : SubState) (w : UnitState) → w.sub ≡ sub → has_its_process sub w ≡ true → HasItsProcess w
  held_in sub w is h = subst (λ x. has_its_process x w ≡ true) (sym is) h

  control_stays : (u : UnitState) (e : End) → u.sub ≡ Stop → (Held → HasItsProcess u) → Held → HasItsProcess (without_main s u e)
  control_stays u e is h q = held_in Stop (without_main s u e) (main_sub u e ∙ is)
      (subst (λ x. is_some x ≡ true) (sym (noted_control (record u { main = None; last = Some e }) e (is_clean s u Main e)))
      (subst (λ x. has_its_process x u ≡ true) is (h q)))

  row_good : (sub : SubState) (event : UnitEvent) (u : UnitState) → u.sub ≡ sub → Old u → (Held → HasItsProcess u) → Good (row s c u (active_state_of sub) sub event)
  row_good sub Reset u is old h =
      just_good (forgiven u) old (λ q. same_held (cond (is_failed u.sub) Dead u.sub) u (forgiven u) refl refl (held_unless_failed (is_failed u.sub) u.sub u (h q)))
  row_good Running StartBegins u is old h = started (just u) (just_good u old h)
  row_good Exited StartBegins u is old h = started (just u) (just_good u old h)
  row_good Active StartBegins u is old h = started (just u) (just_good u old h)
  row_good Dead StartBegins u is old h = starts_good u old
  row_good Failed StartBegins u is old h = starts_good u old
  row_good AutoRestart StartBegins u is old h = starts_good u old
  row_good StartPre (ControlEnds e) u is old h =
      by_cond Good (is_control_done s OfStartPre u e) (pre_goes_on s c (record u { control = None })) (start_fails (rests s c (without_control s u e)))
      (λ _. pre_goes_on_good (record u { control = None }) (with_no_control_old u old)) (λ _. failed (rests s c (without_control s u e)) (rests_good (without_control s u e)))
  row_good StartPre DeadlinePasses u is old h = failed (terminates s c (record u { result = result.Timeout })) (terminates_good (record u { result = result.Timeout }) old)
  row_good Start Executed u is old h = executed_good u is old h
  row_good Start (MainEnds e) u is old h =
      by_cond Good (is_clean s u Main e) (start_goes_on s.kind s c (without_main s u e)) (start_fails (rests s c (without_main s u e)))
      (λ _. start_goes_on_good s.kind (without_main s u e) (without_main_old u e old) (main_sub u e ∙ is)) (λ _. failed (rests s c (without_main s u e)) (rests_good (without_main s u e)))
  row_good Start DeadlinePasses u is old h = failed (terminates s c (record u { result = result.Timeout })) (terminates_good (record u { result = result.Timeout }) old)
  row_good Running (MainEnds e) u is old h =
      by_cond Good (is_clean s u Main e) (exits s c (without_main s u e)) (winds_down s c (without_main s u e) 0)
      (λ _. exits_good (without_main s u e) (without_main_old u e old)) (λ _. winds_down_good (without_main s u e) 0 (without_main_old u e old))
  row_good Running StopBegins u is old h = winds_down_good (told_to_stop u) 0 old
  row_good Exited StopBegins u is old h = winds_down_good (told_to_stop u) 0 old
  row_good StartPre StopBegins u is old h = terminates_good (told_to_stop u) old
  row_good Start StopBegins u is old h = terminates_good (told_to_stop u) old
  row_good AutoRestart StopBegins u is old h = record { held = λ q. refl; fresh = λ n k. inl (old n k); below = inl refl }
  row_good Stop StopBegins u is old h = just_good (told_to_stop u) old (λ q. same_held u.sub u (told_to_stop u) refl refl (h q))
  row_good StopSigterm StopBegins u is old h = just_good (told_to_stop u) old (λ q. same_held u.sub u (told_to_stop u) refl refl (h q))
  row_good StopSigkill StopBegins u is old h = just_good (told_to_stop u) old (λ q. same_held u.sub u (told_to_stop u) refl refl (h q))
  row_good Active StopBegins u is old h = record { held = λ q. refl; fresh = λ n k. inl (old n k); below = inl refl }
  row_good Dead StopBegins u is old h = stopped (just u) (just_good u old h)
  row_good Failed StopBegins u is old h = stopped (just u) (just_good u old h)
  row_good Stop (ControlEnds e) u is old h =
      by_cond Good (is_control_done s OfStop u e) (winds_down s c (record u { control = None }) (u.index + 1)) (terminates s c (without_control s u e))
      (λ _. winds_down_good (record u { control = None }) (u.index + 1) (with_no_control_old u old)) (λ _. terminates_good (without_control s u e) (without_control_old u e old))
  row_good Stop (MainEnds e) u is old h = just_good (without_main s u e) (without_main_old u e old) (control_stays u e is h)
  row_good Stop DeadlinePasses u is old h = terminates_good (timed_out u) old
  row_good StopSigterm (MainEnds e) u is old h =
      rests_unless_live_good (without_main s u e) (without_main_old u e old) (λ l q. held_in StopSigterm (without_main s u e) (main_sub u e ∙ is) l)
  row_good StopSigterm (ControlEnds e) u is old h =
      rests_unless_live_good (without_control s u e) (without_control_old u e old) (λ l q. held_in StopSigterm (without_control s u e) (control_sub u e ∙ is) l)
  row_good StopSigkill (MainEnds e) u is old h =
      rests_unless_live_good (without_main s u e) (without_main_old u e old) (λ l q. held_in StopSigkill (without_main s u e) (main_sub u e ∙ is) l)
  row_good StopSigkill (ControlEnds e) u is old h =
      rests_unless_live_good (without_control s u e) (without_control_old u e old) (λ l q. held_in StopSigkill (without_control s u e) (control_sub u e ∙ is) l)
  row_good StopSigterm DeadlinePasses u is old h = record { held = λ q. subst (λ x. has_its_process x u ≡ true) is (h q); fresh = λ n k. inl (old n k); below = inl refl }
  row_good StopSigkill DeadlinePasses u is old h = rests_for_good_good (timed_out u)
  row_good sub event u is old h = just_good u old h

  transition_good : (u : UnitState) (e : UnitEvent) → Old u → (Held → HasItsProcess u) → Good (transition s c u e)
  transition_good u BoundStop old h = by_cond Good (is_going (active_state_of u.sub)) (fails_start u.sub (row s c u (active_state_of u.sub) u.sub StopBegins)) (just u)
      (λ e. failing u.sub (row s c u (active_state_of u.sub) u.sub StopBegins) (row_good u.sub StopBegins u refl old h)) (λ e. just_good u old h)
  transition_good u StartBegins old h =
      by_cond Good c.loadable (row s c u (active_state_of u.sub) u.sub StartBegins) (start_fails (just (record u { result = result.NotLoaded })))
      (λ e. row_good u.sub StartBegins u refl old h)
      (λ e. failed (just (record u { result = result.NotLoaded }))
      (just_good (record u { result = result.NotLoaded }) old (λ q. same_held u.sub u (record u { result = result.NotLoaded }) refl refl (h q))))
  transition_good u StopBegins old h = row_good u.sub StopBegins u refl old h
  transition_good u Executed old h = row_good u.sub Executed u refl old h
  transition_good u (MainEnds e) old h = row_good u.sub (MainEnds e) u refl old h
  transition_good u (ControlEnds e) old h = row_good u.sub (ControlEnds e) u refl old h
  transition_good u DeadlinePasses old h = row_good u.sub DeadlinePasses u refl old h
  transition_good u Reset old h = row_good u.sub Reset u refl old h

-- a unit that starts, runs or stops keeps a live process
pub keeps_process : (s : ServiceSettings) (c : Around) (u : UnitState) (e : UnitEvent) → HasItsProcess u → HasItsProcess (transition s c u e).unit
keeps_process s c u e = (transition_good s c (HasNumber u) (HasItsProcess u) u e (λ n k. k) (λ q. q)).held

-- each number that is new to the unit is the next one, and a process was started under it
pub numbers_are_next : (s : ServiceSettings) (c : Around) (u : UnitState) (e : UnitEvent) (n : ℕ) → HasNumber (transition s c u e).unit n
    → HasNumber u n ⊎ ((n ≡ c.next) × (spawned (transition s c u e).order ≡ 1))
numbers_are_next s c u e = (transition_good s c (HasNumber u) (HasItsProcess u) u e (λ n k. k) (λ q. q)).fresh

at_most : (a n : ℕ) → n ≤ process_limit → (a ≡ 0) ⊎ (n < process_limit) → a ≤ 1 → n + a ≤ process_limit
at_most a n h (inl e) k = omega arith
at_most a n h (inr e) k = omega arith

spawned_few : (o : Order) → spawned o ≤ 1
spawned_few Nothing = omega arith
spawned_few (Spawn which i) = omega arith
spawned_few (Signal signal) = omega arith

-- the next number stays within 2^63
pub next_is_small : (s : ServiceSettings) (c : Around) (u : UnitState) (e : UnitEvent) → c.next ≤ process_limit → c.next + spawned (transition s c u e).order ≤ process_limit
next_is_small s c u e h = at_most _ c.next h (transition_good s c (HasNumber u) (HasItsProcess u) u e (λ n k. k) (λ q. q)).below (spawned_few (transition s c u e).order)

spawned_one : (a n : ℕ) → (a ≡ 0) ⊎ (n < process_limit) → a ≡ 1 → n < process_limit
spawned_one a n (inl e) f = omega arith
spawned_one a n (inr e) f = e

-- if a process is started there is a number for it
pub has_room : (s : ServiceSettings) (c : Around) (u : UnitState) (e : UnitEvent) → spawned (transition s c u e).order ≡ 1 → c.next < process_limit
has_room s c u e = spawned_one _ c.next (transition_good s c (HasNumber u) (HasItsProcess u) u e (λ n k. k) (λ q. q)).below

-- An order's actions are one list.

nothing_is_started : (environment : List Variable) (b : List (List ℕ)) → AreStarted environment None b → [] ≡ b
nothing_is_started environment b no_command = refl

command_starts : (environment : List Variable) (command : Command) (b : List (List ℕ)) → AreStarted environment (Some command) b
    → ((command.substitutes ≡ true) × AreSubstituted environment command.words b) ⊎ ((command.substitutes ≡ false) × (command.words ≡ b))
command_starts environment command b (substituted k words does are) = inl (does, are)
command_starts environment command b (as_written k does_not) = inr (does_not, refl)

same_as_substituted : (environment : List Variable) (command : Command) (a b : List (List ℕ)) → command.substitutes ≡ true → AreSubstituted environment command.words a
    → ((command.substitutes ≡ true) × AreSubstituted environment command.words b) ⊎ ((command.substitutes ≡ false) × (command.words ≡ b)) → a ≡ b
same_as_substituted environment command a b does are (inl p) = same_substituted environment command.words a b are p.1
same_as_substituted environment command a b does are (inr p) = absurd (false≢true (sym p.0 ∙ does))

same_as_written : (environment : List Variable) (command : Command) (b : List (List ℕ)) → command.substitutes ≡ false
    → ((command.substitutes ≡ true) × AreSubstituted environment command.words b) ⊎ ((command.substitutes ≡ false) × (command.words ≡ b)) → command.words ≡ b
same_as_written environment command b does_not (inl p) = absurd (false≢true (sym does_not ∙ p.0))
same_as_written environment command b does_not (inr p) = p.1

-- a command is started with one list of words at most
pub same_started : (environment : List Variable) (command : Option Command) (a b : List (List ℕ)) → AreStarted environment command a → AreStarted environment command b → a ≡ b
same_started environment command a b no_command others = nothing_is_started environment b others
same_started environment command a b (substituted k words does are) others =
    same_as_substituted environment k words b does are (command_starts environment k b others)
same_started environment command a b (as_written k does_not) others = same_as_written environment k b does_not (command_starts environment k b others)

nothing_is_asked : (s : ServiceSettings) (c : Around) (u : UnitState) (b : List Action) → AreActions s c u Nothing b → [] ≡ b
nothing_is_asked s c u b nothing = refl

spawns_one : (s : ServiceSettings) (c : Around) (u : UnitState) (which : CommandList) (i : ℕ) (b : List Action) → AreActions s c u (Spawn which i) b
    → (words : List (List ℕ)) × AreStarted s.environment (slice_get (commands_in s which) i) words × (SpawnProcess c.next words (environment_texts s) ∷ [] ≡ b)
spawns_one s c u which i b (spawn list place words are) = (words, are, refl)

signals_all : (s : ServiceSettings) (c : Around) (u : UnitState) (sent : signal.Signal) (b : List Action) → AreActions s c u (Signal sent) b
    → map (λ n. SendSignal n sent) (live_numbers u) ≡ b
signals_all s c u sent b (signals other) = refl

-- an order's actions are one list at most
pub same_actions : (s : ServiceSettings) (c : Around) (u : UnitState) (o : Order) (a b : List Action) → AreActions s c u o a → AreActions s c u o b → a ≡ b
same_actions s c u o a b nothing others = nothing_is_asked s c u b others
same_actions s c u o a b (spawn which i words are) others =
    let t = spawns_one s c u which i b others in
    ap (λ w. SpawnProcess c.next w (environment_texts s) ∷ []) (same_started s.environment (slice_get (commands_in s which) i) words t.0 are t.1) ∙ t.2
same_actions s c u o a b (signals sent) others = signals_all s c u sent b others

-- a command is started with some words
have_started : (environment : List Variable) (command : Option Command) → (words : List (List ℕ)) × AreStarted environment command words
have_started environment None = ([], no_command)
have_started environment (Some c) = elim c.substitutes as (λ b. c.substitutes ≡ b → (words : List (List ℕ)) × AreStarted environment (Some c) words) [
  | true ↦ λ yes. let found = have_substituted environment c.words in (found.0, substituted c found.0 yes found.1)
  | false ↦ λ no. (c.words, as_written c no)
] refl

-- each order has its actions
pub have_actions : (s : ServiceSettings) (c : Around) (u : UnitState) (order : Order) → (actions : List Action) × AreActions s c u order actions
have_actions s c u Nothing = ([], nothing)
have_actions s c u (Spawn which i) =
    let found = have_started s.environment (slice_get (commands_in s which) i) in
    (_, spawn which i found.0 found.1)
have_actions s c u (Signal signal) = (_, signals signal)
