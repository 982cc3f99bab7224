-- Each change of a unit leaves it with bytes: row by row of the table.
use Rattle.std.proofs.Common.{ℕ, ◌≡◌, inl, inr, ◌+◌, ◌<◌, ◌≤◌, ◌^◌, ◌&&◌, nat_lt, Bool, true, false, not, cond, List, [], ◌∷◌, Option, Some, None, filter_map, length, refl, sym, ap, ◌∙◌, arith}
use Rattle.std.specs.Prelude.{IfSome, codes}
use Rattle.std.proofs.lemmas.Bool.{and_parts, ltb-true}
use Rattle.std.proofs.lemmas.Option.{none-some, same_Some}
use Rattle.um_model.specs.Profiles.{ReadTree}
use Rattle.um_model.specs.Limit.{is_unlimited, is_over, limited, counted}
use Rattle.std.specs.Option.{ok_or, option_map_or}
use Rattle.std.specs.List.{flat_map}
use Rattle.std.specs.Result.{result_ok}
use Rattle.um_model.specs.Dependencies.{loadable_of}
use Rattle.um_model.specs.Machine.{settings_in}
use Rattle.um_model.specs.Moments.{moment_limit, span_limit, deadline_limit}
use Rattle.um_model.specs.Names.{suffix_of, is_template}
use Rattle.um_model.specs.Resolution.{Resolution, AtFile, AtNoFile, AtMask, Nowhere, resolution_of}
use Rattle.um_model.specs.Service.{active_state_of}
use Rattle.um_model.specs.Settings.{ServiceSettings, default_settings, has_place}
use Rattle.um_model.specs.Spellings.{FitEnd}
use Rattle.um_model.specs.Ends.{is_clean, is_restart_wanted, has_one_command}
use Rattle.um_model.specs.Transitions.{deadline_after, has_number, is_live, just, asking, start_ends, start_fails, rests_for_good, waits_to_restart, rests, terminates, stop_command, winds_down, first_command, start_of, pre_command, prepares, starts_if, starts, starts_prepared, pre_goes_on, exits, next_command, start_goes_on, rests_unless_live, noted, without_main, without_control, timed_out, told_to_stop, is_control_done, row, is_going, transition, HasNumber, fails_start}
use Rattle.um_model.specs.Units.{Assigned, default_timeout, last_said, unless_zero, values_of, default_timeout_start, service_settings_with, service_settings_of, LoadedUnit, Loading, Found, Masked, NotFound, BadSetting, loading_at, load}
use Rattle.um_model.specs.Values.{number_of, span_of}
use Rattle.um_model.specs.Commands.{Command}
use Rattle.um_model.specs.declared.limit.Counted.{Counted}
use Rattle.um_model.specs.declared.names.Suffix.{Suffix}
use Rattle.um_model.specs.declared.names.Suffix.TheVariants.{Service}
use Rattle.um_model.specs.declared.service.End.{End}
use Rattle.um_model.specs.declared.service.Signal.TheVariants.{Term}
use Rattle.um_model.specs.declared.service.SubState.{SubState}
use Rattle.um_model.specs.declared.service.SubState.TheVariants.{Dead, StartPre, Start, Running, Exited, Stop, StopSigterm, StopSigkill, Failed, AutoRestart, Active}
use Rattle.um_model.specs.declared.service.UnitResult.TheVariants as result
use Rattle.um_model.specs.declared.service.UnitState.{UnitState}
use Rattle.um_model.specs.declared.transition.Around.{Around}
use Rattle.um_model.specs.declared.transition.Change.{Change}
use Rattle.um_model.specs.declared.transition.CommandList.TheVariants.{OfStartPre, OfStart, OfStop}
use Rattle.um_model.specs.declared.transition.Order.TheVariants.{Spawn, Signal}
use Rattle.um_model.specs.declared.transition.Process.TheVariants.{Main, Control}
use Rattle.um_model.specs.declared.transition.UnitEvent.{UnitEvent}
use Rattle.um_model.specs.declared.transition.UnitEvent.TheVariants.{StartBegins, StopBegins, BoundStop, Executed, MainEnds, ControlEnds, DeadlinePasses, Reset}
use Rattle.um_model.specs.declared.profile.Profile.{Profile}
use Rattle.um_model.specs.declared.transition.UnitKind.{UnitKind}
use Rattle.um_model.specs.declared.transition.UnitKind.TheVariants.{Simple, Exec, Oneshot, Target}
use Rattle.um_model.specs.declared.units.ValueKind.TheVariants as kinds
use Rattle.um_model.specs.declared.warnings.WarningKind.TheVariants.{UnreadableValue}
use Rattle.um_model.proofs.Forms.{found_unless}
use Rattle.um_laws.proofs.AmongLaws.{from_flat_map}
use Rattle.um_laws.proofs.InvariantLaws.{FitUnitEvent}
use Rattle.um_model.proofs.LeastLaws.{Among}
use Rattle.um_laws.proofs.TransitionLaws.{by_cond}
use Rattle.um_model.proofs.ValuesLaws.{IsNumber-number_of, IsSpan-span_of}
use Rattle.um_model.specs.FileForms.{place_limit, last_or, number_limit}

-- ---- settings

abbrev IsLowSpan : Option ℕ → Type 0
IsLowSpan span = IfSome span (λ n. n ≤ span_limit)

-- spans and burst are within their limits
pub record AreLow (s : ServiceSettings) : Type 0 where
  pub delay : IfSome s.restart_delay (λ n. n ≤ span_limit)
  pub start : IfSome s.timeout_start (λ n. n ≤ span_limit)
  pub stop : IfSome s.timeout_stop (λ n. n ≤ span_limit)
  pub burst : s.limit_burst ≤ number_limit

module _ {A : Type 0} (P : A → Type 0) where
  last_holds : (default : A) (xs : List A) → P default → ((x : A) → Among xs x → P x) → P (last_or default xs)
  last_holds default [] first others = first
  last_holds default (x ∷ xs) first others = last_holds x xs (others x (inl refl)) (λ y later. others y (inr later))

  -- a property of the default and of all values that can be read is one of the last that is read
  read_holds : (read : List ℕ → Option A) (default : A) (values : List (List ℕ)) → P default → ((value : List ℕ) (a : A) → read value ≡ Some a → P a)
      → P (last_or default (flat_map (λ value. filter_map result_ok (ok_or (read value) UnreadableValue ∷ [])) values))
  read_holds read default values first each = last_holds default _ first one
    where
      said : List ℕ → List A
      said value = filter_map result_ok (ok_or (read value) UnreadableValue ∷ [])

      by_read : (value : List ℕ) (a : A) (o : Option A) → read value ≡ o → Among (filter_map result_ok (ok_or o UnreadableValue ∷ [])) a → P a
      by_read value a None e none = absurd none
      by_read value a (Some b) e (inl same) = each value a (e ∙ ap (λ x. Some x) (sym same))
      by_read value a (Some b) e (inr none) = absurd none

      one : (a : A) → Among (flat_map said values) a → P a
      one a among = let found = from_flat_map said values a among in by_read found.0 a (read found.0) refl found.2

span_low : (value : List ℕ) (n : ℕ) → span_of value ≡ Some (Some n) → n ≤ span_limit
span_low value n e = (IsSpan-span_of value (Some n) e).2

by_span : (value : List ℕ) (a : Option ℕ) → span_of value ≡ Some a → IsLowSpan a
by_span value None e = tt
by_span value (Some n) e = span_low value n e

zero_low : (n : ℕ) (b : Bool) → n ≤ span_limit → IsLowSpan (cond b None (Some n))
zero_low n true low = tt
zero_low n false low = low

timeout_low : (span : Option ℕ) → IsLowSpan span → IsLowSpan (unless_zero span)
timeout_low None low = tt
timeout_low (Some n) low = zero_low n _ low

default_low : (kind : UnitKind) → IsLowSpan (default_timeout_start kind)
default_low Simple = omega arith
default_low Exec = omega arith
default_low Oneshot = tt
default_low Target = omega arith

said_low : (unit : List ℕ) (default : Option ℕ) (key : List ℕ) (assigned : List Assigned) → IsLowSpan default
    → IsLowSpan (unless_zero (last_said unit kinds.Span default ((codes "Service", key) ∷ (codes "Service", codes "TimeoutSec") ∷ []) assigned))
said_low unit default key assigned low =
    let keys = (codes "Service", key) ∷ (codes "Service", codes "TimeoutSec") ∷ [] in
    timeout_low (last_said unit kinds.Span default keys assigned) (read_holds IsLowSpan span_of default (values_of keys assigned) low by_span)

with_low : (start_pre start : List Command) (kind : UnitKind) (unit : List ℕ) (assigned : List Assigned) → AreLow (service_settings_with start_pre start kind unit assigned)
with_low start_pre start kind unit assigned = record {
  delay = read_holds IsLowSpan span_of (Some 100000) _ (omega arith) by_span;
  start = said_low unit (default_timeout_start kind) (codes "TimeoutStartSec") assigned (default_low kind);
  stop = said_low unit (Some default_timeout) (codes "TimeoutStopSec") assigned (omega arith);
  burst = read_holds (λ n. n ≤ number_limit) number_of 5 _ (omega arith) (λ value n e. (IsNumber-number_of value n e).limit);
}

service_low : (profile : Profile) (suffix : Option Suffix) (unit : List ℕ) (assigned : List Assigned) → AreLow (service_settings_of profile suffix unit assigned)
unfolding service_settings_of
service_low profile (Some Service) unit assigned = with_low _ _ _ unit assigned
service_low profile _ unit assigned = with_low [] [] Target unit assigned

abbrev IsLowFound : Loading → Type 0
IsLowFound (Found l) = AreLow l.settings.service
IsLowFound other = Unit {0}

unless_low : (reason : Option (List ℕ)) (l : LoadedUnit) → AreLow l.settings.service → IsLowFound (found_unless reason l)
unless_low None l low = low
unless_low (Some reason) l low = tt

loads_low : (tree : ReadTree) (unit : List ℕ) → IsLowFound (load tree unit)
unfolding load
loads_low tree unit = by (resolution_of tree.entries unit)
  where
    by : (r : Resolution) → IsLowFound (loading_at tree r)
    by (AtFile found path text) = unless_low _ _ (service_low tree.profile (suffix_of found) found _)
    by (AtNoFile found) = service_low tree.profile (suffix_of found) found _
    by (AtMask found) = tt
    by Nowhere = tt

unloadable_low : AreLow (default_settings Simple)
unloadable_low = record { delay = omega arith; start = omega arith; stop = omega arith; burst = omega arith }

loadable_low : (found : Loading) → IsLowFound found → AreLow (option_map_or (λ (l : LoadedUnit). l.settings.service) (loadable_of found) (default_settings Simple))
loadable_low (Found l) low = by (is_template l.name)
  where
    by : (b : Bool) → AreLow (option_map_or (λ (l : LoadedUnit). l.settings.service) (cond b None (Some l)) (default_settings Simple))
    by true = unloadable_low
    by false = low
loadable_low (Masked unit) low = unloadable_low
loadable_low NotFound low = unloadable_low
loadable_low (BadSetting unit reason) low = unloadable_low

-- those by which a unit acts
pub settings_low : (tree : ReadTree) (unit : List ℕ) → AreLow (settings_in tree unit)
settings_low tree unit = loadable_low (load tree unit) (loads_low tree unit)

-- ---- one unit

-- the fields of a unit fit at the moment t; its processes have two different numbers
pub record AreGood (t index : ℕ) (deadline : Option ℕ) (window : Option Counted) (last : Option End) (main control : Option ℕ) : Type 0 where
  pub index_low : index < 2 ^ 32
  pub deadline_low : IfSome deadline (λ d. d ≤ deadline_limit)
  pub window_low : IfSome window (λ w. (w.began ≤ t) × (w.count < 2 ^ 32))
  pub last_low : IfSome last FitEnd
  pub apart : (n : ℕ) → main ≡ Some n → control ≡ Some n → ⊥

abbrev pub IsGood : ℕ → UnitState → Type 0
IsGood t u = AreGood t u.index u.deadline u.window u.last u.main u.control

module _ (s : ServiceSettings) (c : Around) (low : AreLow s) (early : c.moment ≤ moment_limit) where
  abbrev Good : UnitState → Type 0
  Good w = IsGood c.moment w

  -- after a change
  abbrev Leaves : Change → Type 0
  Leaves v = Good v.unit

  -- all numbers are below the next one
  abbrev Below : UnitState → Type 0
  Below w = (n : ℕ) → HasNumber w n → n < c.next

  none_apart : (control : Option ℕ) (n : ℕ) → None ≡ Some n → control ≡ Some n → ⊥
  none_apart control n e f = none-some n e

  deadline_fits : (span : Option ℕ) → IsLowSpan span → IfSome (deadline_after c.moment span) (λ d. d ≤ deadline_limit)
  deadline_fits None h = tt
  deadline_fits (Some n) h = omega (arith, h, early)

  rests_for_good_good : (w : UnitState) → Good w → Leaves (rests_for_good w)
  rests_for_good_good w g = record { index_low = g.index_low; deadline_low = tt; window_low = g.window_low; last_low = g.last_low; apart = none_apart None }

  rests_good : (w : UnitState) → Good w → Leaves (rests s c w)
  rests_good w g = by_cond Leaves (not w.stop_asked && not c.stop_waits && is_restart_wanted s w) (waits_to_restart s c w) (rests_for_good w)
      (λ e. record { index_low = g.index_low; deadline_low = deadline_fits s.restart_delay low.delay; window_low = g.window_low; last_low = g.last_low; apart = none_apart None })
      (λ e. rests_for_good_good w g)

  terminates_good : (w : UnitState) → Good w → Leaves (terminates s c w)
  terminates_good w g = by_cond Leaves (is_live w) (asking (Signal Term) (just (record w { sub = StopSigterm; deadline = deadline_after c.moment s.timeout_stop }))) (rests s c w)
      (λ e. record { index_low = g.index_low; deadline_low = deadline_fits s.timeout_stop low.stop; window_low = g.window_low; last_low = g.last_low; apart = g.apart })
      (λ e. rests_good w g)

  at_place : (w : UnitState) (i : ℕ) → i < 2 ^ 32 → Good w → Good (record w { index = i })
  at_place w i few g = record { index_low = few; deadline_low = g.deadline_low; window_low = g.window_low; last_low = g.last_low; apart = g.apart }

  next_apart : (n m : ℕ) → n < c.next → Some c.next ≡ Some m → m ≡ n → ⊥
  next_apart n m below e f = let same = same_Some c.next m e in omega (arith, below, same, f)

  stop_command_good : (w : UnitState) (i : ℕ) → i < 2 ^ 32 → Good w → Below w → Leaves (stop_command s c w i)
  stop_command_good w i few g below = by_cond Leaves (has_number c) (asking (Spawn OfStop i) (just (record w { sub = Stop; control = Some c.next; index = i; deadline = deadline_after c.moment s.timeout_stop })))
      (terminates s c (record w { result = result.Resources; index = i }))
      (λ e. record { index_low = few; deadline_low = deadline_fits s.timeout_stop low.stop; window_low = g.window_low; last_low = g.last_low; apart = λ n m k. next_apart n n (below n (inl m)) k refl })
      (λ e. terminates_good (record w { result = result.Resources; index = i }) (at_place w i few g))

  place_few : (commands : List Command) (i : ℕ) → has_place commands i ≡ true → i < 2 ^ 32
  place_few commands i e = ltb-true i place_limit (and_parts (nat_lt i (length commands)) (nat_lt i place_limit) e).1

  winds_down_good : (w : UnitState) (i : ℕ) → Good w → Below w → Leaves (winds_down s c w i)
  winds_down_good w i g below = by_cond Leaves (has_place s.stop i) (stop_command s c w i) (terminates s c w)
      (λ e. stop_command_good w i (place_few s.stop i e) g below) (λ e. terminates_good w g)

  -- the main process is started
  with_next_main : (w : UnitState) (i : ℕ) (deadline : Option ℕ) → i < 2 ^ 32 → IfSome deadline (λ d. d ≤ deadline_limit) → Good w → Below w → Good (record w { main = Some c.next; index = i; deadline = deadline })
  with_next_main w i deadline few at g below =
      record { index_low = few; deadline_low = at; window_low = g.window_low; last_low = g.last_low; apart = λ n m k. next_apart n n (below n (inr k)) m refl }

  without_deadline : (w : UnitState) → Good w → Good (record w { deadline = None })
  without_deadline w g = record { index_low = g.index_low; deadline_low = tt; window_low = g.window_low; last_low = g.last_low; apart = g.apart }

  first_command_good : (w : UnitState) → Good w → Below w → Leaves (first_command s c w)
  first_command_good w g below = by_cond Leaves (has_number c) (asking (Spawn OfStart 0) (just (record w { sub = Start; main = Some c.next; deadline = deadline_after c.moment s.timeout_start })))
      (start_fails (rests_for_good (record w { result = result.Resources })))
      (λ e. with_next_main w w.index (deadline_after c.moment s.timeout_start) g.index_low (deadline_fits s.timeout_start low.start) g below)
      (λ e. rests_for_good_good (record w { result = result.Resources }) g)

  start_simple_good : (w : UnitState) → Good w → Below w → Leaves (start_of Simple s c w)
  start_simple_good w g below = by_cond Leaves (has_number c) (start_ends (asking (Spawn OfStart 0) (just (record w { sub = Running; main = Some c.next; deadline = None }))))
      (start_fails (rests_for_good (record w { result = result.Resources })))
      (λ e. with_next_main w w.index None g.index_low tt g below)
      (λ e. rests_for_good_good (record w { result = result.Resources }) g)

  start_of_good : (k : UnitKind) (w : UnitState) → Good w → Below w → Leaves (start_of k s c w)
  start_of_good Target w g below = without_deadline w g
  start_of_good Simple w g below = start_simple_good w g below
  start_of_good Exec w g below = first_command_good w g below
  start_of_good Oneshot w g below = by_cond Leaves (has_place s.start 0) (first_command s c w) (start_ends (just (record w { sub = Exited; deadline = None })))
      (λ e. first_command_good w g below) (λ e. without_deadline w g)

  -- a control process is started
  with_next_control : (w : UnitState) (i : ℕ) → i < 2 ^ 32 → Good w → Below w → Good (record w { control = Some c.next; index = i })
  with_next_control w i few g below =
      record { index_low = few; deadline_low = g.deadline_low; window_low = g.window_low; last_low = g.last_low; apart = λ n m k. next_apart n n (below n (inl m)) k refl }

  pre_command_good : (w : UnitState) (i : ℕ) → i < 2 ^ 32 → Good w → Below w → Leaves (pre_command c w i)
  pre_command_good w i few g below = by_cond Leaves (has_number c) (asking (Spawn OfStartPre i) (just (record w { sub = StartPre; control = Some c.next; index = i })))
      (start_fails (rests_for_good (record w { index = i; result = result.Resources })))
      (λ e. with_next_control w i few g below)
      (λ e. rests_for_good_good (record w { index = i; result = result.Resources }) (at_place w i few g))

  start_time : (w : UnitState) → Good w → Good (record w { deadline = deadline_after c.moment s.timeout_start })
  start_time w g = record { index_low = g.index_low; deadline_low = deadline_fits s.timeout_start low.start; window_low = g.window_low; last_low = g.last_low; apart = g.apart }

  prepares_good : (w : UnitState) → Good w → Below w → Leaves (prepares s c w)
  prepares_good w g below = by_cond Leaves (has_place s.start_pre 0) (pre_command c (record w { deadline = deadline_after c.moment s.timeout_start }) 0) (start_of s.kind s c w)
      (λ e. pre_command_good (record w { deadline = deadline_after c.moment s.timeout_start }) 0 (place_few s.start_pre 0 e) (start_time w g) below) (λ e. start_of_good s.kind w g below)

  starts_prepared_good : (w : UnitState) → Good w → Below w → Leaves (starts_prepared s c w)
  starts_prepared_good w g below = by_cond Leaves c.loadable (start_of s.kind s c (record w { index = 0 })) (start_fails (rests s c (record w { result = result.NotLoaded })))
      (λ e. start_of_good s.kind (record w { index = 0 }) (at_place w 0 (omega arith) g) below) (λ e. rests_good (record w { result = result.NotLoaded }) g)

  pre_goes_on_good : (w : UnitState) → Good w → Below w → Leaves (pre_goes_on s c w)
  pre_goes_on_good w g below = by_cond Leaves (has_place s.start_pre (w.index + 1)) (pre_command c w (w.index + 1)) (starts_prepared s c w)
      (λ e. pre_command_good w (w.index + 1) (place_few s.start_pre (w.index + 1) e) g below) (λ e. starts_prepared_good w g below)

  abbrev IsLowWindow : Option Counted → Type 0
  IsLowWindow window = IfSome window (λ w. (w.began ≤ c.moment) × (w.count < 2 ^ 32))

  -- the window of an answer
  abbrev Answers : Bool × Option Counted → Type 0
  Answers answer = IsLowWindow answer.1

  starts_if_good : (through : Bool) (window : Option Counted) (w : UnitState) → IsLowWindow window → Good w → Below w → Leaves (starts_if through window s c w)
  starts_if_good true window w fits g below =
      prepares_good (record w { result = result.Success; stop_asked = false; index = 0; last = None; window = window })
      (record { index_low = omega arith; deadline_low = g.deadline_low; window_low = fits; last_low = tt; apart = g.apart }) below
  starts_if_good false window w fits g below = without_deadline w g

  more_counted : (w : Counted) (burst : ℕ) (b : Bool) → nat_lt w.count burst ≡ b → burst ≤ number_limit → IsLowWindow (Some w)
      → Answers (cond b (true, Some (record w { count = w.count + 1 })) (false, Some w))
  more_counted w burst true e most fits = (fits.0, omega (arith, ltb-true w.count burst e, most))
  more_counted w burst false e most fits = fits

  window_begun : IsLowWindow (Some (record { began = c.moment; count = 1 }))
  window_begun = (omega arith, omega arith)

  over_or_counted : (w : Counted) (burst : ℕ) (b : Bool) → burst ≤ number_limit → IsLowWindow (Some w)
      → Answers (cond b (true, Some (record { began = c.moment; count = 1 })) (cond (nat_lt w.count burst) (true, Some (record w { count = w.count + 1 })) (false, Some w)))
  over_or_counted w burst true most fits = window_begun
  over_or_counted w burst false most fits = more_counted w burst (nat_lt w.count burst) refl most fits

  limited_low : (interval : Option ℕ) (burst : ℕ) (window : Option Counted) → burst ≤ number_limit → IsLowWindow window → Answers (limited interval burst c.moment window)
  limited_low interval burst None most fits = window_begun
  limited_low interval burst (Some w) most fits = over_or_counted w burst (is_over interval c.moment w.began) most fits

  counted_low : (interval : Option ℕ) (burst : ℕ) (window : Option Counted) → burst ≤ number_limit → IsLowWindow window → Answers (counted interval burst c.moment window)
  counted_low interval burst window most fits = by (is_unlimited interval burst)
    where
      by : (b : Bool) → Answers (cond b (true, window) (limited interval burst c.moment window))
      by true = fits
      by false = limited_low interval burst window most fits

  starts_good : (w : UnitState) → Good w → Below w → Leaves (starts s c w)
  starts_good w g below =
      let answer = counted s.limit_interval s.limit_burst c.moment w.window in
      starts_if_good answer.0 answer.1 w (counted_low s.limit_interval s.limit_burst w.window low.burst g.window_low) g below

  exits_good : (w : UnitState) → Good w → Below w → Leaves (exits s c w)
  exits_good w g below = by_cond Leaves s.remains (just (record w { sub = Exited; deadline = None })) (winds_down s c w 0) (λ e. without_deadline w g) (λ e. winds_down_good w 0 g below)

  rests_unless_live_good : (w : UnitState) → Good w → Leaves (rests_unless_live s c w)
  rests_unless_live_good w g = by_cond Leaves (is_live w) (just w) (rests s c w) (λ e. g) (λ e. rests_good w g)

  next_command_good : (w : UnitState) (i : ℕ) → i < 2 ^ 32 → Good w → Below w → Leaves (next_command c w i)
  next_command_good w i few g below = by_cond Leaves (has_number c) (asking (Spawn OfStart i) (just (record w { main = Some c.next; index = i })))
      (start_fails (rests_for_good (record w { index = i; result = result.Resources })))
      (λ e. with_next_main w i w.deadline few g.deadline_low g below)
      (λ e. rests_for_good_good (record w { index = i; result = result.Resources }) (at_place w i few g))

  start_goes_on_good : (k : UnitKind) (w : UnitState) → Good w → Below w → Leaves (start_goes_on k s c w)
  start_goes_on_good Simple w g below = exits_good w g below
  start_goes_on_good Exec w g below = exits_good w g below
  start_goes_on_good Oneshot w g below = by_cond Leaves (has_place s.start (w.index + 1)) (next_command c w (w.index + 1)) (start_ends (exits s c w))
      (λ e. next_command_good w (w.index + 1) (place_few s.start (w.index + 1) e) g below) (λ e. exits_good w g below)
  start_goes_on_good Target w g below = exits_good w g below

  executed_good : (u : UnitState) → Good u → Leaves (cond (has_one_command s.kind) (start_ends (just (record u { sub = Running; deadline = None }))) (just u))
  executed_good u g = by_cond Leaves (has_one_command s.kind) (start_ends (just (record u { sub = Running; deadline = None }))) (just u) (λ e. without_deadline u g) (λ e. g)

  noted_good : (w : UnitState) (e : End) (clean : Bool) → Good w → Good (noted w e clean)
  noted_good w e true g = g
  noted_good w e false g = g

  noted_below : (w : UnitState) (e : End) (clean : Bool) → Below w → Below (noted w e clean)
  noted_below w e true below = below
  noted_below w e false below = below

  main_good : (u : UnitState) (e : End) → FitEnd e → Good u → Good (without_main s u e)
  main_good u e fit g = noted_good (record u { main = None; last = Some e }) e (is_clean s u Main e)
      (record { index_low = g.index_low; deadline_low = g.deadline_low; window_low = g.window_low; last_low = fit; apart = none_apart u.control })

  no_control_good : (u : UnitState) → Good u → Good (record u { control = None })
  no_control_good u g = record { index_low = g.index_low; deadline_low = g.deadline_low; window_low = g.window_low; last_low = g.last_low; apart = λ n e f. none-some n f }

  control_good : (u : UnitState) (e : End) → Good u → Good (without_control s u e)
  control_good u e g = noted_good (record u { control = None }) e (is_clean s u Control e) (no_control_good u g)

  main_below : (u : UnitState) (e : End) → Below u → Below (without_main s u e)
  main_below u e below = noted_below (record u { main = None; last = Some e }) e (is_clean s u Main e) less
    where
      less : Below (record u { main = None; last = Some e })
      less n (inl f) = absurd (none-some n f)
      less n (inr f) = below n (inr f)

  no_control_below : (u : UnitState) → Below u → Below (record u { control = None })
  no_control_below u below n (inl f) = below n (inl f)
  no_control_below u below n (inr f) = absurd (none-some n f)

  kills_good : (u : UnitState) → Good u → Good (record u { deadline = deadline_after c.moment s.timeout_stop })
  kills_good u g = record { index_low = g.index_low; deadline_low = deadline_fits s.timeout_stop low.stop; window_low = g.window_low; last_low = g.last_low; apart = g.apart }

  without_window : (u : UnitState) → Good u → Good (record u { window = None })
  without_window u g = record { index_low = g.index_low; deadline_low = g.deadline_low; window_low = tt; last_low = g.last_low; apart = g.apart }

  row_good : (sub : SubState) (event : UnitEvent) (u : UnitState) → FitUnitEvent event → Good u → Below u → Leaves (row s c u (active_state_of sub) sub event)
  row_good sub Reset u fit g below = without_window u g
  row_good Running StartBegins u fit g below = g
  row_good Exited StartBegins u fit g below = g
  row_good Active StartBegins u fit g below = g
  row_good Dead StartBegins u fit g below = starts_good u g below
  row_good Failed StartBegins u fit g below = starts_good u g below
  row_good AutoRestart StartBegins u fit g below = starts_good u g below
  row_good StartPre (ControlEnds e) u fit g below =
      by_cond Leaves (is_control_done s OfStartPre u e) (pre_goes_on s c (record u { control = None })) (start_fails (rests s c (without_control s u e)))
      (λ _. pre_goes_on_good (record u { control = None }) (no_control_good u g) (no_control_below u below)) (λ _. rests_good (without_control s u e) (control_good u e g))
  row_good StartPre DeadlinePasses u fit g below = terminates_good (record u { result = result.Timeout }) g
  row_good Start Executed u fit g below = executed_good u g
  row_good Start (MainEnds e) u fit g below =
      by_cond Leaves (is_clean s u Main e) (start_goes_on s.kind s c (without_main s u e)) (start_fails (rests s c (without_main s u e)))
      (λ _. start_goes_on_good s.kind (without_main s u e) (main_good u e fit g) (main_below u e below)) (λ _. rests_good (without_main s u e) (main_good u e fit g))
  row_good Start DeadlinePasses u fit g below = terminates_good (record u { result = result.Timeout }) g
  row_good Running (MainEnds e) u fit g below =
      by_cond Leaves (is_clean s u Main e) (exits s c (without_main s u e)) (winds_down s c (without_main s u e) 0)
      (λ _. exits_good (without_main s u e) (main_good u e fit g) (main_below u e below)) (λ _. winds_down_good (without_main s u e) 0 (main_good u e fit g) (main_below u e below))
  row_good Running StopBegins u fit g below = winds_down_good (told_to_stop u) 0 g below
  row_good Exited StopBegins u fit g below = winds_down_good (told_to_stop u) 0 g below
  row_good StartPre StopBegins u fit g below = terminates_good (told_to_stop u) g
  row_good Start StopBegins u fit g below = terminates_good (told_to_stop u) g
  row_good AutoRestart StopBegins u fit g below = without_deadline u g
  row_good Stop StopBegins u fit g below = g
  row_good StopSigterm StopBegins u fit g below = g
  row_good StopSigkill StopBegins u fit g below = g
  row_good Active StopBegins u fit g below = without_deadline u g
  row_good Dead StopBegins u fit g below = g
  row_good Failed StopBegins u fit g below = g
  row_good Stop (ControlEnds e) u fit g below =
      by_cond Leaves (is_control_done s OfStop u e) (winds_down s c (record u { control = None }) (u.index + 1)) (terminates s c (without_control s u e))
      (λ _. winds_down_good (record u { control = None }) (u.index + 1) (no_control_good u g) (no_control_below u below)) (λ _. terminates_good (without_control s u e) (control_good u e g))
  row_good Stop (MainEnds e) u fit g below = main_good u e fit g
  row_good Stop DeadlinePasses u fit g below = terminates_good (timed_out u) g
  row_good StopSigterm (MainEnds e) u fit g below = rests_unless_live_good (without_main s u e) (main_good u e fit g)
  row_good StopSigterm (ControlEnds e) u fit g below = rests_unless_live_good (without_control s u e) (control_good u e g)
  row_good StopSigkill (MainEnds e) u fit g below = rests_unless_live_good (without_main s u e) (main_good u e fit g)
  row_good StopSigkill (ControlEnds e) u fit g below = rests_unless_live_good (without_control s u e) (control_good u e g)
  row_good StopSigterm DeadlinePasses u fit g below = kills_good (timed_out u) g
  row_good StopSigkill DeadlinePasses u fit g below = rests_for_good_good (timed_out u) g
  row_good sub event u fit g below = g

  -- each change of a unit leaves it good
  pub transition_fits : (u : UnitState) (e : UnitEvent) → FitUnitEvent e → IsGood c.moment u → ((n : ℕ) → HasNumber u n → n < c.next) → IsGood c.moment (transition s c u e).unit
  transition_fits u BoundStop fit g below = by_cond Leaves (is_going (active_state_of u.sub)) (fails_start u.sub (row s c u (active_state_of u.sub) u.sub StopBegins)) (just u)
      (λ e. row_good u.sub StopBegins u tt g below) (λ e. g)
  transition_fits u StartBegins fit g below =
      by_cond Leaves c.loadable (row s c u (active_state_of u.sub) u.sub StartBegins) (start_fails (just (record u { result = result.NotLoaded })))
      (λ e. row_good u.sub StartBegins u fit g below) (λ e. g)
  transition_fits u StopBegins fit g below = row_good u.sub StopBegins u fit g below
  transition_fits u Executed fit g below = row_good u.sub Executed u fit g below
  transition_fits u (MainEnds e) fit g below = row_good u.sub (MainEnds e) u fit g below
  transition_fits u (ControlEnds e) fit g below = row_good u.sub (ControlEnds e) u fit g below
  transition_fits u DeadlinePasses fit g below = row_good u.sub DeadlinePasses u fit g below
  transition_fits u Reset fit g below = row_good u.sub Reset u fit g below
