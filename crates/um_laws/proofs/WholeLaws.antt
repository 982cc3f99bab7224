-- A state that has bytes holds all that steps keep, so that a step from it leads to a state that has bytes.
use Rattle.std.proofs.Common.{ℕ, ◌≡◌, ◌≢◌, ◌⊎◌, inl, inr, ◌∙◌, ◌<◌, ◌≤◌, ◌^◌, ◌==◌, nat_lt, Bool, true, false, not, ◌&&◌, cond, List, [], ◌∷◌, ◌++◌, length, flat_map, Option, Some, None, unwrap_or, refl, sym, ap, subst, length-append, arith}
use Rattle.std.specs.Prelude.{IfSome}
use Rattle.std.specs.List.{AllByRecursion, list_all}
use Rattle.std.specs.Cmp.Lexicographic.{slice_cmp}
use Rattle.std.specs.FinMap as map
use Rattle.std.specs.FinMap.Entries.{find}
use Rattle.std.specs.Ordering.{nat_cmp, eq_by_cmp}
use Rattle.std.proofs.lemmas.Bool.{cases_lt, leb-true, ltb-true, eq-eqb}
use Rattle.std.proofs.lemmas.List.Folds.{list_all-append}
use Rattle.std.proofs.lemmas.Map.Lookups.{exact_bytes}
use Rattle.std.proofs.lemmas.Map.Views.{tells_apart}
use Rattle.std.proofs.lemmas.Option.{none-some, same_Some}
use Rattle.byteorder.specs.Endian.{big_bytes}
use Rattle.um_model.specs.Bytes.{ByText, FitText}
use Rattle.um_model.specs.Dependencies.{CountsFor}
use Rattle.um_model.specs.InputSpellings.{input_limit, event_fields, FitInput, input_spelling}
use Rattle.um_model.specs.Jobs.{JobShown, jobs, no_jobs, jobs_shown_of}
use Rattle.um_model.specs.Machine.{State, Input, Reply, Refusal, IsHeld, Step}
use Rattle.um_model.specs.Moments.{deadline_limit}
use Rattle.um_model.specs.Names.{is_unit_name}
use Rattle.um_model.specs.Refusals.{Refused}
use Rattle.um_model.specs.Servable.{IsServable}
use Rattle.um_model.specs.Service.{Action, dead_unit, state_of_unit}
use Rattle.um_model.specs.Spellings.{FitProcess, FitDeadline, FitCounted, FitUnitName, FitUnit}
use Rattle.um_model.specs.StateSpellings.{FitEntry, FitTree, is_sub_state_in, have_sub_states, numbers_in, are_distinct, state_spelling, FitState}
use Rattle.um_model.specs.Transitions.{live_numbers, HasNumber}
use Rattle.um_model.specs.Tree.{Tree, Entry, File, Link}
use Rattle.um_model.specs.Weight.{weight_of}
use Rattle.um_model.specs.declared.jobs.JobState.{JobState}
use Rattle.um_model.specs.declared.jobs.UnitJobs.{UnitJobs}
use Rattle.um_model.specs.declared.limit.Counted.{Counted}
use Rattle.um_model.specs.declared.service.UnitState.{UnitState}
use Rattle.um_laws.proofs.AmongLaws.{among_left, among_right}
use Rattle.um_laws.proofs.CrowdedLaws.{a_count}
use Rattle.um_model.proofs.EntriesLaws.{both_true, left_true, right_true, at_each}
use Rattle.um_laws.proofs.FewLaws.{step_few}
use Rattle.um_laws.proofs.FitNamesLaws.{HoldsNames}
use Rattle.um_laws.proofs.FitNumbersLaws.{HasGoodUnits, dead_good, dead_none}
use Rattle.um_laws.proofs.FitStateLaws.{IsWhole, fit_of_whole, step_whole}
use Rattle.um_laws.proofs.FitTreeLaws.{IsTextAt, IsOfTexts}
use Rattle.um_laws.proofs.FitUnitLaws.{IsGood}
use Rattle.um_laws.proofs.InputLengthLaws.{number_long, accepted_short}
use Rattle.um_model.proofs.LeastLaws.{Among}
use Rattle.um_laws.proofs.SceneLaws.{held_list}
use Rattle.um_laws.proofs.StateLengthLaws.{spelled_short}
use Rattle.um_model.proofs.Forms.{numbers, has_begun, FitJob}

-- ---- a property of each entry is one of the value at a text

module _ {X : Type 0} (P : List ℕ × X → Type 0) where
  found_each : (es : List (List ℕ × X)) → AllByRecursion P es → (k : List ℕ) (v : X) → find (slice_cmp nat_cmp) k es ≡ Some v → P (k, v)
  found_each [] all k v is = absurd (none-some v is)
  found_each (e ∷ es) all k v is = by (found_each es all.1 k v) (eq_by_cmp (slice_cmp nat_cmp) k e.0) refl is
    where
      by : (find (slice_cmp nat_cmp) k es ≡ Some v → P (k, v)) → (b : Bool) → eq_by_cmp (slice_cmp nat_cmp) k e.0 ≡ b → cond b (Some e.1) (find (slice_cmp nat_cmp) k es) ≡ Some v → P (k, v)
      by later true t i = subst (λ (w : X). P (k, w)) (same_Some e.1 v i) (subst (λ (l : List ℕ). P (l, e.1)) (sym (tells_apart exact_bytes k e.0 t)) all.0)
      by later false t i = later i

  held_each : (m : ByText X) → AllByRecursion P (map.entries m) → (k : List ℕ) (v : X) → map.get m k ≡ Some v → P (k, v)
  held_each m all k v is = found_each (map.entries m) all k v (sym (map.get-entries m k) ∙ is)

-- ---- trees

entry_text : (path : List ℕ) (entry : Entry) → FitText path × FitEntry entry → IsTextAt (Some entry)
entry_text path (File text) fit = fit.1.1
entry_text path (Link target) fit = fit.1.1

texts_of_fit : (tree : Tree) → FitTree tree → IsOfTexts tree
texts_of_fit tree fit = record { is = fit.is; texts = λ path. by path (map.get tree path) refl }
  where
    by : (path : List ℕ) (o : Option Entry) → map.get tree path ≡ o → IsTextAt o
    by path None at = tt
    by path (Some entry) at = entry_text path entry (held_each (λ e. FitText e.0 × FitEntry e.1) tree fit.texts.0.1 path entry at)

-- ---- names

front_jobs : (js ks : List JobShown) → AllByRecursion FitJob (js ++ ks) → AllByRecursion FitJob js
front_jobs [] ks fit = tt
front_jobs (j ∷ js) ks fit = (fit.0, front_jobs js ks fit.1)

back_jobs : (js ks : List JobShown) → AllByRecursion FitJob (js ++ ks) → AllByRecursion FitJob ks
back_jobs [] ks fit = fit
back_jobs (j ∷ js) ks fit = back_jobs js ks fit.1

-- a unit with a job is named where its jobs are shown
shown_name : (unit : List ℕ) (stop start : Option JobState) → AllByRecursion FitJob (jobs_shown_of unit (jobs stop start)) → jobs stop start ≢ no_jobs → FitUnitName unit
shown_name unit (Some state) start fit some = fit.0
shown_name unit None (Some state) fit some = fit.0
shown_name unit None None fit some = absurd (some refl)

abbrev IsNamedJob : List ℕ × UnitJobs → Type 0
IsNamedJob e = e.1 ≢ no_jobs → FitUnitName e.0

shown_names : (es : List (List ℕ × UnitJobs)) → AllByRecursion FitJob (flat_map (λ e. jobs_shown_of e.0 e.1) es) → AllByRecursion IsNamedJob es
shown_names [] fit = tt
shown_names (e ∷ es) fit =
    let later = flat_map (λ e. jobs_shown_of e.0 e.1) es in
    (shown_name e.0 e.1.stop e.1.start (front_jobs (jobs_shown_of e.0 e.1) later fit), shown_names es (back_jobs (jobs_shown_of e.0 e.1) later fit))

names_of_fit : (s : State) → FitState s → HoldsNames s
names_of_fit s fit unit (inl there) = by (map.get s.units unit) refl there
  where
    by : (o : Option UnitState) → map.get s.units unit ≡ o → map.get s.units unit ≢ None → is_unit_name unit ≡ true
    by None at there = absurd (there at)
    by (Some u) at there = at_each (λ e. is_unit_name e.0) s.units fit.units.named.1 unit u at
names_of_fit s fit unit (inr there) = by (map.get s.pending unit) refl there
  where
    by : (o : Option UnitJobs) → map.get s.pending unit ≡ o → map.get s.pending unit ≢ None → is_unit_name unit ≡ true
    by None at there = absurd (there at)
    by (Some j) at there =
        (held_each IsNamedJob s.pending (shown_names (map.entries s.pending) fit.pending.jobs.1) unit j at (λ none. fit.pending.tidy unit (at ∙ ap Some none))).1

-- ---- distinct numbers

-- none of these numbers is that one
never_equal : (n : ℕ) (ns : List ℕ) → list_all (λ m. not (m == n)) ns ≡ true → ¬ Among ns n
never_equal n [] none is = is
never_equal n (m ∷ ns) none is = by (never_equal n ns (right_true (not (m == n)) (list_all (λ k. not (k == n)) ns) none)) is
  where
    same_tested : (b : Bool) → not b ≡ true → b ≡ true → ⊥
    same_tested true e f = cc
    same_tested false e f = cc

    by : (Among ns n → ⊥) → Among (m ∷ ns) n → ⊥
    by later (inl is) = same_tested (m == n) (left_true (not (m == n)) (list_all (λ k. not (k == n)) ns) none) (eq-eqb m n (sym is))
    by later (inr behind) = later behind

distinct_behind : (ms ns : List ℕ) → are_distinct (ms ++ ns) ≡ true → are_distinct ns ≡ true
distinct_behind [] ns h = h
distinct_behind (m ∷ ms) ns h = distinct_behind ms ns (right_true (list_all (λ n. not (n == m)) (ms ++ ns)) (are_distinct (ms ++ ns)) h)

distinct_apart : (ms ns : List ℕ) → are_distinct (ms ++ ns) ≡ true → (n : ℕ) → Among ms n → ¬ Among ns n
distinct_apart [] ns h n none later = none
distinct_apart (m ∷ ms) ns h n (inl is) later =
    never_equal m (ms ++ ns) (left_true (list_all (λ n. not (n == m)) (ms ++ ns)) (are_distinct (ms ++ ns)) h) (among_right ms ns m (subst (Among ns) is later))
distinct_apart (m ∷ ms) ns h n (inr early) later =
    distinct_apart ms ns (right_true (list_all (λ n. not (n == m)) (ms ++ ns)) (are_distinct (ms ++ ns)) h) n early later

has_among : (u : UnitState) (n : ℕ) → HasNumber u n → Among (live_numbers u) n
has_among u n (inl is) = among_left (numbers u.main) (numbers u.control) n (subst (λ o. Among (numbers o) n) (sym is) (inl refl))
has_among u n (inr is) = among_right (numbers u.main) (numbers u.control) n (subst (λ o. Among (numbers o) n) (sym is) (inl refl))

abbrev Entries : Type 0
Entries = List (List ℕ × UnitState)

abbrev numbers_of : Entries → List ℕ
numbers_of es = flat_map (λ e. live_numbers e.1) es

-- this unit is found in the entries under this name
abbrev IsFoundIn : Entries → List ℕ → UnitState → Type 0
IsFoundIn es k u = find (slice_cmp nat_cmp) k es ≡ Some u

first_or_later : (e : List ℕ × UnitState) (es : Entries) (k : List ℕ) (u : UnitState) → IsFoundIn (e ∷ es) k u → ((k ≡ e.0) × (e.1 ≡ u)) ⊎ IsFoundIn es k u
first_or_later e es k u is = by (eq_by_cmp (slice_cmp nat_cmp) k e.0) refl is
  where
    by : (b : Bool) → eq_by_cmp (slice_cmp nat_cmp) k e.0 ≡ b → cond b (Some e.1) (find (slice_cmp nat_cmp) k es) ≡ Some u → ((k ≡ e.0) × (e.1 ≡ u)) ⊎ IsFoundIn es k u
    by true t i = inl (tells_apart exact_bytes k e.0 t, same_Some e.1 u i)
    by false t i = inr i

found_among : (es : Entries) (k : List ℕ) (u : UnitState) (n : ℕ) → IsFoundIn es k u → HasNumber u n → Among (numbers_of es) n
found_among [] k u n is has = absurd (none-some u is)
found_among (e ∷ es) k u n is has = by (found_among es k u n) (first_or_later e es k u is)
  where
    by : (IsFoundIn es k u → HasNumber u n → Among (numbers_of es) n) → ((k ≡ e.0) × (e.1 ≡ u)) ⊎ IsFoundIn es k u → Among (numbers_of (e ∷ es)) n
    by later (inl first) = among_left (live_numbers e.1) (numbers_of es) n (has_among e.1 n (subst (λ w. HasNumber w n) (sym first.1) has))
    by later (inr behind) = among_right (live_numbers e.1) (numbers_of es) n (later behind has)

-- no two units have one number
found_apart : (es : Entries) → are_distinct (numbers_of es) ≡ true → (k l : List ℕ) (u v : UnitState) (n : ℕ) → IsFoundIn es k u → IsFoundIn es l v → HasNumber u n → HasNumber v n
    → k ≡ l
found_apart [] h k l u v n is too has also = absurd (none-some u is)
found_apart (e ∷ es) h k l u v n is too has also =
    by (found_apart es (distinct_behind (live_numbers e.1) (numbers_of es) h) k l u v n) (first_or_later e es k u is) (first_or_later e es l v too)
  where
    in_first : (w : UnitState) → e.1 ≡ w → HasNumber w n → Among (live_numbers e.1) n
    in_first w same has = has_among e.1 n (subst (λ x. HasNumber x n) (sym same) has)

    by : (IsFoundIn es k u → IsFoundIn es l v → HasNumber u n → HasNumber v n → k ≡ l) → ((k ≡ e.0) × (e.1 ≡ u)) ⊎ IsFoundIn es k u → ((l ≡ e.0) × (e.1 ≡ v)) ⊎ IsFoundIn es l v → k ≡ l
    by later (inl first) (inl same) = first.0 ∙ sym same.0
    by later (inl first) (inr behind) =
        absurd (distinct_apart (live_numbers e.1) (numbers_of es) h n (in_first u first.1 has) (found_among es l v n behind also))
    by later (inr behind) (inl first) =
        absurd (distinct_apart (live_numbers e.1) (numbers_of es) h n (in_first v first.1 also) (found_among es k u n behind has))
    by later (inr behind) (inr other) = later behind other has also

distinct_front : (ms ns : List ℕ) → are_distinct (ms ++ ns) ≡ true → are_distinct ms ≡ true
distinct_front [] ns h = refl
distinct_front (m ∷ ms) ns h =
    both_true _ _ (left_true _ (list_all (λ n. not (n == m)) ns) (sym (list_all-append (λ n. not (n == m)) ms ns) ∙ left_true (list_all (λ n. not (n == m)) (ms ++ ns)) (are_distinct (ms ++ ns)) h))
    (distinct_front ms ns (right_true (list_all (λ n. not (n == m)) (ms ++ ns)) (are_distinct (ms ++ ns)) h))

-- the two processes of a unit have two numbers
own_apart : (main control : Option ℕ) (more : List ℕ) → are_distinct ((numbers main ++ numbers control) ++ more) ≡ true → (n : ℕ) → main ≡ Some n → control ≡ Some n → ⊥
own_apart main control more h n is too =
    distinct_apart (numbers main) (numbers control) (distinct_front (numbers main ++ numbers control) more h) n (subst (λ o. Among (numbers o) n) (sym is) (inl refl))
    (subst (λ o. Among (numbers o) n) (sym too) (inl refl))

found_own : (es : Entries) → are_distinct (numbers_of es) ≡ true → (k : List ℕ) (u : UnitState) → IsFoundIn es k u → (n : ℕ) → u.main ≡ Some n → u.control ≡ Some n → ⊥
found_own [] h k u is n = absurd (none-some u is)
found_own (e ∷ es) h k u is n = by (found_own es (distinct_behind (live_numbers e.1) (numbers_of es) h) k u) (first_or_later e es k u is)
  where
    by : (IsFoundIn es k u → (n : ℕ) → u.main ≡ Some n → u.control ≡ Some n → ⊥) → ((k ≡ e.0) × (e.1 ≡ u)) ⊎ IsFoundIn es k u → u.main ≡ Some n → u.control ≡ Some n → ⊥
    by later (inl first) main control =
        own_apart e.1.main e.1.control (numbers_of es) h n (ap (λ (w : UnitState). w.main) first.1 ∙ main) (ap (λ (w : UnitState). w.control) first.1 ∙ control)
    by later (inr behind) main control = later behind n main control

-- ---- the units

low_deadline : (o : Option ℕ) → IfSome o FitDeadline → IfSome o (λ d. d ≤ deadline_limit)
low_deadline None fit = tt
low_deadline (Some d) fit = fit.1

low_window : (clock : ℕ) (o : Option Counted) → IfSome o FitCounted → has_begun clock o ≡ true → IfSome o (λ w. (w.began ≤ clock) × (w.count < 2 ^ 32))
low_window clock None fit begun = tt
low_window clock (Some w) fit begun = (leb-true w.began clock begun, fit.1)

some_number : (o : Option ℕ) (n : ℕ) → IfSome o FitProcess → o ≡ Some n → 1 ≤ n
some_number None n fit is = absurd (none-some n is)
some_number (Some m) n fit is = omega (arith, fit.0, same_Some m n is)

all_low : (next : ℕ) (ns : List ℕ) → list_all (λ n. nat_lt n next) ns ≡ true → (n : ℕ) → Among ns n → n < next
all_low next [] low n none = absurd none
all_low next (m ∷ ns) low n (inl is) = omega (arith, ltb-true m next (left_true (nat_lt m next) (list_all (λ k. nat_lt k next) ns) low), is)
all_low next (m ∷ ns) low n (inr later) = all_low next ns (right_true (nat_lt m next) (list_all (λ k. nat_lt k next) ns) low) n later

module _ (s : State) (fit : FitState s) where
  have_subs : have_sub_states s.loaded.profile s.units ≡ true
  have_subs =
      left_true _ (list_all (λ e. has_begun s.clock e.1.window) (map.entries s.units))
      (left_true _ (list_all (λ n. nat_lt n s.next) (numbers_in s.units)) (left_true _ (are_distinct (numbers_in s.units)) fit.sound))

  have_windows : list_all (λ e. has_begun s.clock e.1.window) (map.entries s.units) ≡ true
  have_windows =
      right_true (have_sub_states s.loaded.profile s.units) _
      (left_true _ (list_all (λ n. nat_lt n s.next) (numbers_in s.units)) (left_true _ (are_distinct (numbers_in s.units)) fit.sound))

  are_low : list_all (λ n. nat_lt n s.next) (numbers_in s.units) ≡ true
  are_low =
      right_true (have_sub_states s.loaded.profile s.units && list_all (λ e. has_begun s.clock e.1.window) (map.entries s.units)) _ (left_true _ (are_distinct (numbers_in s.units)) fit.sound)

  are_apart : are_distinct (numbers_in s.units) ≡ true
  are_apart =
      right_true
      (have_sub_states s.loaded.profile s.units && list_all (λ e. has_begun s.clock e.1.window) (map.entries s.units) && list_all (λ n. nat_lt n s.next) (numbers_in s.units)) _ fit.sound

  -- the state that is found of a unit with a number
  found_with : (unit : List ℕ) (n : ℕ) → HasNumber (state_of_unit s.units unit) n → map.get s.units unit ≡ Some (state_of_unit s.units unit)
  found_with unit n has = by (map.get s.units unit) refl
    where
      by : (o : Option UnitState) → map.get s.units unit ≡ o → o ≡ Some (state_of_unit s.units unit)
      by None at = absurd (dead_none n (subst (λ w. HasNumber w n) (ap (λ o. unwrap_or o dead_unit) at) has))
      by (Some u) at = ap Some (sym (ap (λ o. unwrap_or o dead_unit) at))

  found_in : (unit : List ℕ) (u : UnitState) → map.get s.units unit ≡ Some u → IsFoundIn (map.entries s.units) unit u
  found_in unit u at = sym (map.get-entries s.units unit) ∙ at

  fit_unit : (unit : List ℕ) (u : UnitState) → map.get s.units unit ≡ Some u → FitUnit u
  fit_unit unit u at = (held_each (λ e. FitText e.0 × FitUnit e.1) s.units fit.units.named.0.1 unit u at).1

  good_unit : (unit : List ℕ) (o : Option UnitState) → map.get s.units unit ≡ o → IsGood s.clock (unwrap_or o dead_unit)
  good_unit unit None at = dead_good s.clock
  good_unit unit (Some u) at =
      let has = fit_unit unit u at in
      record {
        index_low = has.index;
        deadline_low = low_deadline u.deadline has.deadline;
        window_low = low_window s.clock u.window has.window (at_each (λ e. has_begun s.clock e.1.window) s.units have_windows unit u at);
        last_low = has.last;
        apart = found_own (map.entries s.units) are_apart unit u (found_in unit u at);
      }

  sub_of : (unit : List ℕ) (o : Option UnitState) → map.get s.units unit ≡ o → is_sub_state_in s.loaded.profile (unwrap_or o dead_unit).sub ≡ true
  sub_of unit None at = refl
  sub_of unit (Some u) at = at_each (λ e. is_sub_state_in s.loaded.profile e.1.sub) s.units have_subs unit u at

  within : (unit : List ℕ) (n : ℕ) → HasNumber (state_of_unit s.units unit) n → (1 ≤ n) × (n < s.next)
  within unit n has =
      let at = found_with unit n has in
      (by (fit_unit unit (state_of_unit s.units unit) at) has, all_low s.next (numbers_in s.units) are_low n (found_among (map.entries s.units) unit (state_of_unit s.units unit) n (found_in unit (state_of_unit s.units unit) at) has))
    where
      by : FitUnit (state_of_unit s.units unit) → HasNumber (state_of_unit s.units unit) n → 1 ≤ n
      by fits (inl is) = some_number (state_of_unit s.units unit).main n fits.main is
      by fits (inr is) = some_number (state_of_unit s.units unit).control n fits.control is

  units_of_fit : HasGoodUnits s.clock s
  units_of_fit = record {
    next_some = fit.next.0;
    next_low = fit.next.1;
    good = λ unit. good_unit unit (map.get s.units unit) refl;
    within = within;
    apart = λ unit other n has also. found_apart (map.entries s.units) are_apart unit other (state_of_unit s.units unit) (state_of_unit s.units other) n
        (found_in unit (state_of_unit s.units unit) (found_with unit n has)) (found_in other (state_of_unit s.units other) (found_with other n also)) has also;
  }

  -- a state that has bytes holds all that steps keep
  pub whole_of_fit : IsWhole s
  whole_of_fit = record {
    texts = record { tree = texts_of_fit s.tree fit.tree; loaded = texts_of_fit s.loaded.entries fit.loaded };
    boot = fit.boot;
    early = fit.clock.1;
    names = names_of_fit s fit;
    tidy = record { units = fit.units.tidy; pending = fit.pending.tidy };
    units = units_of_fit;
    subs = λ unit. sub_of unit (map.get s.units unit) refl;
  }

-- ---- a step from a state that a store may hold

-- leads by an input that has bytes to a state that has some
pub step_fits : (size : ℕ) (s : State) (i : Input) (reply : Reply) (actions : List Action) (t : State) → FitInput i → Step size s i reply actions t → FitState s → IsServable size s
    → FitState t
step_fits size s i reply actions t fit step fits held = fit_of_whole t (step_few size s i reply actions t step held.few) (step_whole size s i reply actions t fit step (whole_of_fit s fits))

-- the bytes of the state have room in the store
pub spelled_room : (size : ℕ) (s : State) → FitState s → IsServable size s → length (state_spelling s) ≤ size
spelled_room size s fit held = by (a_count (IsHeld s) (held_list s).0 (held_list s).1 s.loaded)
  where
    by : (n : ℕ) × CountsFor s.loaded (IsHeld s) n → length (state_spelling s) ≤ size
    by (n, counts) = elim (cases_lt size (weight_of s.tree s.loaded.entries n)) as (λ _. length (state_spelling s) ≤ size) [
      | inl more ↦ absurd (held.light (record { units = n; count = counts; heavy = more }))
      | inr most ↦ omega (arith, spelled_short s n fit counts, most)
    ]

-- an input that isn't refused has from 10 to 66,078 bytes
pub accepted_room : (size : ℕ) (s : State) (i : Input) (reply : Reply) (actions : List Action) (t : State) → FitState s → FitInput i → Step size s i reply actions t
    → ((r : Refused) → reply ≢ Refusal r) → (10 ≤ length (input_spelling i)) × (length (input_spelling i) ≤ input_limit)
accepted_room size s i reply actions t fit fits step accepted =
    (omega (arith, length-append (big_bytes 8 i.moment) (event_fields i.event), number_long 8 i.moment), accepted_short size s i reply actions t fit.tree.is fits step accepted)
