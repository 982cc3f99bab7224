-- Each state of a run from the empty one has bytes, of at most its weight, if each input has some.
use Rattle.std.proofs.Common.{ℕ, ◌≡◌, ◌≢◌, inl, inr, ◌∙◌, ◌<◌, ◌≤◌, ◌^◌, true, List, [], ◌∷◌, ◌++◌, length, get_or, flat_map, AllPairs, Option, Some, None, unwrap_or, refl, sym, ap, subst, append_assoc, arith}
use Rattle.std.specs.Prelude.{IfSome}
use Rattle.std.specs.List.{AllByRecursion}
use Rattle.std.specs.FinMap as map
use Rattle.std.proofs.lemmas.Bool.{cases_lt}
use Rattle.std.proofs.lemmas.Option.{none-some}
use Rattle.um_model.specs.Profiles.{ReadTree}
use Rattle.um_model.specs.declared.profile.Profile.{Profile}
use Rattle.um_model.specs.Bytes.{FitText}
use Rattle.um_model.specs.Dependencies.{unit_limit, IsKnown, CountsFor, extra}
use Rattle.um_model.specs.InputSpellings.{input_limit, FitCommand, FitEvent, FitInput, input_spelling}
use Rattle.um_model.specs.Jobs.{JobShown, job_shown, jobs_shown_of}
use Rattle.um_model.specs.Machine.{State, empty_of, Command, Event, Input, Reply, Refusal, IsHeld, Refuses, Changes, puts, links, removes, reloads, plans, demands_nothing, cancels, installs, Does, units_reset, ends, reports, ticks, boots, TakesEffect, obeys, meets, end_of, moment_of, Step, refused, crowded_out, idle, taken, Run, goes}
use Rattle.um_model.specs.Moments.{moment_limit, deadline_limit, process_limit}
use Rattle.um_model.specs.Names.{is_unit_name}
use Rattle.um_model.specs.Reached.{first}
use Rattle.um_model.specs.Refusals.{Refused, too_large}
use Rattle.um_model.specs.Servable.{IsBlank, IsFew}
use Rattle.um_model.specs.Service.{Action, dead_unit, state_of_unit}
use Rattle.um_model.specs.Spellings.{FitMoment, FitNext, FitProcess, FitDeadline, FitCounted, FitUnitName, FitUnit}
use Rattle.um_model.specs.StateSpellings.{FitBoot, state_spelling, FitState}
use Rattle.um_model.specs.Transitions.{HasNumber}
use Rattle.um_model.specs.Weight.{weight_of}
use Rattle.um_model.specs.declared.jobs.JobKind.{JobKind}
use Rattle.um_model.specs.declared.jobs.JobKind.TheVariants.{Stop, Start}
use Rattle.um_model.specs.declared.jobs.JobState.{JobState}
use Rattle.um_model.specs.declared.jobs.UnitJobs.{UnitJobs}
use Rattle.um_model.specs.declared.limit.Counted.{Counted}
use Rattle.um_model.specs.declared.refusals.Limit.TheVariants.{Units}
use Rattle.um_model.specs.declared.service.UnitState.{UnitState}
use Rattle.um_model.specs.declared.transition.UnitEvent.TheVariants.{Executed}
use Rattle.um_laws.proofs.AmongLaws.{IsListOf}
use Rattle.um_laws.proofs.AsciiLaws.{low_utf8, name_utf8}
use Rattle.um_model.proofs.EntriesLaws.{from_each}
use Rattle.um_laws.proofs.FewLaws.{blank_few, empty_blank, few_after}
use Rattle.um_laws.proofs.FitNamesLaws.{HoldsNames, takes_names, blank_names, IsTidyState, takes_tidy, blank_tidy}
use Rattle.um_laws.proofs.FitNumbersLaws.{HasGoodUnits, takes_good, none_good, later_good, clocked_good}
use Rattle.um_laws.proofs.FitSoundLaws.{sound}
use Rattle.um_laws.proofs.FitTreeLaws.{IsOfTexts, each_entry, fit_of_texts, AreOfTexts, changes_texts, without_run_fits, empty_fits}
use Rattle.um_laws.proofs.FitUnitLaws.{IsGood}
use Rattle.um_laws.proofs.InputLengthLaws.{accepted_short}
use Rattle.um_laws.proofs.KeepsLaws.{Keeps, happens_keeps, resets_keep, settles_keeps, fires_keeps}
use Rattle.um_laws.proofs.KnownLaws.{known_once}
use Rattle.um_model.proofs.LeastLaws.{Among}
use Rattle.um_laws.proofs.OnceLaws.{among_at}
use Rattle.um_laws.proofs.SceneLaws.{held_list}
use Rattle.um_laws.proofs.StateLengthLaws.{entries_few, shown_few, spelled_short}
use Rattle.um_laws.proofs.SubStateLaws.{HaveSubStates, takes_subs, none_in_pre}
use Rattle.um_model.proofs.WeightLaws.{short_name}
use Rattle.um_model.proofs.Forms.{FitJob}

-- ---- the maps of a state

-- no more units are held than may be known
held_few : (s : State) → IsFew s → (names : List (List ℕ)) × ((unit : List ℕ) → IsHeld s unit → Among names unit) × (length names ≤ unit_limit)
held_few s few = by (held_list s)
  where
    by_once : (xs : List (List ℕ)) → IsListOf (IsKnown s.loaded (IsHeld s)) xs → AllPairs (λ x y. x ≢ y) xs → (names : List (List ℕ)) × ((unit : List ℕ) → IsHeld s unit → Among names unit) × (length names ≤ unit_limit)
    by_once xs list apart = (
      xs,
      (λ unit is. list.all unit (first (extra is))),
      elim (cases_lt unit_limit (length xs)) as (λ _. length xs ≤ unit_limit) [
        | inl more ↦ absurd (few (too_large Units) (record { many = inl (record { names = xs; known = λ k d short. list.has (get_or xs k d) (among_at xs k d short); apart = apart; many = more }); refusal = refl }))
        | inr most ↦ most
      ],
    )

    by : (extras : List (List ℕ)) × IsListOf (IsHeld s) extras → (names : List (List ℕ)) × ((unit : List ℕ) → IsHeld s unit → Among names unit) × (length names ≤ unit_limit)
    by (extras, listed) = let once = known_once s.loaded (IsHeld s) extras listed in by_once once.0 once.1 once.2

name_fits : (unit : List ℕ) → is_unit_name unit ≡ true → FitUnitName unit
name_fits unit is = ((omega (arith, short_name unit is), name_utf8 unit is), is)

number_fits : (o : Option ℕ) (next : ℕ) → next ≤ process_limit → ((n : ℕ) → o ≡ Some n → (1 ≤ n) × (n < next)) → IfSome o FitProcess
number_fits None next low each = tt
number_fits (Some n) next low each = let is = each n refl in (is.0, omega (arith, is.1, low))

deadline_fits : (o : Option ℕ) → IfSome o (λ d. d ≤ deadline_limit) → IfSome o FitDeadline
deadline_fits None low = tt
deadline_fits (Some d) low = (omega arith, low)

window_fits : (o : Option Counted) (t : ℕ) → t ≤ moment_limit → IfSome o (λ w. (w.began ≤ t) × (w.count < 2 ^ 32)) → IfSome o FitCounted
window_fits None t early low = tt
window_fits (Some w) t early low = ((omega arith, omega (arith, low.0, early)), low.1)

unit_fits : (u : UnitState) (t next : ℕ) → t ≤ moment_limit → next ≤ process_limit → IsGood t u → ((n : ℕ) → HasNumber u n → (1 ≤ n) × (n < next)) → FitUnit u
unit_fits u t next early low good within = record {
  main = number_fits u.main next low (λ n e. within n (inl e));
  control = number_fits u.control next low (λ n e. within n (inr e));
  index = good.index_low;
  deadline = deadline_fits u.deadline good.deadline_low;
  window = window_fits u.window t early good.window_low;
  last = good.last_low;
}

told_jobs : (unit : List ℕ) (kind : JobKind) (o : Option JobState) (js : List JobShown) → FitUnitName unit → AllByRecursion FitJob js → AllByRecursion FitJob (job_shown unit kind o ++ js)
told_jobs unit kind None js fit rest = rest
told_jobs unit kind (Some state) js fit rest = (fit, rest)

told_all : (es : List (List ℕ × UnitJobs)) → AllByRecursion (λ e. FitUnitName e.0) es → AllByRecursion FitJob (flat_map (λ e. jobs_shown_of e.0 e.1) es)
told_all [] fit = tt
told_all (e ∷ es) fit =
    let later = flat_map (λ e. jobs_shown_of e.0 e.1) es in
    subst (AllByRecursion FitJob) (sym (append_assoc (job_shown e.0 Stop e.1.stop) (job_shown e.0 Start e.1.start) later))
    (told_jobs e.0 Stop e.1.stop (job_shown e.0 Start e.1.start ++ later) fit.0 (told_jobs e.0 Start e.1.start later fit.0 (told_all es fit.1)))

-- ---- the properties that a run keeps

pub record IsWhole (s : State) : Type 0 where
  pub texts : AreOfTexts s
  pub boot : FitBoot s.boot
  pub early : s.clock ≤ moment_limit
  pub names : HoldsNames s
  pub tidy : IsTidyState s
  pub units : HasGoodUnits s.clock s
  pub subs : HaveSubStates s

there : {A : Type 0} (o : Option A) (a : A) → o ≡ Some a → o ≢ None
there o a is none = none-some a (sym none ∙ is)

-- a state of which this is kept, and in which no more units are known than may be, has bytes
pub fit_of_whole : (s : State) → IsFew s → IsWhole s → FitState s
fit_of_whole s few h = record {
  tree = fit_of_texts s.tree h.texts.tree;
  loaded = fit_of_texts s.loaded.entries h.texts.loaded;
  boot = h.boot;
  clock = (omega arith, h.early);
  next = (h.units.next_some, h.units.next_low);
  units = record {
    named = (
      (
        omega (arith, entries_few s.units held.0 (λ unit is. held.1 unit (inl is)), held.2),
        each_entry (λ e. FitText e.0 × FitUnit e.1) s.units (λ unit u at. ((name_fits unit (h.names unit (inl (there (map.get s.units unit) u at)))).0, of_unit unit u at)),
      ),
      from_each (λ e. is_unit_name e.0) s.units (λ unit u at. h.names unit (inl (there (map.get s.units unit) u at))),
    );
    tidy = h.tidy.units;
  };
  pending = record {
    jobs = (
      omega (arith, shown_few (map.entries s.pending), entries_few s.pending held.0 (λ unit is. held.1 unit (inr is)), held.2),
      told_all (map.entries s.pending) (each_entry (λ e. FitUnitName e.0) s.pending (λ unit j at. name_fits unit (h.names unit (inr (there (map.get s.pending unit) j at))))),
    );
    tidy = h.tidy.pending;
  };
  sound = sound s h.units h.subs;
}
  where
    held : (names : List (List ℕ)) × ((unit : List ℕ) → IsHeld s unit → Among names unit) × (length names ≤ unit_limit)
    held = held_few s few

    of_unit : (unit : List ℕ) (u : UnitState) → map.get s.units unit ≡ Some u → FitUnit u
    of_unit unit u at =
        let is : state_of_unit s.units unit ≡ u = ap (λ o. unwrap_or o dead_unit) at in
        unit_fits u s.clock s.next h.early h.units.next_low (subst (IsGood s.clock) is (h.units.good unit))
        (λ n has. h.units.within unit n (subst (λ w. HasNumber w n) (sym is) has))

-- ---- trees and boot over a step

record HasTexts (s : State) : Type 0 where
  trees : AreOfTexts s
  boot : FitBoot s.boot

keep_texts : (s v : State) → Keeps s v → HasTexts s → HasTexts v
keep_texts s v k h = record {
  trees = record { tree = subst IsOfTexts (sym k.tree) h.trees.tree; loaded = subst (λ (tree : ReadTree). IsOfTexts tree.entries) (sym k.loaded) h.trees.loaded };
  boot = subst FitBoot (sym k.boot) h.boot;
}

same_boot : {profile : Profile} (s : State) (command : Command) (u : State) → Changes profile s command u → u.boot ≡ s.boot
same_boot s command u (puts e) = refl
same_boot s command u (links e) = refl
same_boot s command u (removes e) = refl
same_boot s command u reloads = refl
same_boot s command u (plans is plan) = refl
same_boot s command u (demands_nothing is) = refl
same_boot s command u cancels = refl
same_boot s command u (installs made) = refl

does_texts : {profile : Profile} (t : ℕ) (s : State) (command : Command) (actions : List Action) (u : State) → FitCommand command → ((r : Refused) → ¬ Refuses profile s command r) → Does profile t s command actions u → HasTexts s → HasTexts u
does_texts t s command actions u fit none (Does.changes change) h =
    record { trees = changes_texts s command u fit none change h.trees; boot = subst FitBoot (sym (same_boot s command u change)) h.boot }
does_texts t s command actions u fit none (Does.resets {asked = asked} forgets) h = keep_texts s u (resets_keep t (units_reset s asked) s actions u forgets) h

takes_texts : {profile : Profile} (t : ℕ) (s : State) (event : Event) (actions : List Action) (v : State) → FitEvent event → TakesEffect profile t s event actions v → HasTexts s → HasTexts v
takes_texts t s event actions v fit (obeys {command = command} {first = x} {more = y} {u = u} none does k) h =
    keep_texts u v (settles_keeps t u y v k) (does_texts t s command x u fit none does h)
takes_texts t s event actions v fit (meets effect (ends {number = number} {end = end} {first = x} {more = y} {u = u} unit is k l)) h =
    keep_texts u v (settles_keeps t u y v l) (keep_texts s u (happens_keeps t unit (end_of (state_of_unit s.units unit) number end) s x u k) h)
takes_texts t s event actions v fit (meets effect (reports {first = x} {more = y} {u = u} unit is awaits k l)) h =
    keep_texts u v (settles_keeps t u y v l) (keep_texts s u (happens_keeps t unit Executed s x u k) h)
takes_texts t s event actions v fit (meets effect (ticks timers are k)) h = keep_texts s v (fires_keeps t timers s actions v k) h
takes_texts t s event actions v fit (meets effect (boots {boot = boot})) h =
    record { trees = record { tree = without_run_fits s.tree h.trees.tree; loaded = without_run_fits s.loaded.entries h.trees.loaded }; boot = fit }

-- ---- a step and a run

taken_whole : {profile : Profile} (s : State) (moment : ℕ) (event : Event) (actions : List Action) (v : State) → FitMoment moment → FitEvent event → TakesEffect profile (moment_of s moment) s event actions v → IsWhole s
    → IsWhole (record v { clock = moment_of s moment })
taken_whole s moment event actions v fits fit takes h = record {
  texts = record { tree = texts.trees.tree; loaded = texts.trees.loaded };
  boot = texts.boot;
  early = early;
  names = takes_names t s event actions v fit takes h.names;
  tidy = record { units = tidy.units; pending = tidy.pending };
  units = clocked_good t v t (takes_good t early s event actions v fit takes (later_good s.clock t s (omega arith) h.units));
  subs = takes_subs t s event actions v fit takes h.subs;
}
  where
    t : ℕ
    t = moment_of s moment

    early : moment_of s moment ≤ moment_limit
    early = omega (arith, h.early, fits.1)

    texts : HasTexts v
    texts = takes_texts (moment_of s moment) s event actions v fit takes (record { trees = h.texts; boot = h.boot })

    tidy : IsTidyState v
    tidy = takes_tidy (moment_of s moment) s event actions v fit takes h.tidy

-- a step by an input that has bytes keeps this
pub step_whole : (size : ℕ) (s : State) (i : Input) (reply : Reply) (actions : List Action) (t : State) → FitInput i → Step size s i reply actions t → IsWhole s → IsWhole t
step_whole size s i reply actions t fit (refused e) h = h
step_whole size s i reply actions t fit (crowded_out takes heavy) h = h
step_whole size s i reply actions t fit (idle e) h = h
step_whole size s i reply actions t fit (taken {moment = moment} {event = event} {u = v} takes room) h = taken_whole s moment event actions v fit.moment fit.event takes h

run_whole : (size : ℕ) (s t : State) (inputs : List Input) → AllByRecursion FitInput inputs → Run size s inputs t → IsWhole s → IsWhole t
run_whole size s t inputs fit Run.rests h = h
run_whole size s t (i ∷ inputs) fit (goes {t = v} reply actions step run) h = run_whole size v t inputs fit.1 run (step_whole size s i reply actions v fit.0 step h)

-- a state in which nothing is held, and whose boot, clock and next number have bytes
pub blank_whole : (s : State) → IsBlank s → FitBoot s.boot → FitMoment s.clock → FitNext s.next → IsWhole s
blank_whole s blank boot clock next = record {
  texts = record { tree = subst IsOfTexts (sym blank.tree) empty_fits; loaded = subst IsOfTexts (sym blank.loaded) empty_fits };
  boot = boot;
  early = clock.1;
  names = blank_names s blank;
  tidy = blank_tidy s blank;
  units = none_good s.clock s blank.units next.0 next.1;
  subs = none_in_pre s blank.units;
}

pub empty_whole : (profile : Profile) → IsWhole (empty_of profile)
empty_whole profile = blank_whole (empty_of profile) (empty_blank profile) ((omega arith, low_utf8 [] refl), refl) (omega arith, omega arith) (omega arith, omega arith)

-- the empty state of each profile has bytes
pub empty_fit : (profile : Profile) → FitState (empty_of profile)
empty_fit profile = fit_of_whole (empty_of profile) (blank_few (empty_of profile) (empty_blank profile)) (empty_whole profile)

module _ (size : ℕ) (s : State) (inputs : List Input) (t : State) (blank : IsBlank s) (has : FitState s) (fit : AllByRecursion FitInput inputs) (run : Run size s inputs t) where
  -- after inputs that have bytes, from a state that has some and in which nothing is held
  whole_after : IsWhole t
  whole_after = run_whole size s t inputs fit run (blank_whole s blank has.boot has.clock has.next)

  -- a state has bytes
  pub fits_after : FitState t
  fits_after = fit_of_whole t (few_after size s inputs t blank run) whole_after

  -- of at most its weight
  pub spelled_after : (n : ℕ) → CountsFor t.loaded (IsHeld t) n → length (state_spelling t) ≤ weight_of t.tree t.loaded.entries n
  spelled_after n counts = spelled_short t n fits_after counts

  -- and an input that it doesn't refuse has at most 66,078 bytes
  pub accepted_after : (i : Input) (reply : Reply) (actions : List Action) (u : State) → FitInput i → Step size t i reply actions u
      → ((r : Refused) → reply ≢ Refusal r) → length (input_spelling i) ≤ input_limit
  accepted_after i reply actions u fits step accepted = accepted_short size t i reply actions u whole_after.texts.tree.is fits step accepted
