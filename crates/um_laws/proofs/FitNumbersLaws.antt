-- The units of a state have bytes, and the numbers of live processes are distinct, from 1 and below the next one.
use Rattle.std.proofs.Common.{ℕ, ◌≡◌, ◌⊎◌, inl, inr, ◌∙◌, ◌+◌, ◌<◌, ◌≤◌, ◌^◌, List, Option, Some, None, unwrap_or, refl, sym, ap, subst, arith}
use Rattle.std.specs.Prelude.{IfSome}
use Rattle.std.proofs.lemmas.Option.{none-some}
use Rattle.std.specs.Cmp.Lexicographic.{slice_cmp}
use Rattle.std.specs.FinMap as map
use Rattle.std.specs.Ordering.{nat_cmp}
use Rattle.um_model.specs.declared.profile.Profile.{Profile}
use Rattle.um_model.specs.InputSpellings.{FitEvent}
use Rattle.um_model.specs.Machine.{State, Command, Event, settings_in, around, change_of, changed, TakesAlong, Becomes, Carries, begun, with_start_alone, Changes, puts, links, removes, reloads, plans, demands_nothing, cancels, installs, booted, TakesEffect}
use Rattle.um_model.specs.Moments.{moment_limit, process_limit}
use Rattle.um_model.specs.Service.{Action, dead_unit, state_of_unit, with_unit}
use Rattle.um_model.specs.Transitions.{HasNumber, spawned}
use Rattle.um_model.specs.declared.limit.Counted.{Counted}
use Rattle.um_model.specs.declared.service.UnitState.{UnitState}
use Rattle.um_model.specs.declared.transition.Change.{Change}
use Rattle.um_model.specs.declared.transition.UnitEvent.{UnitEvent}
use Rattle.um_laws.proofs.AlongLaws.{taken_along_or_not, with_result_dependency}
use Rattle.um_laws.proofs.FitUnitLaws.{settings_low, IsGood, transition_fits}
use Rattle.um_laws.proofs.InvariantLaws.{FitUnitEvent, kept_taking}
use Rattle.um_model.proofs.TimersLaws.{same_name}
use Rattle.um_laws.proofs.TransitionLaws.{next_is_small, numbers_are_next}
use Rattle.um_model.proofs.UnitLaws.{state_here, state_apart}

-- all units at the moment t
pub record HasGoodUnits (t : ℕ) (s : State) : Type 0 where
  pub next_some : 1 ≤ s.next
  pub next_low : s.next ≤ process_limit
  pub good : (unit : List ℕ) → IsGood t (state_of_unit s.units unit)
  pub within : (unit : List ℕ) (n : ℕ) → HasNumber (state_of_unit s.units unit) n → (1 ≤ n) × (n < s.next)
  pub apart : (unit other : List ℕ) (n : ℕ) → HasNumber (state_of_unit s.units unit) n → HasNumber (state_of_unit s.units other) n → unit ≡ other

-- ---- one change of a unit

module _ (t : ℕ) (early : t ≤ moment_limit) (s : State) (unit : List ℕ) (event : UnitEvent) (fit : FitUnitEvent event) (h : HasGoodUnits t s) where
  abbrev c : Change
  c = change_of t s unit event

  abbrev before : List ℕ → UnitState
  before x = state_of_unit s.units x

  abbrev after : List ℕ → UnitState
  after x = state_of_unit (with_unit s.units unit c.unit) x

  -- a number after the change was one before it, or is the next one of this unit
  abbrev OldOrNext : List ℕ → ℕ → Type 0
  OldOrNext x n = HasNumber (before x) n ⊎ ((x ≡ unit) × ((n ≡ s.next) × (spawned c.order ≡ 1)))

  of_change : (n : ℕ) → HasNumber c.unit n → OldOrNext unit n
  of_change n is = by (numbers_are_next (settings_in s.loaded unit) (around t s unit) (before unit) event n is)
    where
      by : HasNumber (before unit) n ⊎ ((n ≡ s.next) × (spawned c.order ≡ 1)) → OldOrNext unit n
      by (inl old) = inl old
      by (inr next) = inr (refl, next)

  old_or_next : (x : List ℕ) (n : ℕ) → HasNumber (after x) n → OldOrNext x n
  old_or_next x n is = elim (same_name x unit) as (λ _. OldOrNext x n) [
    | inl same ↦ subst (λ y. OldOrNext y n) (sym same)
        (of_change n (subst (λ u. HasNumber u n) (state_here s.units unit c.unit) (subst (λ y. HasNumber (after y) n) same is)))
    | inr other ↦ inl (subst (λ u. HasNumber u n) (state_apart s.units unit c.unit x other) is)
  ]

  good_after : (x : List ℕ) → IsGood t (after x)
  good_after x = elim (same_name x unit) as (λ _. IsGood t (after x)) [
    | inl same ↦ subst (λ y. IsGood t (after y)) (sym same) (subst (IsGood t) (sym (state_here s.units unit c.unit)) here)
    | inr other ↦ subst (IsGood t) (sym (state_apart s.units unit c.unit x other)) (h.good x)
  ]
    where
      here : IsGood t c.unit
      here = transition_fits (settings_in s.loaded unit) (around t s unit) (settings_low s.loaded unit) early (before unit) event fit (h.good unit) (λ n is. (h.within unit n is).1)

  within_after : (x : List ℕ) (n : ℕ) → HasNumber (after x) n → (1 ≤ n) × (n < s.next + spawned c.order)
  within_after x n is = by (old_or_next x n is)
    where
      by : OldOrNext x n → (1 ≤ n) × (n < s.next + spawned c.order)
      by (inl old) = let was = h.within x n old in (was.0, omega (arith, was.1))
      by (inr (same, (is_next, one))) = (omega (arith, h.next_some, is_next), omega (arith, is_next, one))

  no_next : (x : List ℕ) (n : ℕ) → HasNumber (before x) n → n ≡ s.next → ⊥
  no_next x n old is = omega (arith, (h.within x n old).1, is)

  apart_after : (x y : List ℕ) (n : ℕ) → HasNumber (after x) n → HasNumber (after y) n → x ≡ y
  apart_after x y n is too = by (old_or_next x n is) (old_or_next y n too)
    where
      by : OldOrNext x n → OldOrNext y n → x ≡ y
      by (inl old) (inl older) = h.apart x y n old older
      by (inl old) (inr next) = absurd (no_next x n old next.1.0)
      by (inr next) (inl old) = absurd (no_next y n old next.1.0)
      by (inr next) (inr same) = next.0 ∙ sym same.0

  changed_good : HasGoodUnits t (changed s unit c)
  changed_good = record {
    next_some = omega (arith, h.next_some);
    next_low = next_is_small (settings_in s.loaded unit) (around t s unit) (before unit) event h.next_low;
    good = good_after;
    within = within_after;
    apart = apart_after;
  }

-- a failed start that takes others along leaves them their numbers
module _ (t : ℕ) (s : State) (failed : List ℕ) (v : State) (a : TakesAlong s failed v) (h : HasGoodUnits t s) where
  abbrev old : List ℕ → UnitState
  old x = state_of_unit s.units x

  abbrev new : List ℕ → UnitState
  new x = state_of_unit v.units x

  along_good : (x : List ℕ) → IsGood t (new x)
  along_good x = elim (taken_along_or_not s failed x) as (λ _. IsGood t (new x)) [
    | inl is ↦ subst (IsGood t) (sym (a.results x is)) (h.good x)
    | inr isnt ↦ subst (IsGood t) (sym (a.other_units x isnt)) (h.good x)
  ]

  along_old : (x : List ℕ) (n : ℕ) → HasNumber (new x) n → HasNumber (old x) n
  along_old x n has = elim (taken_along_or_not s failed x) as (λ _. HasNumber (old x) n) [
    | inl is ↦ let was : HasNumber (with_result_dependency (old x)) n = subst (λ u. HasNumber u n) (a.results x is) has in was
    | inr isnt ↦ subst (λ u. HasNumber u n) (a.other_units x isnt) has
  ]

  same_next : v.next ≡ s.next
  same_next = ap (λ (x : State). x.next) a.rest

  along_units : HasGoodUnits t v
  along_units = record {
    next_some = omega (arith, h.next_some, same_next);
    next_low = omega (arith, h.next_low, same_next);
    good = along_good;
    within = λ x n has. let was = h.within x n (along_old x n has) in (was.0, omega (arith, was.1, same_next));
    apart = λ x y n has too. h.apart x y n (along_old x n has) (along_old y n too);
  }

becomes_good : (t : ℕ) (s : State) (unit : List ℕ) (c : Change) (v : State) → Becomes s unit c v → HasGoodUnits t (changed s unit c) → HasGoodUnits t v
becomes_good t s unit c v (Becomes.alone isnt) h = h
becomes_good t s unit c v (Becomes.along is a) h = along_units t (changed s unit c) unit v a h

carried_good : (t : ℕ) → t ≤ moment_limit → (unit : List ℕ) (event : UnitEvent) (s : State) (actions : List Action) (v : State) → FitUnitEvent event → Carries t unit event s actions v
    → HasGoodUnits t s → HasGoodUnits t v
carried_good t early unit event s actions v fit carries h = becomes_good t s unit (change_of t s unit event) v carries.state (changed_good t early s unit event fit h)

-- ---- what else keeps them

-- the same units, and the same next number
same_good : (t : ℕ) (s v : State) → v.units ≡ s.units → v.next ≡ s.next → HasGoodUnits t s → HasGoodUnits t v
same_good t s v units next h = record {
  next_some = subst (λ n. 1 ≤ n) (sym next) h.next_some;
  next_low = subst (λ n. n ≤ process_limit) (sym next) h.next_low;
  good = λ x. subst (λ us. IsGood t (state_of_unit us x)) (sym units) (h.good x);
  within = λ x n has. let was = h.within x n (subst (λ us. HasNumber (state_of_unit us x) n) units has) in (was.0, subst (λ m. n < m) (sym next) was.1);
  apart = λ x y n has too.
      h.apart x y n (subst (λ us. HasNumber (state_of_unit us x) n) units has) (subst (λ us. HasNumber (state_of_unit us y) n) units too);
}

changes_good : {profile : Profile} (t : ℕ) (s : State) (command : Command) (u : State) → Changes profile s command u → HasGoodUnits t s → HasGoodUnits t u
changes_good t s command u (puts e) h = same_good t s u refl refl h
changes_good t s command u (links e) h = same_good t s u refl refl h
changes_good t s command u (removes e) h = same_good t s u refl refl h
changes_good t s command u reloads h = same_good t s u refl refl h
changes_good t s command u (installs made) h = same_good t s u refl refl h
changes_good t s command u cancels h = same_good t s u refl refl h
changes_good t s command u (demands_nothing is) h = h
changes_good t s command u (plans is plan) h = same_good t s u refl refl h

pub dead_good : (t : ℕ) → IsGood t dead_unit
dead_good t = record { index_low = omega arith; deadline_low = tt; window_low = tt; last_low = tt; apart = λ n e f. none-some n e }

pub dead_none : (n : ℕ) → ¬ HasNumber dead_unit n
dead_none n (inl e) = none-some n e
dead_none n (inr e) = none-some n e

nothing_held : (x : List ℕ) → state_of_unit map.empty x ≡ dead_unit
nothing_held x = ap (λ o. unwrap_or o dead_unit) (map.get-empty (slice_cmp nat_cmp) x)

-- no units are good
pub none_good : (t : ℕ) (s : State) → s.units ≡ map.empty → 1 ≤ s.next → s.next ≤ process_limit → HasGoodUnits t s
none_good t s none some low = record {
  next_some = some;
  next_low = low;
  good = λ x. subst (λ us. IsGood t (state_of_unit us x)) (sym none) (subst (IsGood t) (sym (nothing_held x)) (dead_good t));
  within = λ x n has. absurd (no_number x n has);
  apart = λ x y n has too. absurd (no_number x n has);
}
  where
    no_number : (x : List ℕ) (n : ℕ) → ¬ HasNumber (state_of_unit s.units x) n
    no_number x n has = dead_none n (subst (λ u. HasNumber u n) (nothing_held x) (subst (λ us. HasNumber (state_of_unit us x) n) none has))

-- the effect of an input keeps them
pub takes_good : {profile : Profile} (t : ℕ) → t ≤ moment_limit → (s : State) (event : Event) (actions : List Action) (v : State) → FitEvent event → TakesEffect profile t s event actions v → HasGoodUnits t s → HasGoodUnits t v
takes_good t early =
    kept_taking t (HasGoodUnits t) (carried_good t early) (λ s j h. same_good t s (begun s j) refl refl h) (λ s unit h. same_good t s (with_start_alone s unit) refl refl h) (λ profile s command u h. changes_good t s command u h)
    (λ s boot h. none_good t (booted boot s) refl h.next_some h.next_low)

-- a window that is good at a moment is good at a later one too
later_window : (t r : ℕ) (o : Option Counted) → t ≤ r → IfSome o (λ w. (w.began ≤ t) × (w.count < 2 ^ 32)) → IfSome o (λ w. (w.began ≤ r) × (w.count < 2 ^ 32))
later_window t r None less fits = tt
later_window t r (Some w) less fits = (omega (arith, fits.0, less), fits.1)

later_unit : (t r : ℕ) (u : UnitState) → t ≤ r → IsGood t u → IsGood r u
later_unit t r u less g =
    record { index_low = g.index_low; deadline_low = g.deadline_low; window_low = later_window t r u.window less g.window_low; last_low = g.last_low; apart = g.apart }

pub later_good : (t r : ℕ) (s : State) → t ≤ r → HasGoodUnits t s → HasGoodUnits r s
later_good t r s less h = record { next_some = h.next_some; next_low = h.next_low; good = λ x. later_unit t r (state_of_unit s.units x) less (h.good x); within = h.within; apart = h.apart }

-- so they are with another clock
pub clocked_good : (t : ℕ) (s : State) (clock : ℕ) → HasGoodUnits t s → HasGoodUnits t (record s { clock = clock })
clocked_good t s clock h = same_good t s (record s { clock = clock }) refl refl h
