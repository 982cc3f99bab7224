-- A stop at once changes which units are active, and stopping units at once ends.
use Rattle.std.proofs.Common.{◌≡◌, ◌∙◌, ◌+◌, ◌<◌, ◌≤◌, ◌&&◌, ℕ, suc, Bool, true, false, cond, List, [], ◌∷◌, ◌++◌, length, sum_by, Contains, Option, Some, None, slice_get, refl, sym, ap, subst, inl, inr, arith}
use Rattle.std.proofs.lemmas.List.{length-append}
use Rattle.std.proofs.lemmas.List.Sums.{sum_by-cons}
use Rattle.um_model.specs.Jobs.{jobs_of_unit}
use Rattle.um_model.specs.Machine.{State, is_waiting}
use Rattle.um_model.specs.Service.{state_of_unit, with_unit}
use Rattle.um_model.specs.Settings.{ServiceSettings}
use Rattle.um_model.specs.Transitions.{transition}
use Rattle.um_model.specs.declared.jobs.UnitJobs.{UnitJobs}
use Rattle.um_model.specs.declared.service.UnitState.{UnitState}
use Rattle.um_model.specs.declared.transition.Around.{Around}
use Rattle.um_model.specs.declared.transition.Change.{Change}
use Rattle.um_model.specs.declared.transition.UnitEvent.{UnitEvent}
use Rattle.um_model.specs.declared.transition.UnitEvent.TheVariants.{BoundStop}
use Rattle.um_model.specs.Jobs.{with_jobs}
use Rattle.um_laws.proofs.FallTotal.{bound_stop_down, bound_stop_leaves, goes_at, stays_up}
use Rattle.um_model.specs.Transitions.{comes_to_rest}
use Rattle.um_model.proofs.TimersLaws.{same_name}
use Rattle.um_model.proofs.UnitLaws.{state_apart, state_here}
use Rattle.um_graph.specs.Graph.{GraphView, IsNumberOf, row_of}
use Rattle.um_graph.specs.declared.row.Neighbour.{Neighbour}
use Rattle.um_falling.specs.Along.{Taking, is_later, needs_it, taken, taken_all, taken_by, taken_named, taken_next, without_start_of, with_result_dependency}
use Rattle.um_falling.specs.Falling.{AddsFalling, KeepsSubs, StopsIf, StopsOne, falling, falling_from, goes, is_bound, sub_of}
use Rattle.um_falling.proofs.AlongLaws.{known_by, sum_falls, cons_cases}

-- ---- starts that are taken along leave the sub states of their units

named_subs : (y : List ℕ) (u : ℕ) (m : Taking) → KeepsSubs m.0 (taken_named y u m).0
named_subs y u m x = by (is_waiting (jobs_of_unit m.0.pending y).start)
  where
    by : (b : Bool) → sub_of (cond b (without_start_of m.0 y, m.1 ++ u ∷ []) m).0 x ≡ sub_of m.0 x
    by true = elim (same_name x y) as (λ _. sub_of (without_start_of m.0 y) x ≡ sub_of m.0 x) [
      | inl is ↦
          ap (sub_of (without_start_of m.0 y)) is
          ∙ (ap (λ (u : UnitState). u.sub) (state_here m.0.units y (with_result_dependency (state_of_unit m.0.units y))) ∙ ap (sub_of m.0) (sym is))
      | inr apart ↦ ap (λ (u : UnitState). u.sub) (state_apart m.0.units y (with_result_dependency (state_of_unit m.0.units y)) x apart)
    ]
    by false = refl

module _ (g : GraphView) where
  taken_subs : (u : ℕ) (m : Taking) → KeepsSubs m.0 (taken g u m).0
  taken_subs u m x = by (slice_get g.names u)
    where
      by : (o : Option (List ℕ)) → sub_of (taken_by o u m).0 x ≡ sub_of m.0 x
      by None = refl
      by (Some y) = named_subs y u m x

  all_subs : (ns : List Neighbour) (m : Taking) → KeepsSubs m.0 (taken_all g ns m).0
  all_subs [] m x = refl
  all_subs (n ∷ ns) m x = all_subs ns (taken_next g n m) x ∙ by (needs_it n && is_later n)
    where
      by : (b : Bool) → sub_of (cond b (taken g n.unit m) m).0 x ≡ sub_of m.0 x
      by true = taken_subs n.unit m x
      by false = refl

  pub subs_on : (ns : List Neighbour) (m after : Taking) (earliest : State) → after ≡ taken_all g ns m → KeepsSubs earliest m.0 → KeepsSubs earliest after.0
  subs_on ns m after earliest is keeps x = ap (λ (t : Taking). sub_of t.0 x) is ∙ (all_subs ns m x ∙ keeps x)

-- ---- a stop at once

-- by the service table
pub stopped_by : (settings : ServiceSettings) (around : Around) (event : UnitEvent) (before stands : UnitState) → event ≡ BoundStop
    → stands ≡ (transition settings around before event).unit → (goes_at stands.sub ≡ false) × (goes_at before.sub ≡ false → stands.sub ≡ before.sub)
stopped_by settings around event before stands e is =
    let now : stands ≡ (transition settings around before BoundStop).unit = is ∙ ap (λ x. (transition settings around before x).unit) e in (
      ap (λ (u : UnitState). goes_at u.sub) now ∙ bound_stop_down settings around before,
      λ down. ap (λ (u : UnitState). u.sub) now ∙ ap (λ (c : Change). c.unit.sub) (bound_stop_leaves settings around before down),
    )

pub stops_one : (unit : List ℕ) (s u v w : State) (stands : UnitState) (jobs : UnitJobs) (next : ℕ) → u ≡ record s { units = with_unit s.units unit stands }
    → v ≡ record u { pending = with_jobs u.pending unit jobs } → w ≡ record v { next = next }
    → (goes_at stands.sub ≡ false) × (goes_at (sub_of s unit) ≡ false → stands.sub ≡ sub_of s unit) → StopsOne unit s w
stops_one unit s u v w stands jobs next e f g stopped = record {
  down = ap goes_at here ∙ stopped.0;
  stays = λ down. here ∙ stopped.1 down;
  others = λ x apart. ap (λ p. (state_of_unit p x).sub) units ∙ ap (λ (u : UnitState). u.sub) (state_apart s.units unit stands x apart);
}
  where
    units : w.units ≡ with_unit s.units unit stands
    units = ap (λ (x : State). x.units) g ∙ (ap (λ (x : State). x.units) f ∙ ap (λ (x : State). x.units) e)

    here : sub_of w unit ≡ stands.sub
    here = ap (λ p. (state_of_unit p unit).sub) units ∙ ap (λ (u : UnitState). u.sub) (state_here s.units unit stands)

-- and the starts taken along then leave it so
pub stops_then : (unit : List ℕ) (s u v : State) → StopsOne unit s u → KeepsSubs u v → StopsOne unit s v
stops_then unit s u v h keeps = record {
  down = ap goes_at (keeps unit) ∙ h.down;
  stays = λ down. keeps unit ∙ h.stays down;
  others = λ x apart. keeps x ∙ h.others x apart;
}

-- ---- stopping units ends

abbrev weighs : ℕ → Bool → ℕ
weighs n true = n
weighs n false = 0

-- each unit of the graph that is active or activating counts as many as can fall with it; and each unit yet to be stopped counts one
abbrev pub turns_left : GraphView → State → List ℕ → ℕ
turns_left g s list = sum_by (λ n. weighs (length g.names) (goes s n)) g.names + length list

sum_sinks : (k : ℕ) (names : List (List ℕ)) (f h : List ℕ → ℕ) → ((n : List ℕ) → f n ≤ h n) → (y : List ℕ) → Contains names y → f y + k ≤ h y
    → sum_by f names + k ≤ sum_by h names
sum_sinks k [] f h less y c d = absurd (omega (arith, c.1))
sum_sinks k (n ∷ ns) f h less y c d = elim (cons_cases n ns y c) as (λ _. sum_by f (n ∷ ns) + k ≤ sum_by h (n ∷ ns)) [
  | inl same ↦
      let here : f n + k ≤ h n = subst (λ x. f x + k ≤ h x) (sym same) d in
      omega (arith, sum_by-cons f n ns, sum_by-cons h n ns, here, sum_falls ns f h less)
  | inr later ↦ omega (arith, sum_by-cons f n ns, sum_by-cons h n ns, less n, sum_sinks k ns f h less y later d)
]

falling_few : (s : State) (row : List Neighbour) (unit : ℕ) (names : List (List ℕ)) → length (falling_from s row unit names) ≤ length names
falling_few s row unit [] = omega arith
falling_few s row unit (name ∷ names) = let rest = falling_few s row (suc unit) names in by (is_bound row unit && goes s name) rest
  where
    by : (b : Bool) → length (falling_from s row (suc unit) names) ≤ length names
        → length (cond b (unit ∷ falling_from s row (suc unit) names) (falling_from s row (suc unit) names)) ≤ length (name ∷ names)
    by true rest = omega arith
    by false rest = omega arith

module _ (g : GraphView) (s v : State) (list rest after : List ℕ) (u : ℕ) (is : list ≡ u ∷ rest) where
  -- of a unit that the graph has
  module _ (name : List ℕ) (known : Contains g.names name) (stops : StopsOne name s v) (adds : after ≡ falling g v (sub_of s name) name u ++ rest) where
    abbrev weight : State → List ℕ → ℕ
    weight x n = weighs (length g.names) (goes x n)

    no_more : (n : List ℕ) → weight v n ≤ weight s n
    no_more n = elim (same_name n name) as (λ _. weight v n ≤ weight s n) [
      | inl same ↦ let e : weight v n ≡ 0 = ap (weight v) same ∙ ap (weighs (length g.names)) stops.down in omega arith
      | inr apart ↦ let e : weight v n ≡ weight s n = ap (λ x. weighs (length g.names) (goes_at x)) (stops.others n apart) in omega arith
    ]

    few : (b : Bool) → length (cond b (falling_from v (row_of g.rows u) 0 g.names) []) ≤ length g.names
    few true = falling_few v (row_of g.rows u) 0 g.names
    few false = omega arith

    added : length after ≡ length (falling g v (sub_of s name) name u) + length rest
    added = ap length adds ∙ length-append (falling g v (sub_of s name) name u) rest

    by_going : (b : Bool) → goes s name ≡ b → turns_left g v after < turns_left g s list
    by_going true was =
        let was_so : weight s name ≡ length g.names = ap (weighs (length g.names)) was in
        let is_so : weight v name ≡ 0 = ap (weighs (length g.names)) stops.down in
        let drops = sum_sinks (length g.names) g.names (weight v) (weight s) no_more name known (omega arith) in
        let here = few (comes_to_rest (sub_of s name) (sub_of v name)) in
        let long = ap length is in
        omega (arith, added, drops, here, long)
    by_going false was =
        let rests : comes_to_rest (sub_of s name) (sub_of v name) ≡ false = ap (comes_to_rest (sub_of s name)) (stops.stays was) ∙ stays_up (sub_of s name) in
        let none : length (falling g v (sub_of s name) name u) ≡ 0 = ap (λ b. length (cond b (falling_from v (row_of g.rows u) 0 g.names) [])) rests in
        let less = sum_falls g.names (weight v) (weight s) no_more in
        let long = ap length is in
        omega (arith, added, none, less, long)

  pub fewer_turns : StopsIf (slice_get g.names u) s rest v after → ((name : List ℕ) → IsNumberOf g u name → AddsFalling g v (sub_of s name) name rest after)
      → turns_left g v after < turns_left g s list
  fewer_turns = by (slice_get g.names u) refl
    where
      by : (o : Option (List ℕ)) → slice_get g.names u ≡ o → StopsIf o s rest v after
          → ((name : List ℕ) → IsNumberOf g u name → AddsFalling g v (sub_of s name) name rest after) → turns_left g v after < turns_left g s list
      by None e (same, left) adds =
          let units = ap (λ x. sum_by (λ n. weighs (length g.names) (goes x n)) g.names) same in
          let shorter = ap length left in
          let long = ap length is in
          omega (arith, units, shorter, long)
      by (Some name) e stops adds = by_going name (known_by g u name e) stops (adds name e u e) (goes s name) refl
