-- The units that fall with a unit are listed, and their bound stops end: each makes a unit not active or activating, and changes no other.
use Rattle.std.proofs.Common.{ℕ, zero, suc, ◌+◌, ◌<◌, ◌≤◌, ◌≡◌, ◌≢◌, ◌⊎◌, ◌∙◌, ◌&&◌, not, Bool, true, false, true≢false, cond, List, [], ◌∷◌, ◌++◌, Option, Some, None, is_some, unwrap_or, refl, sym, ap, subst, inl, inr, arith}
use Rattle.std.specs.FinMap as map
use Rattle.um_model.specs.Ends.{is_failed, is_restart_wanted}
use Rattle.um_model.specs.Jobs.{jobs_of_unit}
use Rattle.um_model.specs.Machine.{State, Becomes, alone, along, TakesAlong, Carries, change_of, changed, settings_in, around, FallsWith, AreByName, FallDown, all_told, told_next, Happens}
use Rattle.um_model.specs.Service.{Action, ByUnit, active_state_of, dead_unit, is_dead, is_success, state_of_unit}
use Rattle.um_model.specs.Settings.{ServiceSettings, has_place}
use Rattle.um_model.specs.Transitions.{transition, row, rests, rests_for_good, waits_to_restart, terminates, stop_command, winds_down, has_number, is_live, is_going, just, fails_start}
use Rattle.um_model.specs.Transitions as table
use Rattle.um_model.specs.declared.dependencies.DependencyKind.TheVariants.{BindsTo}
use Rattle.um_model.specs.declared.jobs.JobState.{JobState}
use Rattle.um_model.specs.declared.jobs.JobState.TheVariants as states
use Rattle.um_model.specs.declared.transition.StartJob.{StartJob}
use Rattle.um_model.specs.declared.transition.StartJob.TheVariants.{Fails}
use Rattle.um_model.specs.declared.service.SubState.{SubState}
use Rattle.um_model.specs.declared.service.SubState.TheVariants.{Dead, StartPre, Start, Running, Exited, Stop, StopSigterm, StopSigkill, Failed, AutoRestart, Active}
use Rattle.um_model.specs.declared.service.UnitResult.TheVariants.{Resources}
use Rattle.um_model.specs.declared.service.UnitState.{UnitState}
use Rattle.um_model.specs.declared.transition.Around.{Around}
use Rattle.um_model.specs.declared.transition.Change.{Change}
use Rattle.um_model.specs.declared.transition.UnitEvent.{UnitEvent}
use Rattle.um_model.specs.declared.transition.UnitEvent.TheVariants.{StopBegins, BoundStop}
use Rattle.um_laws.proofs.AlongLaws.{depends_by_all, taken_along_or_not}
use Rattle.um_laws.proofs.AlongTotal.{an_along}
use Rattle.um_laws.proofs.AmongLaws.{among_contained, both_decided, contains_among, decided_as, passes_or_not}
use Rattle.um_laws.proofs.ByNameLaws.{list_in_order}
use Rattle.um_model.proofs.LeastLaws.{IsDecided, Among}
use Rattle.um_model.proofs.TimersLaws.{among_keys, same_name}
use Rattle.um_laws.proofs.TransitionLaws.{have_actions}
use Rattle.um_model.proofs.UnitLaws.{state_apart, state_here}
use Rattle.um_model.specs.Transitions.{comes_to_rest}

-- some outcome, with its actions
abbrev pub HasOutcome : (List Action → State → Type 0) → Type 0
HasOutcome Is = (actions : List Action) × (v : State) × Is actions v

-- ---- an event of a unit by itself

fails_or_not : (start : StartJob) (job : Option JobState) → IsDecided ((start ≡ Fails) × (job ≡ Some states.Running))
fails_or_not Fails (Some states.Running) = inl (refl, refl)
fails_or_not Fails _ = inr (λ p. let is = p.1 in cc)
fails_or_not _ job = inr (λ p. let is = p.0 in cc)

-- a change of a unit has its state
a_becoming : (s : State) (unit : List ℕ) (c : Change) → (v : State) × Becomes s unit c v
a_becoming s unit c = by_test (fails_or_not c.start (jobs_of_unit s.pending unit).start)
  where
    by_test : IsDecided ((c.start ≡ Fails) × ((jobs_of_unit s.pending unit).start ≡ Some states.Running)) → (v : State) × Becomes s unit c v
    by_test (inr holds) = (changed s unit c, alone holds)
    by_test (inl fails) =
        let taken = an_along (changed s unit c) unit in
        (taken.0, along fails taken.1)

-- an event of a unit is carried out
pub a_carrying : (t : ℕ) (unit : List ℕ) (event : UnitEvent) (s : State) → HasOutcome (Carries t unit event s)
a_carrying t unit event s =
    let c = change_of t s unit event in
    let asked = have_actions (settings_in s.loaded unit) (around t s unit) c.unit c.order in
    let then = a_becoming s unit c in
    (asked.0, then.0, record { state = then.1; asked = asked.1 })

-- ---- a bound stop

-- a unit in this sub state is active or activating
abbrev pub goes_at : SubState → Bool
goes_at sub = is_going (active_state_of sub)

-- after this change the unit isn't active or activating
abbrev pub IsDown : Change → Type 0
IsDown c = goes_at c.unit.sub ≡ false

either_down : (b : Bool) (x y : Change) → IsDown x → IsDown y → IsDown (cond b x y)
either_down true x y h k = h
either_down false x y h k = k

module _ (s : ServiceSettings) (c : Around) where
  resting_down : (well : Bool) → goes_at (cond well Dead Failed) ≡ false
  resting_down true = refl
  resting_down false = refl

  unasked : (b waits wanted : Bool) → b ≡ true → (not b && not waits && wanted) ≡ false
  unasked true waits wanted is = refl
  unasked false waits wanted is = absurd (true≢false (sym is))

  rests_down : (u : UnitState) → u.stop_asked ≡ true → IsDown (rests s c u)
  rests_down u is =
      ap (λ b. goes_at (cond b (waits_to_restart s c u) (rests_for_good u)).unit.sub) (unasked u.stop_asked c.stop_waits (is_restart_wanted s u) is) ∙ resting_down (is_success u.result)

  terminates_down : (u : UnitState) → u.stop_asked ≡ true → IsDown (terminates s c u)
  terminates_down u is = either_down (is_live u) _ (rests s c u) refl (rests_down u is)

  stop_command_down : (u : UnitState) (i : ℕ) → u.stop_asked ≡ true → IsDown (stop_command s c u i)
  stop_command_down u i is =
      let without : UnitState = record u { result = Resources; index = i } in
      either_down (has_number c) _ (terminates s c without) refl (terminates_down without is)

  winds_down_down : (u : UnitState) → u.stop_asked ≡ true → IsDown (winds_down s c u 0)
  winds_down_down u is = either_down (has_place s.stop 0) (stop_command s c u 0) (terminates s c u) (stop_command_down u 0 is) (terminates_down u is)

  stop_down : (u : UnitState) (sub : SubState) → goes_at sub ≡ true → IsDown (row s c u (active_state_of sub) sub StopBegins)
  stop_down u StartPre goes = terminates_down (table.told_to_stop u) refl
  stop_down u Start goes = terminates_down (table.told_to_stop u) refl
  stop_down u Running goes = winds_down_down (table.told_to_stop u) refl
  stop_down u Exited goes = winds_down_down (table.told_to_stop u) refl
  stop_down u AutoRestart goes = refl
  stop_down u Active goes = refl
  stop_down u Dead goes = absurd (true≢false (sym goes))
  stop_down u Stop goes = absurd (true≢false (sym goes))
  stop_down u StopSigterm goes = absurd (true≢false (sym goes))
  stop_down u StopSigkill goes = absurd (true≢false (sym goes))
  stop_down u Failed goes = absurd (true≢false (sym goes))

  -- after a bound stop no unit is active or activating
  pub bound_stop_down : (u : UnitState) → IsDown (transition s c u BoundStop)
  bound_stop_down u = by_test (goes_at u.sub) refl
    where
      by_test : (b : Bool) → goes_at u.sub ≡ b → IsDown (cond b (fails_start u.sub (row s c u (active_state_of u.sub) u.sub StopBegins)) (just u))
      by_test true goes = stop_down u u.sub goes
      by_test false goes = goes

  -- and one that wasn't before stays as it is
  pub bound_stop_leaves : (u : UnitState) → goes_at u.sub ≡ false → transition s c u BoundStop ≡ just u
  bound_stop_leaves u goes = ap (λ b. cond b (fails_start u.sub (row s c u (active_state_of u.sub) u.sub StopBegins)) (just u)) goes

-- ---- sub states after a change of a unit

along_subs : (s : State) (failed : List ℕ) (v : State) → TakesAlong s failed v → (x : List ℕ) → (state_of_unit v.units x).sub ≡ (state_of_unit s.units x).sub
along_subs s failed v h x = elim (taken_along_or_not s failed x) as (λ _. (state_of_unit v.units x).sub ≡ (state_of_unit s.units x).sub) [
  | inl taken ↦ ap (λ (u : UnitState). u.sub) (h.results x taken)
  | inr stays ↦ ap (λ (u : UnitState). u.sub) (h.other_units x stays)
]

becomes_subs : (s : State) (unit : List ℕ) (c : Change) (v : State) → Becomes s unit c v
    → (x : List ℕ) → (state_of_unit v.units x).sub ≡ (state_of_unit (changed s unit c).units x).sub
becomes_subs s unit c v (alone holds) x = refl
becomes_subs s unit c v (along fails h) x = along_subs (changed s unit c) unit v h x

sub_here : (s : State) (unit : List ℕ) (c : Change) (v : State) → Becomes s unit c v → (state_of_unit v.units unit).sub ≡ c.unit.sub
sub_here s unit c v h = becomes_subs s unit c v h unit ∙ ap (λ (u : UnitState). u.sub) (state_here s.units unit c.unit)

sub_apart : (s : State) (unit : List ℕ) (c : Change) (v : State) → Becomes s unit c v → (other : List ℕ) → other ≢ unit
    → (state_of_unit v.units other).sub ≡ (state_of_unit s.units other).sub
sub_apart s unit c v h other apart = becomes_subs s unit c v h other ∙ ap (λ (u : UnitState). u.sub) (state_apart s.units unit c.unit other apart)

-- ---- the units that are active or activating

abbrev goes_in : ByUnit UnitState → List ℕ → Bool
goes_in units unit = goes_at (state_of_unit units unit).sub

abbrev one_if : Bool → ℕ
one_if true = 1
one_if false = 0

-- how many of these units are
abbrev going : List (List ℕ) → ByUnit UnitState → ℕ
going [] units = 0
going (unit ∷ others) units = one_if (goes_in units unit) + going others units

-- no other unit is
abbrev NoMoreGo : ByUnit UnitState → ByUnit UnitState → Type 0
NoMoreGo later earlier = (unit : List ℕ) → goes_in later unit ≡ true → goes_in earlier unit ≡ true

no_more_by : (b c : Bool) → (b ≡ true → c ≡ true) → one_if b ≤ one_if c
no_more_by true true there = omega arith
no_more_by true false there = absurd (true≢false (sym (there refl)))
no_more_by false c there = omega arith

no_more_go : (names : List (List ℕ)) (later earlier : ByUnit UnitState) → NoMoreGo later earlier → going names later ≤ going names earlier
no_more_go [] later earlier none = omega arith
no_more_go (unit ∷ others) later earlier none =
    let here = no_more_by (goes_in later unit) (goes_in earlier unit) (none unit) in
    let rest = no_more_go others later earlier none in
    omega arith

fewer_go : (names : List (List ℕ)) (later earlier : ByUnit UnitState) (unit : List ℕ) → Among names unit → NoMoreGo later earlier
    → goes_in earlier unit ≡ true → goes_in later unit ≡ false → going names later < going names earlier
fewer_go [] later earlier unit none less was isnt = absurd none
fewer_go (first ∷ others) later earlier unit (inl is) less was isnt =
    let one : one_if (goes_in earlier first) ≡ 1 = ap (λ u. one_if (goes_in earlier u)) (sym is) ∙ ap one_if was in
    let none : one_if (goes_in later first) ≡ 0 = ap (λ u. one_if (goes_in later u)) (sym is) ∙ ap one_if isnt in
    let rest = no_more_go others later earlier less in
    omega arith
fewer_go (first ∷ others) later earlier unit (inr there) less was isnt =
    let here = no_more_by (goes_in later first) (goes_in earlier first) (less first) in
    let rest = fewer_go others later earlier unit there less was isnt in
    omega arith

-- such a unit is held
goes_held : (units : ByUnit UnitState) (unit : List ℕ) → goes_in units unit ≡ true → Among (map.keys units) unit
goes_held units unit goes = among_keys units unit (by_entry (map.get units unit) refl)
  where
    by_entry : (o : Option UnitState) → map.get units unit ≡ o → is_some o ≡ true
    by_entry (Some u) e = refl
    by_entry None e = absurd (true≢false (sym goes ∙ ap (λ o. goes_at (unwrap_or o dead_unit).sub) e))

-- ---- the units that fall with one

-- a unit that the test finds at rest came to rest
pub rest_told : (before after : SubState) → comes_to_rest before after ≡ true → ((after ≡ Dead) ⊎ (after ≡ Failed)) × (before ≢ after)
rest_told before Dead e = (inl refl, λ same. true≢false (sym e ∙ ap (λ x. not (is_dead x)) same))
rest_told before Failed e = (inr refl, λ same. true≢false (sym e ∙ ap (λ x. not (is_failed x)) same))
rest_told before other e = absurd (true≢false (sym e))

wasnt_dead : (sub : SubState) → sub ≢ Dead → not (is_dead sub) ≡ true
wasnt_dead Dead isnt = absurd (isnt refl)
wasnt_dead _ isnt = refl

wasnt_failed : (sub : SubState) → sub ≢ Failed → not (is_failed sub) ≡ true
wasnt_failed Failed isnt = absurd (isnt refl)
wasnt_failed _ isnt = refl

-- and the test finds each unit that came to rest
pub rest_is : (before after : SubState) → (after ≡ Dead) ⊎ (after ≡ Failed) → before ≢ after → comes_to_rest before after ≡ true
rest_is before after (inl dead) anew = ap (comes_to_rest before) dead ∙ wasnt_dead before (λ same. anew (same ∙ sym dead))
rest_is before after (inr failed) anew = ap (comes_to_rest before) failed ∙ wasnt_failed before (λ same. anew (same ∙ sym failed))

falls_or_not : (s u : State) (unit other : List ℕ) → IsDecided (FallsWith s u unit other)
falls_or_not s u unit other =
    decided_as (λ h. let rest = rest_told (state_of_unit s.units unit).sub (state_of_unit u.units unit).sub h.0 in record { rests = rest.0; anew = rest.1; goes = h.1.0; bound = h.1.1 })
    (λ f. (rest_is (state_of_unit s.units unit).sub (state_of_unit u.units unit).sub f.rests f.anew, (f.goes, f.bound)))
    (both_decided (passes_or_not (comes_to_rest (state_of_unit s.units unit).sub (state_of_unit u.units unit).sub) true)
    (both_decided (passes_or_not (goes_in u.units other) true) (depends_by_all s.loaded BindsTo other unit)))

-- they are listed
pub a_falling : (s u : State) (unit : List ℕ) → (names : List (List ℕ)) × AreByName (FallsWith s u unit) names
a_falling s u unit =
    let found = list_in_order (FallsWith s u unit) (falls_or_not s u unit) (map.keys u.units) (λ other f. goes_held u.units other f.goes) in (
      found.0,
      record {
        each = λ other. (λ there. found.1.has other (among_contained found.0 other there), λ falls. contains_among found.0 other (found.1.all other falls));
        sorted = found.2;
      },
    )

-- ---- their bound stops end

-- with a unit that didn't come to rest none falls
none_fall : (s u : State) (unit : List ℕ) (names : List (List ℕ)) → AreByName (FallsWith s u unit) names
    → comes_to_rest (state_of_unit s.units unit).sub (state_of_unit u.units unit).sub ≡ false → names ≡ []
none_fall s u unit [] are stays = refl
none_fall s u unit (name ∷ names) are stays =
    let falls = (are.each name).0 (0, omega arith, refl) in
    absurd (true≢false (sym (rest_is (state_of_unit s.units unit).sub (state_of_unit u.units unit).sub falls.rests falls.anew) ∙ stays))

-- one that stays as it was didn't
pub stays_up : (sub : SubState) → comes_to_rest sub sub ≡ false
stays_up Dead = refl
stays_up Failed = refl
stays_up other = refl

-- a unit got a bound stop
module _ (t : ℕ) (unit : List ℕ) (s : State) (actions : List Action) (u : State) (told : Carries t unit BoundStop s actions u) where
  told_subs : (c : Change) → change_of t s unit BoundStop ≡ c → (state_of_unit u.units unit).sub ≡ c.unit.sub
  told_subs c same = sub_here s unit (change_of t s unit BoundStop) u told.state ∙ ap (λ (x : Change). x.unit.sub) same

  told_down : goes_in u.units unit ≡ false
  told_down =
      ap goes_at (told_subs (change_of t s unit BoundStop) refl) ∙ bound_stop_down (settings_in s.loaded unit) (around t s unit) (state_of_unit s.units unit)

  -- no other unit is active or activating after it
  told_no_more : NoMoreGo u.units s.units
  told_no_more other goes = elim (same_name other unit) as (λ _. goes_in s.units other ≡ true) [
    | inl same ↦ absurd (true≢false (sym goes ∙ (ap (goes_in u.units) same ∙ told_down)))
    | inr apart ↦ ap goes_at (sym (sub_apart s unit (change_of t s unit BoundStop) u told.state other apart)) ∙ goes
  ]

  -- if it wasn't active or activating, none falls with it
  told_alone : goes_in s.units unit ≡ false → (names : List (List ℕ)) → AreByName (FallsWith s u unit) names → names ≡ []
  told_alone down names are =
      none_fall s u unit names are
      (ap (comes_to_rest (state_of_unit s.units unit).sub)
      (told_subs (just (state_of_unit s.units unit)) (bound_stop_leaves (settings_in s.loaded unit) (around t s unit) (state_of_unit s.units unit) down))
      ∙ stays_up (state_of_unit s.units unit).sub)

-- these names have all units that are active or activating
abbrev HaveGoing : List (List ℕ) → State → Type 0
HaveGoing names s = (unit : List ℕ) → goes_in s.units unit ≡ true → Among names unit

-- if bound stops end while fewer units are active or activating, then they end for a list of units
module _ (t : ℕ) (names : List (List ℕ)) (bound : ℕ)
    (deeper : (units : List (List ℕ)) (s : State) → HaveGoing names s → going names s.units < bound → HasOutcome (FallDown t units s)) where
  -- the first of a list gets its bound stop, if the bound stops of the others end
  module _ (unit : List ℕ) (units : List (List ℕ)) (s : State) (have : HaveGoing names s) (few : going names s.units ≤ bound)
      (others : (u : State) → HaveGoing names u → going names u.units ≤ bound → HasOutcome (FallDown t units u)) where
    module _ (first : List Action) (u : State) (told : Carries t unit BoundStop s first u) where
      have_then : HaveGoing names u
      have_then other goes = have other (told_no_more t unit s first u told other goes)

      with_falling : (falling : List (List ℕ)) → AreByName (FallsWith s u unit) falling → HasOutcome (FallDown t (falling ++ units) u) → HasOutcome (FallDown t (unit ∷ units) s)
      with_falling falling are later = (first ++ later.0, later.1, told_next told are later.2)

      told_by : (goes : Bool) → goes_in s.units unit ≡ goes → (falling : List (List ℕ)) → AreByName (FallsWith s u unit) falling → HasOutcome (FallDown t (unit ∷ units) s)
      told_by true goes falling are =
          let less = fewer_go names u.units s.units unit (have unit goes) (told_no_more t unit s first u told) goes (told_down t unit s first u told) in
          with_falling falling are (deeper (falling ++ units) u have_then (omega (arith, less, few)))
      told_by false down falling are =
          let no_more = no_more_go names u.units s.units (told_no_more t unit s first u told) in
          with_falling falling are
          (subst (λ x. HasOutcome (FallDown t (x ++ units) u)) (sym (told_alone t unit s first u told down falling are)) (others u have_then (omega (arith, no_more, few))))

    told_first : HasOutcome (FallDown t (unit ∷ units) s)
    told_first =
        let now = a_carrying t unit BoundStop s in
        let falling = a_falling s now.1 unit in
        told_by now.0 now.1 now.2 (goes_in s.units unit) refl falling.0 falling.1

  told_one_by_one : (units : List (List ℕ)) (s : State) → HaveGoing names s → going names s.units ≤ bound → HasOutcome (FallDown t units s)
  told_one_by_one [] s have few = ([], s, all_told)
  told_one_by_one (unit ∷ units) s have few = told_first unit units s have few (told_one_by_one units)

told_within : (n t : ℕ) (names units : List (List ℕ)) (s : State) → HaveGoing names s → going names s.units ≤ n → HasOutcome (FallDown t units s)
told_within zero t names units s have few = told_one_by_one t names zero (λ others u has less. absurd (omega arith)) units s have few
told_within (suc n) t names units s have few =
    told_one_by_one t names (suc n) (λ others u has less. told_within n t names others u has (omega arith)) units s have few

-- units get bound stops until all have one
pub a_fall : (t : ℕ) (units : List (List ℕ)) (s : State) → HasOutcome (FallDown t units s)
a_fall t units s = told_within (going (map.keys s.units) s.units) t (map.keys s.units) units s (goes_held s.units) (omega arith)

-- an event of a unit is carried out, with all units that fall with it
pub a_happening : (t : ℕ) (unit : List ℕ) (event : UnitEvent) (s : State) → HasOutcome (Happens t unit event s)
a_happening t unit event s =
    let now = a_carrying t unit event s in
    let falling = a_falling s now.1 unit in
    let more = a_fall t falling.0 now.1 in
    (now.0 ++ more.0, more.1, Happens.happens now.2 falling.1 more.2)
