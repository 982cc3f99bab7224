-- A property that each change of a unit, each job that begins, each command and each boot keep is kept by the effect of an input.
use Rattle.std.proofs.Common.{ℕ, Bool, true, false, cond, List, ◌∷◌, ◌++◌}
use Rattle.std.specs.Prelude.{⊤}
use Rattle.std.specs.FinMap as map
use Rattle.um_model.specs.declared.profile.Profile.{Profile}
use Rattle.um_model.specs.InputSpellings.{FitEvent}
use Rattle.um_model.specs.Jobs.{Job}
use Rattle.um_model.specs.Machine.{State, Command, Event, Carries, FallDown, all_told, told_next, Happens, begins, begun, Settles, rests, begins_next, Changes, AreReset, all_reset, reset_next, units_reset, Does, end_of, with_start_alone, Restarts, isnt_put, ComesDue, Fires, FiresOne, none_due, booted, ends, reports, ticks, boots, TakesEffect, obeys, meets}
use Rattle.um_model.specs.Service.{Action, is_number, state_of_unit}
use Rattle.um_model.specs.Spellings.{FitEnd}
use Rattle.um_model.specs.Timers.{Timers}
use Rattle.um_model.specs.declared.jobs.JobKind.{JobKind}
use Rattle.um_model.specs.declared.jobs.JobKind.TheVariants as job
use Rattle.um_model.specs.declared.service.End.{End}
use Rattle.um_model.specs.declared.transition.UnitEvent.{UnitEvent}
use Rattle.um_model.specs.declared.transition.UnitEvent.TheVariants.{BoundStop, Executed, MainEnds, ControlEnds, DeadlinePasses, Reset}

-- the end in an event has bytes
abbrev pub FitUnitEvent : UnitEvent → Type 0
FitUnitEvent (MainEnds e) = FitEnd e
FitUnitEvent (ControlEnds e) = FitEnd e
FitUnitEvent other = ⊤

begins_fit : (kind : JobKind) → FitUnitEvent (begins kind)
begins_fit job.Start = tt
begins_fit job.Stop = tt

end_fit : (main : Bool) (e : End) → FitEnd e → FitUnitEvent (cond main (MainEnds e) (ControlEnds e))
end_fit true e fit = fit
end_fit false e fit = fit

module _ (t : ℕ) (Inv : State → Type 0)
    (carried : (unit : List ℕ) (event : UnitEvent) (s : State) (actions : List Action) (v : State) → FitUnitEvent event → Carries t unit event s actions v → Inv s → Inv v)
    (begins_so : (s : State) (j : Job) → Inv s → Inv (begun s j)) where
  over_falls : (units : List (List ℕ)) (s : State) (actions : List Action) (v : State) → FallDown t units s actions v → Inv s → Inv v
  over_falls units s actions v all_told inv = inv
  over_falls (unit ∷ units) s actions v (told_next {falling = falling} {u = u} {first = first} {more = more} carries falls later) inv =
      over_falls (falling ++ units) u more v later (carried unit BoundStop s first u tt carries inv)

  pub kept_happening : (unit : List ℕ) (event : UnitEvent) (s : State) (actions : List Action) (v : State) → FitUnitEvent event → Happens t unit event s actions v → Inv s → Inv v
  kept_happening unit event s actions v fit (Happens.happens {falling = falling} {u = u} {first = first} {more = more} carries falls later) inv =
      over_falls falling u more v later (carried unit event s first u fit carries inv)

  kept_resets : (units : List (List ℕ)) (s : State) (actions : List Action) (v : State) → AreReset t units s actions v → Inv s → Inv v
  kept_resets units s actions v all_reset inv = inv
  kept_resets (unit ∷ units) s actions v (reset_next {u = u} {first = first} {more = more} forgets later) inv =
      kept_resets units u more v later (kept_happening unit Reset s first u tt forgets inv)

  kept_settling : (s : State) (actions : List Action) (v : State) → Settles t s actions v → Inv s → Inv v
  kept_settling s actions v (rests none) inv = inv
  kept_settling s actions v (begins_next {u = u} {first = first} {more = more} j next h later) inv =
      kept_settling u more v later (kept_happening j.unit (begins j.kind) (begun s j) first u (begins_fit j.kind) h (begins_so s j inv))

  module _ (restarts_so : (s : State) (unit : List ℕ) → Inv s → Inv (with_start_alone s unit)) (changes_so : (profile : Profile) (s : State) (command : Command) (u : State) → Changes profile s command u → Inv s → Inv u)
      (boots_so : (s : State) (boot : List ℕ) → Inv s → Inv (booted boot s)) where
    kept_restart : (s : State) (unit : List ℕ) (v : State) → Restarts s unit v → Inv s → Inv v
    kept_restart s unit v (Restarts.puts none free) inv = restarts_so s unit inv
    kept_restart s unit v (isnt_put why) inv = inv

    kept_due : (s : State) (unit : List ℕ) (actions : List Action) (v : State) → ComesDue t s unit actions v → Inv s → Inv v
    kept_due s unit actions v (ComesDue.restarts is again) inv = kept_restart s unit v again inv
    kept_due s unit actions v (ComesDue.passes isnt h) inv = kept_happening unit DeadlinePasses s actions v tt h inv

    kept_firing : (timers : Timers) (s : State) (actions : List Action) (v : State) → Fires t timers s actions v → Inv s → Inv v
    kept_firing timers s actions v (none_due none) inv = inv
    kept_firing timers s actions v (Fires.fires_next {more = z} d n least due (FiresOne.fires {u = u} {v = p} {first = x} {next = y} is h k) l) inv =
        kept_firing (map.remove timers n) p z v l (kept_settling u y p k (kept_due s n x u h inv))
    kept_firing timers s actions v (Fires.fires_next {more = z} d n least due (FiresOne.is_gone isnt) l) inv = kept_firing (map.remove timers n) s z v l inv

    kept_doing : {profile : Profile} (s : State) (command : Command) (actions : List Action) (u : State) → Does profile t s command actions u → Inv s → Inv u
    kept_doing s command actions u (Does.changes h) inv = changes_so _ s command u h inv
    kept_doing s command actions u (Does.resets {asked = asked} h) inv = kept_resets (units_reset s asked) s actions u h inv

    -- the effect of an input keeps the property
    pub kept_taking : {profile : Profile} (s : State) (event : Event) (actions : List Action) (v : State) → FitEvent event → TakesEffect profile t s event actions v → Inv s → Inv v
    kept_taking s event actions v fit (obeys {command = command} {first = first} {more = more} {u = u} none does h) inv = kept_settling u more v h (kept_doing s command first u does inv)
    kept_taking s event actions v fit (meets {happening = happening} effect (ends {number = number} {end = end} {first = x} {more = y} {u = u} unit is h k)) inv =
        kept_settling u y v k (kept_happening unit (end_of (state_of_unit s.units unit) number end) s x u (end_fit (is_number number (state_of_unit s.units unit).main) end fit.1) h inv)
    kept_taking s event actions v fit (meets effect (reports {first = x} {more = y} {u = u} unit is awaits h k)) inv =
        kept_settling u y v k (kept_happening unit Executed s x u tt h inv)
    kept_taking s event actions v fit (meets effect (ticks timers are h)) inv = kept_firing timers s actions v h inv
    kept_taking s event actions v fit (meets effect (boots {boot = boot})) inv = boots_so s boot inv
