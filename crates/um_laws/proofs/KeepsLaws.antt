-- Unit events and ticks leave trees, boot and clock as they were.
use Rattle.std.proofs.Common.{ℕ, ◌≡◌, ◌∙◌, List, refl, ap}
use Rattle.um_model.specs.Machine.{State, Carries, change_of, Becomes, alone, along, begins, begun, Settles, rests, begins_next, Happens, AreReset, Restarts, isnt_put, ComesDue, Fires, FiresOne}
use Rattle.um_model.specs.Service.{Action}
use Rattle.um_model.specs.Timers.{Timers}
use Rattle.um_model.specs.declared.transition.Change.{Change}
use Rattle.um_model.specs.declared.transition.UnitEvent.{UnitEvent}
use Rattle.um_model.specs.declared.transition.UnitEvent.TheVariants.{DeadlinePasses}
use Rattle.um_laws.proofs.FallLaws.{over_happening, over_resets}

-- the states differ at most in units, pending jobs and the next number
pub record Keeps (s v : State) : Type 0 where
  pub tree : v.tree ≡ s.tree
  pub loaded : v.loaded ≡ s.loaded
  pub boot : v.boot ≡ s.boot
  pub clock : v.clock ≡ s.clock

itself : (s : State) → Keeps s s
itself s = record { tree = refl; loaded = refl; boot = refl; clock = refl }

then_keeps : (s u v : State) → Keeps s u → Keeps u v → Keeps s v
then_keeps s u v k l = record { tree = l.tree ∙ k.tree; loaded = l.loaded ∙ k.loaded; boot = l.boot ∙ k.boot; clock = l.clock ∙ k.clock }

-- a change of a unit leaves them, whether its start fails or not
pub becomes_keeps : (s : State) (unit : List ℕ) (c : Change) (v : State) → Becomes s unit c v → Keeps s v
becomes_keeps s unit c v (alone holds) = record { tree = refl; loaded = refl; boot = refl; clock = refl }
becomes_keeps s unit c v (along fails h) =
    record { tree = ap (λ x. x.tree) h.rest; loaded = ap (λ x. x.loaded) h.rest; boot = ap (λ x. x.boot) h.rest; clock = ap (λ x. x.clock) h.rest }

-- so does an event of a unit
pub carries_keeps : (t : ℕ) (unit : List ℕ) (event : UnitEvent) (s : State) (actions : List Action) (v : State) → Carries t unit event s actions v → Keeps s v
carries_keeps t unit event s actions v h = becomes_keeps s unit (change_of t s unit event) v h.state

-- and an event of a unit with all units that fall with it
pub happens_keeps : (t : ℕ) (unit : List ℕ) (event : UnitEvent) (s : State) (actions : List Action) (v : State) → Happens t unit event s actions v → Keeps s v
happens_keeps t = over_happening t (λ s actions v. Keeps s v) itself (λ s u v first more. then_keeps s u v) (carries_keeps t)

-- and all failures that are forgotten
pub resets_keep : (t : ℕ) (units : List (List ℕ)) (s : State) (actions : List Action) (v : State) → AreReset t units s actions v → Keeps s v
resets_keep t = over_resets t (λ s actions v. Keeps s v) itself (λ s u v first more. then_keeps s u v) (carries_keeps t)

-- and all jobs that begin
pub settles_keeps : (t : ℕ) (s : State) (actions : List Action) (v : State) → Settles t s actions v → Keeps s v
settles_keeps t s actions v (rests none) = itself s
settles_keeps t s actions v (begins_next {u = u} {first = first} {more = more} j next begun_so later) =
    let k = happens_keeps t j.unit (begins j.kind) (begun s j) first u begun_so in
    then_keeps s u v (record { tree = k.tree; loaded = k.loaded; boot = k.boot; clock = k.clock }) (settles_keeps t u more v later)

-- and an automatic restart
restarts_keep : (s : State) (unit : List ℕ) (v : State) → Restarts s unit v → Keeps s v
restarts_keep s unit v (Restarts.puts none free) = record { tree = refl; loaded = refl; boot = refl; clock = refl }
restarts_keep s unit v (isnt_put why) = itself s

-- and a deadline that is due
pub comes_due_keeps : (t : ℕ) (s : State) (unit : List ℕ) (actions : List Action) (v : State) → ComesDue t s unit actions v → Keeps s v
comes_due_keeps t s unit actions v (ComesDue.restarts is again) = restarts_keep s unit v again
comes_due_keeps t s unit actions v (ComesDue.passes isnt passed) = happens_keeps t unit DeadlinePasses s actions v passed

-- and all deadlines that pass
pub fires_keeps : (t : ℕ) (timers : Timers) (s : State) (actions : List Action) (v : State) → Fires t timers s actions v → Keeps s v
fires_keeps t timers s actions v (Fires.none_due none) = itself s
fires_keeps t timers s actions w (Fires.fires_next {more = more} deadline unit due low (FiresOne.fires {u = u} {v = v} {first = first} {next = next} stands comes settles) later) =
    then_keeps s u w (comes_due_keeps t s unit first u comes) (then_keeps u v w (settles_keeps t u next v settles) (fires_keeps t _ v more w later))
fires_keeps t timers s actions w (Fires.fires_next deadline unit due low (FiresOne.is_gone gone) later) = fires_keeps t _ s actions w later

-- a state that keeps these, and has the same units, jobs and next number, is the same
pub same_state : (s v : State) → Keeps s v → v.units ≡ s.units → v.pending ≡ s.pending → v.next ≡ s.next → v ≡ s
same_state s v k units pending next = λ i. record {
  tree = k.tree i;
  loaded = k.loaded i;
  boot = k.boot i;
  clock = k.clock i;
  next = next i;
  units = units i;
  pending = pending i;
}
