-- Process numbers rise: each process is started under the next number, so none is started twice, in a step or in a run.
use Rattle.std.proofs.Common.{ℕ, zero, suc, ◌≡◌, ◌+◌, ◌<◌, ◌≤◌, List, [], ◌∷◌, ◌++◌, map, Some, slice_get, refl, sym, ap, subst, arith}
use Rattle.std.proofs.lemmas.Option.{none-some, same_Some}
use Rattle.std.specs.FinMap as maps
use Rattle.um_model.specs.declared.profile.Profile.{Profile}
use Rattle.um_model.specs.Service.{Action, SpawnProcess, SendSignal, state_of_unit}
use Rattle.um_model.specs.Settings.{ServiceSettings}
use Rattle.um_model.specs.Timers.{Timers}
use Rattle.um_model.specs.Transitions.{AreActions, nothing, spawn, signals, spawned, live_numbers}
use Rattle.um_model.specs.Machine.{State, Command, Happening, Event, Input, Reply, Carries, Becomes, alone, along, change_of, settings_in, around, begins, begun, Happens, AreReset, Settles, begins_next, Changes, puts, links, removes, reloads, plans, demands_nothing, cancels, installs, Does, units_reset, end_of, Restarts, isnt_put, ComesDue, Fires, FiresOne, Follows, ends, reports, ticks, boots, TakesEffect, obeys, meets, moment_of, Step, refused, crowded_out, idle, taken, Run, goes}
use Rattle.um_model.specs.Numbers.{started_numbers, actions_in, AreNew}
use Rattle.um_model.specs.declared.service.Signal as sent
use Rattle.um_model.specs.declared.service.UnitState.{UnitState}
use Rattle.um_model.specs.declared.transition.Around.{Around}
use Rattle.um_model.specs.declared.transition.Change.{Change}
use Rattle.um_model.specs.declared.transition.Order.{Order}
use Rattle.um_model.specs.declared.transition.UnitEvent.{UnitEvent}
use Rattle.um_model.specs.declared.transition.UnitEvent.TheVariants.{Executed, DeadlinePasses}
use Rattle.um_laws.proofs.FallLaws.{over_happening, over_resets}

-- the numbers from one on, each one more than that before it, up to the next one
pub data CountsUp : ℕ → List ℕ → ℕ → Type 0 where
  no_more : {n : ℕ} → CountsUp n [] n
  one_more : {n m : ℕ} {ns : List ℕ} → CountsUp (n + 1) ns m → CountsUp n (n ∷ ns) m

counts_on : (a b c : ℕ) (ns ms : List ℕ) → CountsUp a ns b → CountsUp b ms c → CountsUp a (ns ++ ms) c
counts_on a b c ns ms no_more later = later
counts_on a b c ns ms (one_more {ns = rest} k) later = one_more (counts_on (a + 1) b c rest ms k later)

counts_rise : (a b : ℕ) (ns : List ℕ) → CountsUp a ns b → a ≤ b
counts_rise a b ns no_more = omega arith
counts_rise a b ns (one_more {ns = rest} k) = omega (arith, counts_rise (a + 1) b rest k)

-- the number at a place is the first plus the place, and below the next one
counted_at : (a b : ℕ) (ns : List ℕ) → CountsUp a ns b → (i n : ℕ) → slice_get ns i ≡ Some n → (n ≡ a + i) × (n < b)
counted_at a b ns no_more i n e = absurd (none-some n e)
counted_at a b ns (one_more {ns = rest} k) zero n e =
    let same = same_Some a n e in
    let rise = counts_rise (a + 1) b rest k in
    (omega arith, omega arith)
counted_at a b ns (one_more {ns = rest} k) (suc i) n e =
    let at = counted_at (a + 1) b rest k i n e in
    (omega (arith, at.0), at.1)

counted_new : (a b : ℕ) (ns : List ℕ) → CountsUp a ns b → AreNew a b ns
counted_new a b ns k = record {
  rises = counts_rise a b ns k;
  within = λ i n e. let at = counted_at a b ns k i n e in (omega (arith, at.0), at.1);
  once = λ i j n e f. let at = counted_at a b ns k i n e in let too = counted_at a b ns k j n f in omega (arith, at.0, too.0);
}

-- the numbers that two lists of actions start, one after the other
started_after : (a b : List Action) → started_numbers (a ++ b) ≡ started_numbers a ++ started_numbers b
started_after [] b = refl
started_after (SpawnProcess number words environment ∷ a) b = ap (λ ns. number ∷ ns) (started_after a b)
started_after (SendSignal number signal ∷ a) b = started_after a b

signals_start_none : (signal : sent.Signal) (ns : List ℕ) → started_numbers (map (λ n. SendSignal n signal) ns) ≡ []
signals_start_none signal [] = refl
signals_start_none signal (n ∷ ns) = signals_start_none signal ns

-- the numbers that these actions start count up from one state's next number to another's
abbrev Counts : State → List Action → State → Type 0
Counts s actions t = CountsUp s.next (started_numbers actions) t.next

both_count : (s t u : State) (a b : List Action) → Counts s a t → Counts t b u → Counts s (a ++ b) u
both_count s t u a b h k = subst (λ ns. CountsUp s.next ns u.next) (sym (started_after a b)) (counts_on s.next t.next u.next (started_numbers a) (started_numbers b) h k)

none_counted : (n : ℕ) → CountsUp n [] (n + 0)
none_counted n = subst (CountsUp n []) (let e : n ≡ n + 0 = omega arith in e) no_more

asked_count : (s : ServiceSettings) (c : Around) (u : UnitState) (o : Order) (actions : List Action) → AreActions s c u o actions
    → CountsUp c.next (started_numbers actions) (c.next + spawned o)
asked_count s c u o actions nothing = none_counted c.next
asked_count s c u o actions (spawn which i words started) = one_more no_more
asked_count s c u o actions (signals signal) =
    subst (λ ns. CountsUp c.next ns (c.next + 0)) (sym (signals_start_none signal (live_numbers u))) (none_counted c.next)

-- a change of a unit takes the numbers of its processes, whether its start fails or not
next_after : (s : State) (unit : List ℕ) (c : Change) (v : State) → Becomes s unit c v → v.next ≡ s.next + spawned c.order
next_after s unit c v (alone holds) = refl
next_after s unit c v (along fails h) = ap (λ x. x.next) h.rest

carried_counts : (t : ℕ) (unit : List ℕ) (event : UnitEvent) (s : State) (actions : List Action) (v : State) → Carries t unit event s actions v → Counts s actions v
carried_counts t unit event s actions v h =
    subst (CountsUp s.next (started_numbers actions)) (sym (next_after s unit (change_of t s unit event) v h.state))
    (asked_count (settings_in s.loaded unit) (around t s unit) (change_of t s unit event).unit (change_of t s unit event).order actions h.asked)

happens_counts : (t : ℕ) (unit : List ℕ) (event : UnitEvent) (s : State) (actions : List Action) (v : State) → Happens t unit event s actions v → Counts s actions v
happens_counts t = over_happening t Counts (λ s. no_more) (λ s u v first more. both_count s u v first more) (carried_counts t)

reset_counts : (t : ℕ) (units : List (List ℕ)) (s : State) (actions : List Action) (v : State) → AreReset t units s actions v → Counts s actions v
reset_counts t = over_resets t Counts (λ s. no_more) (λ s u v first more. both_count s u v first more) (carried_counts t)

settled_counts : (t : ℕ) (s : State) (actions : List Action) (v : State) → Settles t s actions v → Counts s actions v
settled_counts t s actions v (Settles.rests none) = no_more
settled_counts t s actions v (begins_next {u = u} {first = first} {more = more} j n h k) =
    both_count s u v first more (happens_counts t j.unit (begins j.kind) (begun s j) first u h) (settled_counts t u more v k)

-- an event of a unit, and the jobs that begin by it
happened_counts : (t : ℕ) (unit : List ℕ) (event : UnitEvent) (s u v : State) (first more : List Action) → Happens t unit event s first u → Settles t u more v → Counts s (first ++ more) v
happened_counts t unit event s u v first more h k = both_count s u v first more (happens_counts t unit event s first u h) (settled_counts t u more v k)

restarted_counts : (s : State) (unit : List ℕ) (v : State) → Restarts s unit v → Counts s [] v
restarted_counts s unit v (Restarts.puts none free) = no_more
restarted_counts s unit v (isnt_put why) = no_more

due_counts : (t : ℕ) (s : State) (unit : List ℕ) (actions : List Action) (v : State) → ComesDue t s unit actions v → Counts s actions v
due_counts t s unit actions v (ComesDue.restarts is again) = restarted_counts s unit v again
due_counts t s unit actions v (ComesDue.passes isnt h) = happens_counts t unit DeadlinePasses s actions v h

fired_counts : (t : ℕ) (timers : Timers) (s : State) (actions : List Action) (v : State) → Fires t timers s actions v → Counts s actions v
fired_counts t timers s actions v (Fires.none_due none) = no_more
fired_counts t timers s actions v (Fires.fires_next {more = z} d n first due (FiresOne.fires {u = u} {v = p} {first = x} {next = y} is h k) l) =
    both_count s p v (x ++ y) z (both_count s u p x y (due_counts t s n x u h) (settled_counts t u y p k)) (fired_counts t (maps.remove timers n) p z v l)
fired_counts t timers s actions v (Fires.fires_next {more = z} d n first due (FiresOne.is_gone isnt) l) = fired_counts t (maps.remove timers n) s z v l

-- a command's change starts nothing by itself
same_next : {profile : Profile} (s : State) (command : Command) (u : State) → Changes profile s command u → u.next ≡ s.next
same_next s command u (puts e) = refl
same_next s command u (links e) = refl
same_next s command u (removes e) = refl
same_next s command u reloads = refl
same_next s command u (plans demanded plan) = refl
same_next s command u (demands_nothing none) = refl
same_next s command u cancels = refl
same_next s command u (installs h) = refl

done_counts : {profile : Profile} (t : ℕ) (s : State) (command : Command) (actions : List Action) (u : State) → Does profile t s command actions u → Counts s actions u
done_counts t s command actions u (Does.changes h) = subst (CountsUp s.next []) (sym (same_next s command u h)) no_more
done_counts t s command actions u (Does.resets {asked = asked} h) = reset_counts t (units_reset s asked) s actions u h

followed_counts : (t : ℕ) (s : State) (happening : Happening) (actions : List Action) (v : State) → Follows t s happening actions v → Counts s actions v
followed_counts t s happening actions v (ends {number = number} {end = end} {first = first} {more = more} {u = u} unit is h k) =
    happened_counts t unit (end_of (state_of_unit s.units unit) number end) s u v first more h k
followed_counts t s happening actions v (reports {first = first} {more = more} {u = u} unit is awaits h k) = happened_counts t unit Executed s u v first more h k
followed_counts t s happening actions v (ticks timers are h) = fired_counts t timers s actions v h
followed_counts t s happening actions v boots = no_more

taken_counts : {profile : Profile} (t : ℕ) (s : State) (event : Event) (actions : List Action) (v : State) → TakesEffect profile t s event actions v → Counts s actions v
taken_counts t s event actions v (obeys {command = command} {first = first} {more = more} {u = u} free does h) =
    both_count s u v first more (done_counts t s command first u does) (settled_counts t u more v h)
taken_counts t s event actions v (meets {happening = happening} effect h) = followed_counts t s happening actions v h

step_counts : (size : ℕ) (s : State) (input : Input) (reply : Reply) (actions : List Action) (t : State) → Step size s input reply actions t → Counts s actions t
step_counts size s input reply actions t (refused e) = no_more
step_counts size s input reply actions t (crowded_out h heavy) = no_more
step_counts size s input reply actions t (idle e) = no_more
step_counts size s input reply actions t (taken {moment = moment} {event = event} {u = v} h fits) = taken_counts (moment_of s moment) s event actions v h

run_counts : (size : ℕ) (s t : State) (inputs : List Input) (run : Run size s inputs t) → Counts s (actions_in run) t
run_counts size s t inputs Run.rests = no_more
run_counts size s t (i ∷ inputs) (goes {t = v} reply actions step run) =
    both_count s v t actions (actions_in run) (step_counts size s i reply actions v step) (run_counts size v t inputs run)

-- a step starts processes under new numbers alone, none of them twice
pub numbers_rise : (size : ℕ) (s : State) (input : Input) (reply : Reply) (actions : List Action) (t : State)
    → Step size s input reply actions t → AreNew s.next t.next (started_numbers actions)
numbers_rise size s input reply actions t step = counted_new s.next t.next (started_numbers actions) (step_counts size s input reply actions t step)

-- and so does a run
pub run_numbers_rise : (size : ℕ) (s t : State) (inputs : List Input) (run : Run size s inputs t) → AreNew s.next t.next (started_numbers (actions_in run))
run_numbers_rise size s t inputs run = counted_new s.next t.next (started_numbers (actions_in run)) (run_counts size s t inputs run)
