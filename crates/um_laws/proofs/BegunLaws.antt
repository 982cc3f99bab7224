-- A job that begins was the least of those that were ready.
use Rattle.std.proofs.Common.{ℕ, List}
use Rattle.std.specs.List.{All}
use Rattle.std.proofs.lemmas.List.Elements.{All-nil, All-cons, All-append}
use Rattle.um_model.specs.declared.profile.Profile.{Profile}
use Rattle.um_model.specs.Begun.{begun_settling, begun_firing, begun_following, begun_taking, begun_in, WasNext}
use Rattle.um_model.specs.Machine.{State, Happening, Event, Input, Reply, Settles, begins_next, Fires, FiresOne, Follows, TakesEffect, Step}
use Rattle.um_model.specs.Service.{Action}
use Rattle.um_model.specs.Timers.{Timers}

settling_next : {t : ℕ} {s v : State} {actions : List Action} (h : Settles t s actions v) → All WasNext (begun_settling h)
settling_next (Settles.rests still) = All-nil WasNext
settling_next (begins_next {s = s} job least effect more) =
    All-cons WasNext (record { before = s; job = job }) (begun_settling more) least (settling_next more)

firing_next : {t : ℕ} {timers : Timers} {s v : State} {actions : List Action} (h : Fires t timers s actions v) → All WasNext (begun_firing h)
firing_next (Fires.none_due none) = All-nil WasNext
firing_next (Fires.fires_next deadline unit first due (FiresOne.fires stands comes settles) more) =
    All-append WasNext (begun_settling settles) (begun_firing more) (settling_next settles) (firing_next more)
firing_next (Fires.fires_next deadline unit first due (FiresOne.is_gone gone) more) = firing_next more

following_next : {t : ℕ} {s v : State} {happening : Happening} {actions : List Action} (h : Follows t s happening actions v) → All WasNext (begun_following h)
following_next (Follows.ends unit of_it effect settles) = settling_next settles
following_next (Follows.reports unit of_it awaits effect settles) = settling_next settles
following_next (Follows.ticks timers are firing) = firing_next firing
following_next Follows.boots = All-nil WasNext

taking_next : {profile : Profile} {t : ℕ} {s v : State} {event : Event} {actions : List Action} (h : TakesEffect profile t s event actions v) → All WasNext (begun_taking h)
taking_next (TakesEffect.obeys allowed does settles) = settling_next settles
taking_next (TakesEffect.meets counts follows) = following_next follows

-- each job that begins in a step was next
pub begun_next : {size : ℕ} {s t : State} {input : Input} {reply : Reply} {actions : List Action} (step : Step size s input reply actions t)
    → All WasNext (begun_in step)
begun_next (Step.refused cause) = All-nil WasNext
begun_next (Step.crowded_out takes heavy) = All-nil WasNext
begun_next (Step.idle effectless) = All-nil WasNext
begun_next (Step.taken takes light) = taking_next takes
