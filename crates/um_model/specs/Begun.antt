-- Which jobs begin in a step, in their order, each with the state from which it begins.
-- Follows no manual page: the machine is this project's own.
-- The law of jobs that begin, and that of finished oneshots over all crashes, depend on this file.
use Rattle.std.specs.Prelude.{ℕ, List, [], ◌∷◌, ◌++◌, map as each}
use Rattle.um_model.specs.Jobs.{Job, BeginsNext}
use Rattle.um_model.specs.Machine.{State, Happening, Event, Input, Reply, IsBefore, Settles, begins_next, Fires, FiresOne, Follows, TakesEffect, Step}
use Rattle.um_model.specs.Service.{Action}
use Rattle.um_model.specs.Timers.{Timers}
use Rattle.um_model.specs.declared.profile.Profile.{Profile}

-- a job that begins, and the state right before that
pub record Begun : Type 0 where
  pub before : State
  pub job : Job

-- the jobs that begin until none is ready
abbrev pub begun_settling : {t : ℕ} {s v : State} {actions : List Action} → Settles t s actions v → List Begun
begun_settling (Settles.rests still) = []
begun_settling (begins_next {s = s} job least effect more) = record { before = s; job = job } ∷ begun_settling more

-- those that begin after the deadlines that fire
abbrev pub begun_firing : {t : ℕ} {timers : Timers} {s v : State} {actions : List Action} → Fires t timers s actions v → List Begun
begun_firing (Fires.none_due none) = []
begun_firing (Fires.fires_next deadline unit first due (FiresOne.fires stands comes settles) more) = begun_settling settles ++ begun_firing more
begun_firing (Fires.fires_next deadline unit first due (FiresOne.is_gone gone) more) = begun_firing more

-- those that begin by the effect of a happening
abbrev pub begun_following : {t : ℕ} {s v : State} {happening : Happening} {actions : List Action} → Follows t s happening actions v → List Begun
begun_following (Follows.ends unit of_it effect settles) = begun_settling settles
begun_following (Follows.reports unit of_it awaits effect settles) = begun_settling settles
begun_following (Follows.ticks timers are firing) = begun_firing firing
begun_following Follows.boots = []

-- those that begin by the effect of an event
abbrev pub begun_taking : {profile : Profile} {t : ℕ} {s v : State} {event : Event} {actions : List Action}
    → TakesEffect profile t s event actions v → List Begun
begun_taking (TakesEffect.obeys allowed does settles) = begun_settling settles
begun_taking (TakesEffect.meets counts follows) = begun_following follows

-- those that begin in a step: none, if it is refused or without effect
abbrev pub begun_in : {size : ℕ} {s t : State} {input : Input} {reply : Reply} {actions : List Action} → Step size s input reply actions t → List Begun
begun_in (Step.refused cause) = []
begun_in (Step.crowded_out takes heavy) = []
begun_in (Step.idle effectless) = []
begun_in (Step.taken takes light) = begun_taking takes

-- the jobs alone, without the states
abbrev pub jobs_of : List Begun → List Job
jobs_of begun = each (λ (b : Begun). b.job) begun

abbrev pub jobs_begun_in : {size : ℕ} {s t : State} {input : Input} {reply : Reply} {actions : List Action} → Step size s input reply actions t → List Job
jobs_begun_in step = jobs_of (begun_in step)

-- the job was the least of those that were ready in the state from which it began
abbrev pub WasNext : Begun → Type 0
WasNext b = BeginsNext (IsBefore b.before.loaded) b.before.units b.before.pending b.job
