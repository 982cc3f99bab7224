-- Lives of managers over one store, how one follows another, the premises on them, and the facts that outlive all
-- stops.
-- No manual page has it: crash safety is this project's own promise (docs/HEADLINE.md reads the theorem line by line).
-- The theorem of managers that outlive crashes stands on this file.
use Rattle.std.specs.Prelude.{◌≡◌, ◌≢◌, ◌≤◌, ⊤, ℕ, List, [], ◌∷◌, ◌++◌, map, flat_map, All, Some}
use Rattle.std.specs.FinMap as maps
use Rattle.std.specs.List.{AllByRecursion}
use Rattle.um_keeper.specs.Finished.{RepeatsNone}
use Rattle.um_keeper.specs.Opening.{IsTakenUp, IsUntaken}
use Rattle.um_model.specs.Begun.{Begun, begun_in}
use Rattle.um_model.specs.Children.{Call, orders}
use Rattle.um_model.specs.Disk.{Image, Past, Images}
use Rattle.um_model.specs.Jobs.{Job, GoesBefore, IsPending, IsToldBefore, state_of_job}
use Rattle.um_model.specs.Lives.{Offer, RunsOver, answered_in}
use Rattle.um_model.specs.Machine.{State, Input, Run, goes, IsBefore}
use Rattle.um_model.specs.Numbers.{AreNew, started_numbers, actions_in}
use Rattle.um_model.specs.Service.{Action, SpawnProcess, SendSignal, active_state_of, state_of_unit}
use Rattle.um_model.specs.Stands.{IsStoreOf}
use Rattle.um_model.specs.Store.{body_limit, store_sectors}
use Rattle.um_model.specs.declared.jobs.JobKind.TheVariants.{Start}
use Rattle.um_model.specs.declared.jobs.JobState.TheVariants.{Waiting}
use Rattle.um_model.specs.declared.layout.Layout.{Layout}
use Rattle.um_model.specs.declared.layout.Slot.{Slot}
use Rattle.um_model.specs.declared.service.ActiveState.TheVariants.{Deactivating}
use Rattle.um_sector.specs.Left.{IsLeftBy}
use Rattle.um_wire.specs.declared.refusal.Refusal.{Refusal}
use Rattle.um_wire.specs.declared.refusal.Refusal.TheVariants.{GenerationsSpent}
use Rattle.um_manager.specs.Done.{Told, where_done}
use Rattle.um_manager.specs.Living.{ManagerLife, offers_of, told_of, IsByDisk, IsByChildren}

-- each life finds the disk that the one before it left
abbrev pub FollowOnDisk : (disk : Past) → List ManagerLife → (stop : Past) → Type 0
FollowOnDisk disk [] stop = stop ≡ disk
FollowOnDisk disk (life ∷ lives) stop = IsLeftBy disk life.disk × FollowOnDisk life.stop lives stop

-- the history of the children's calls goes on
abbrev pub FollowInCalls : (calls : List Call) → List ManagerLife → (all : List Call) → Type 0
FollowInCalls calls [] all = all ≡ calls
FollowInCalls calls (life ∷ lives) all = (life.before ≡ calls) × FollowInCalls life.calls lives all

-- ---- the premises

-- no entry, no unit, no job and no boot, the clock at 0, and the next number 1; the profile is either
pub record IsEmpty (s : State) : Type 0 where
  pub tree : s.tree ≡ maps.empty
  pub loaded : s.loaded.entries ≡ maps.empty
  pub boot : s.boot ≡ []
  pub clock : s.clock ≡ 0
  pub next : s.next ≡ 1
  pub units : s.units ≡ maps.empty
  pub pending : s.pending ≡ maps.empty

-- The premises on the disk under all lives of managers over one store, up to the last stop.
pub record DiskPremises (layout : Layout) (first : State) (lives : List ManagerLife) (stop : Past) : Type 0 where
  -- the disk as the store was made on it, by a `create` that answered Ok: a store of an empty state
  pub made : Past
  pub empty : IsEmpty first
  pub created : Images made (λ image. IsStoreOf layout image first)
  -- nobody else writes the disk: each life finds the disk that the one before it left
  pub follow : FollowOnDisk made lives stop
  -- the disk does what it answers, and after a fault the store is opened again: each life ends with the first turn that its store refuses
  pub each : AllByRecursion (λ (life : ManagerLife). IsByDisk layout life.way life.stop) lives

-- The premises on the children.
pub record ChildrenPremises (lives : List ManagerLife) (calls : List Call) : Type 0 where
  -- their calls before the store was made: they had started nothing
  pub before : List Call
  pub unstarted : started_numbers (orders before) ≡ []
  -- nobody else calls them
  pub follow : FollowInCalls before lives calls
  -- they do what they answer, and no call is missing from their history
  pub each : AllByRecursion (λ (life : ManagerLife). IsByChildren life.way life.calls) lives

-- ---- the facts that outlive them

-- One run through all lives: of each over a beginning of its offers, without those that were turned away; each offer
-- that was answered is in it, and got the reply of its step.
pub data RunsThroughAll (size : ℕ) : State → List (List Offer) → List Input → State → Type 0 where
  at_end : {s : State} → RunsThroughAll size s [] [] s
  and_on : {s t u : State} {offers : List Offer} {lives : List (List Offer)} {here more : List Input} → RunsOver size s offers here t
      → RunsThroughAll size t lives more u → RunsThroughAll size s (offers ∷ lives) (here ++ more) u

-- the second list has all of the first in its order, and maybe others between them
pub data StandIn {X : Type 0} : List X → List X → Type 0 where
  no_others : StandIn [] []
  too : {x : X} {some all : List X} → StandIn some all → StandIn (x ∷ some) (x ∷ all)
  between : {x : X} {some all : List X} → StandIn some all → StandIn some (x ∷ all)

-- the starts among these actions
abbrev pub starts_in : List Action → List Action
starts_in [] = []
starts_in (SpawnProcess number words environment ∷ actions) = SpawnProcess number words environment ∷ starts_in actions
starts_in (SendSignal number signal ∷ actions) = starts_in actions

-- the inputs of a run that were done, each with its reply
abbrev pub done_in : {size : ℕ} {s t : State} {inputs : List Input} → Run size s inputs t → List Told
done_in Run.rests = []
done_in (goes {input = input} reply actions step run) = where_done input reply ++ done_in run

-- A job may begin in a state: it waits, no job that goes before it by the order of the loaded tree is pending, and the unit of a start isn't deactivating.
pub record MayBegin (s : State) (job : Job) : Type 0 where
  pub waits : state_of_job s.pending job ≡ Some Waiting
  pub none_before : (other : Job) → GoesBefore (IsBefore s.loaded) other job → ¬ IsPending s.pending other
  pub settled : job.kind ≡ Start → active_state_of (state_of_unit s.units job.unit).sub ≢ Deactivating

-- a job that begins may begin in the state from which it does, and is the least that may
pub record BeginsInTurn (b : Begun) : Type 0 where
  pub may : MayBegin b.before b.job
  pub least : (other : Job) → MayBegin b.before other → other ≢ b.job → IsToldBefore b.job other

-- each job that begins in the run did so in its turn
abbrev pub EachInTurn : {size : ℕ} {s t : State} {inputs : List Input} → Run size s inputs t → Type 0
EachInTurn Run.rests = ⊤
EachInTurn (goes reply actions step run) = All BeginsInTurn (begun_in step) × EachInTurn run

-- The facts that outlive all stops, of one image that the last of them leaves.
pub record Outlives (layout : Layout) (first : State) (lives : List ManagerLife) (image : Image) : Type 0 where
  -- the inputs that were kept of all offers, and the state to which they lead
  pub kept : List Input
  pub state : State
  -- the image is a store of the state that one run reaches, from the empty state over a beginning of the offers
  pub store : IsStoreOf layout image state
  pub run : RunsThroughAll (body_limit layout) first (map (λ (life : ManagerLife). offers_of life.way) lives) kept state
  -- an opening takes up that state and no other; and, where the disk has room, it is refused for the last generation alone, or for want of memory or the device
  pub opens : (count : ℕ) (of : Layout) (slot : Slot) (generation : ℕ) (s : State) → IsTakenUp count image of slot generation s → s ≡ state
  pub reopens : (count : ℕ) (e : Refusal) → store_sectors layout ≤ count → IsUntaken count image e → e ≡ GenerationsSpent
  -- all that was answered is in it, in its order
  pub answered : StandIn (flat_map answered_in (map (λ (life : ManagerLife). offers_of life.way) lives)) kept
  -- the commands that were reported to any connection as done are among those that the steps of the run did, with these
  -- replies, in their order
  pub told : (k : ℕ) (run : Run (body_limit layout) first kept state) → StandIn (flat_map (λ (life : ManagerLife). told_of k life.way) lives) (done_in run)
  -- each job that begins in the run does so in its turn
  pub ready : (run : Run (body_limit layout) first kept state) → EachInTurn run
  -- no oneshot that finished begins again before a command's plan puts a start of it
  pub finished : (run : Run (body_limit layout) first kept state) → RepeatsNone run
  -- no number was started twice, and each that was lies below the next number of that state
  pub started : (calls : List Call) → ChildrenPremises lives calls → AreNew first.next state.next (started_numbers (orders calls))
  -- each start that was ordered, with its number, words and environment, is one of the actions of the run's
  -- steps, in their order
  pub carried : (calls : List Call) → ChildrenPremises lives calls → (run : Run (body_limit layout) first kept state)
      → StandIn (starts_in (orders calls)) (starts_in (actions_in run))
