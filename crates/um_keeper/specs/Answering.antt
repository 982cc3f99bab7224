-- The answers to a list of inputs that are taken in order, and the images that a crash leaves of them.
-- No manual page has it: it is the project's own (docs/CRASH.md describes it in plain words).
-- `Keeper::submit_all` and the running manager stand on this file.
use Rattle.std.specs.Prelude.{◌≡◌, ◌≢◌, ◌⊎◌, ◌+◌, ◌-◌, ◌*◌, ◌^◌, ◌≤◌, ◌++◌, ℕ, Bool, true, false, if◌then◌else◌, List, [], ◌∷◌, length, map, replicate, Contains, Result, Ok, Err}
use Rattle.um_engine.specs.Engine.{state_before}
use Rattle.um_engine.specs.OfStore.{is_of_store}
use Rattle.um_engine.specs.declared.engine.Back.{Back}
use Rattle.um_keeper.specs.Keeping.{record_calls}
use Rattle.um_log.specs.Reading.{Fits}
use Rattle.um_model.specs.Disk.{one_more}
use Rattle.um_model.specs.InputSpellings.{input_spelling}
use Rattle.um_model.specs.Machine.{State, Input, Reply, Refusal, Step, moment_of}
use Rattle.um_engine.specs.Engine.{LacksEffect}
use Rattle.um_model.specs.Refusals.{Refused}
use Rattle.um_model.specs.Service.{Action}
use Rattle.um_model.specs.Standing.{Standing}
use Rattle.um_model.specs.Store.{body_limit, sector_count, part_count, log_end}
use Rattle.um_model.specs.declared.layout.Layout.{Layout}
use Rattle.um_wire.specs.Refusal.{refused_of}
use Rattle.um_wire.specs.declared.refusal.Refusal as declared
use Rattle.um_wire.specs.declared.refusal.Refusal.TheVariants.{NoMemory, Device, GenerationsSpent}

-- the answer to one input: the reply and the actions of its step, or a refusal
abbrev pub Answer : Type 0
Answer = Result (Reply × List Action) declared.Refusal

-- E15 and E20 turn one input away: it is no step, and the others aren't touched
abbrev pub is_turned_away : declared.Refusal → Bool
is_turned_away NoMemory = true
is_turned_away GenerationsSpent = true
is_turned_away other = false

-- The answer to an input in a state, and the state after it.
pub data Answered (size : ℕ) (s : State) (input : Input) : Answer → State → Type 0 where
  accepted : {reply : Reply} {actions : List Action} {t : State} → Step size s input reply actions t → ((r : Refused) → reply ≢ Refusal r)
      → Answered size s input (Ok (reply, actions)) t
  refused : {e : declared.Refusal} → is_of_store e ≡ false → is_turned_away e ≡ false → Step size s input (Refusal (refused_of e)) [] s
      → Answered size s input (Err e) s
  turned_away : {e : declared.Refusal} → is_turned_away e ≡ true → Answered size s input (Err e) s

-- The answers to inputs that are taken in order from a state on, and the state after them.
pub data AreAnswered (size : ℕ) : State → List Input → List Answer → State → Type 0 where
  all_answered : {s : State} → AreAnswered size s [] [] s
  and_next : {s t u : State} {input : Input} {inputs : List Input} {answer : Answer} {answers : List Answer} → Answered size s input answer t
      → AreAnswered size t inputs answers u → AreAnswered size s (input ∷ inputs) (answer ∷ answers) u

-- the answer in place of this one if the disk fails after it: E16 if it was accepted, and a refusal stays
abbrev pub denied : Answer → Answer
denied (Ok given) = Err Device
denied (Err e) = Err e

-- some answer is E16
abbrev pub HasFault : List Answer → Type 0
HasFault answers = Contains answers (Err Device)

-- the count of failures rises, and by one, exactly where some answer is E16
abbrev pub CountsFault : List Answer → ℕ → ℕ → Type 0
CountsFault answers old new = (HasFault answers × (new ≡ one_more old)) ⊎ ((¬ HasFault answers) × (new ≡ old))

-- the input, where its answer is that of a step: it was accepted, or refused for a cause of its own
abbrev pub where_step : Answer → Input → List Input
where_step (Ok given) input = input ∷ []
where_step (Err e) input = if is_turned_away e then [] else input ∷ []

-- the inputs that were taken: all but those that were turned away
abbrev pub taken : List Input → List Answer → List Input
taken (input ∷ inputs) (answer ∷ answers) = where_step answer input ++ taken inputs answers
taken inputs answers = []

-- the actions of an answer, and those of answers, in their order
abbrev pub asked_by : Answer → List Action
asked_by (Ok (reply, actions)) = actions
asked_by (Err e) = []

abbrev pub all_asked : List Answer → List Action
all_asked [] = []
all_asked (answer ∷ answers) = asked_by answer ++ all_asked answers

-- an input that has no effect in the state
abbrev pub IsIdle : State → Input → Type 0
IsIdle s input = LacksEffect (moment_of s input.moment) s input.event

-- the answer is the refusal of a step
abbrev pub IsRefusal : Answer → Type 0
IsRefusal (Ok given) = ⊥
IsRefusal (Err e) = (e ≢ Device) × (is_turned_away e ≡ false)

-- nothing of these inputs is to be recorded: each has no effect in the state, or is refused
abbrev pub NeedNoRecord : State → List Input → List Answer → Type 0
NeedNoRecord s (input ∷ inputs) (answer ∷ answers) = (IsIdle s input ⊎ IsRefusal answer) × NeedNoRecord s inputs answers
NeedNoRecord s inputs answers = Unit {0}

-- no record of the input is written: it has no effect in the state, or isn't accepted
abbrev pub HasNoRecord : State → Input → Answer → Type 0
HasNoRecord s input (Ok given) = IsIdle s input
HasNoRecord s input (Err e) = Unit {0}

-- so it is of each of these, which leave the state as it is
abbrev pub HaveNoRecord : State → List Input → List Answer → Type 0
HaveNoRecord s (input ∷ inputs) (answer ∷ answers) = HasNoRecord s input answer × HaveNoRecord s inputs answers
HaveNoRecord s inputs answers = Unit {0}

-- the sectors of the record of an input
abbrev pub record_sectors : Input → ℕ
record_sectors input = part_count (length (input_spelling input))

-- Inputs are judged in order from a state on, and their records take this many sectors: none for an input that has no
-- effect in its state, or isn't accepted.
pub data Recorded (size : ℕ) : State → List Input → List Answer → (sectors : ℕ) → State → Type 0 where
  all_recorded : {s : State} → Recorded size s [] [] 0 s
  without_record : {s u : State} {input : Input} {inputs : List Input} {answer : Answer} {answers : List Answer} {sectors : ℕ} → HasNoRecord s input answer
      → Recorded size s inputs answers sectors u → Recorded size s (input ∷ inputs) (answer ∷ answers) sectors u
  with_record : {s t u : State} {input : Input} {inputs : List Input} {answer : Answer} {answers : List Answer} {sectors : ℕ}
      → Answered size s input answer t → ¬ HasNoRecord s input answer → Recorded size t inputs answers sectors u
      → Recorded size s (input ∷ inputs) (answer ∷ answers) (record_sectors input + sectors) u

-- The input is accepted in the state, and has an effect in it: so its record is to be written.
pub record NeedsRecord (size : ℕ) (s : State) (input : Input) : Type 0 where
  pub reply : Reply
  pub actions : List Action
  pub t : State
  pub step : Step size s input reply actions t
  pub accepted : (r : Refused) → reply ≢ Refusal r
  pub effect : ¬ IsIdle s input

-- A call on the disk failed after the judged inputs: at the sync of their records, with no input left, or at the first
-- that is left, at its record or at the calls that make room for it.
pub data FailsAt (size : ℕ) (s : State) (judged : List Input) (meant : List Answer) (u : State) : List Input → Type 0 where
  at_sync : ¬ HaveNoRecord s judged meant → FailsAt size s judged meant u []
  at_record : {input : Input} {behind : List Input} → NeedsRecord size u input → FailsAt size s judged meant u (input ∷ behind)

-- the sectors of the record at which it failed
abbrev pub sectors_there : List Input → ℕ
sectors_there [] = 0
sectors_there (input ∷ behind) = record_sectors input

-- the calls that are made there at most: one for each of these sectors, or the sync
abbrev pub calls_there : List Input → ℕ
calls_there [] = 1
calls_there (input ∷ behind) = record_sectors input

-- The answers to a list in which a call on the disk failed: those of the inputs before it are denied, and from it on each is E16. The state
-- is that from before.
pub record FellBack (size : ℕ) (s : State) (inputs : List Input) (answers : List Answer) (t : State) : Type 0 where
  pub judged : List Input
  pub rest : List Input
  pub parts : inputs ≡ judged ++ rest
  pub meant : List Answer
  pub u : State
  pub were : AreAnswered size s judged meant u
  pub fails : FailsAt size s judged meant u rest
  pub are : answers ≡ map denied meant ++ replicate (length rest) (Err Device)
  pub state : t ≡ s

-- The same, and it failed no further on than there, by the calls that were made: where the records have room between these sectors of the log, no more than
-- one for each of their sectors, and the sync where it failed at that.
pub record FellThere (next end before now : ℕ) (size : ℕ) (s : State) (inputs : List Input) (answers : List Answer) (t : State) : Type 0 where
  pub fell : FellBack size s inputs answers t
  pub sectors : ℕ
  pub recorded : Recorded size s fell.judged fell.meant sectors fell.u
  pub few : next + sectors + sectors_there fell.rest ≤ end → now ≤ before + sectors + calls_there fell.rest

-- The answers to a beginning of the inputs, after which a call on the disk failed, and the calls that were made.
pub record StopsAt (next end before now : ℕ) (size : ℕ) (s : State) (inputs : List Input) (answers : List Answer) : Type 0 where
  pub judged : List Input
  pub rest : List Input
  pub parts : inputs ≡ judged ++ rest
  pub u : State
  pub were : AreAnswered size s judged answers u
  pub fails : FailsAt size s judged answers u rest
  pub sectors : ℕ
  pub recorded : Recorded size s judged answers sectors u
  pub few : next + sectors + sectors_there rest ≤ end → now ≤ before + sectors + calls_there rest

-- E20 turns an input away only where the log's generation is the last, and its record has no room in it from this sector on
abbrev pub IsSpentAt : Layout → (generation from : ℕ) → Input → Answer → Type 0
IsSpentAt layout generation from input answer =
    answer ≡ Err GenerationsSpent → (2 ^ 64 - 1 ≤ generation) × (¬ Fits layout (2 ^ 64 - 1) from (length (input_spelling input)))

-- The same of each of these inputs, judged in order from a state on, after the records of those before it: an input
-- that has no effect in its state, or isn't accepted, has no record.
pub data AreSpentAt (layout : Layout) (generation size : ℕ) : (from : ℕ) → State → List Input → List Answer → Type 0 where
  none_spent : {from : ℕ} {s : State} → AreSpentAt layout generation size from s [] []
  spent_without : {from : ℕ} {s : State} {input : Input} {inputs : List Input} {answer : Answer} {answers : List Answer}
      → IsSpentAt layout generation from input answer → HasNoRecord s input answer → AreSpentAt layout generation size from s inputs answers
      → AreSpentAt layout generation size from s (input ∷ inputs) (answer ∷ answers)
  spent_with : {from : ℕ} {s t : State} {input : Input} {inputs : List Input} {answer : Answer} {answers : List Answer}
      → Answered size s input answer t → ¬ HasNoRecord s input answer → AreSpentAt layout generation size (from + record_sectors input) t inputs answers
      → AreSpentAt layout generation size from s (input ∷ inputs) (answer ∷ answers)

-- The same of the answers to a list, and, if a call on the disk failed, of the answers that those before it were meant
-- to get.
pub data AreSpentAsMeant (layout : Layout) (generation size from : ℕ) (s : State) (inputs : List Input) (answers : List Answer) : Type 0 where
  as_told : AreSpentAt layout generation size from s inputs answers → AreSpentAsMeant layout generation size from s inputs answers
  as_meant : {judged : List Input} {meant : List Answer} (rest : List Input) → inputs ≡ judged ++ rest
      → answers ≡ map denied meant ++ replicate (length rest) (Err Device)
      → AreSpentAt layout generation size from s judged meant → AreSpentAsMeant layout generation size from s inputs answers

-- the most calls that a snapshot takes, whatever state it is of
abbrev pub most_snapshot_calls : Layout → ℕ
most_snapshot_calls layout = sector_count (body_limit layout) + 3

-- The most disk calls of a list answered without a fault: its records' sectors, a sync, and a snapshot and a sync for
-- each generation by which the log rose, which it doesn't if the records have room from this sector on.
pub record TakesCalls (layout : Layout) (next generation risen before now : ℕ) (size : ℕ) (s : State) (inputs : List Input) (answers : List Answer) (t : State)
    : Type 0 where
  pub sectors : ℕ
  pub recorded : Recorded size s inputs answers sectors t
  pub rises : ℕ
  pub risen_by : risen ≡ generation + rises
  pub stays : next + sectors ≤ log_end layout generation → rises ≡ 0
  pub few : now ≤ before + sectors + 1 + rises * (most_snapshot_calls layout + 1)

-- The most disk calls of a list answered without a fault that begins one snapshot at most where none was under way:
-- the sectors of its records, a sync before the snapshot, and one after them all, but no sector of the snapshot.
pub record BeginsOne (before now : ℕ) (size : ℕ) (s : State) (inputs : List Input) (answers : List Answer) (t : State) : Type 0 where
  pub sectors : ℕ
  pub recorded : Recorded size s inputs answers sectors t
  pub few : now ≤ before + sectors + 2

-- the standing before the steps that these ways lead back from, the last one first
abbrev pub state_before_all : List Back → Standing → Standing
state_before_all [] s = s
state_before_all (back ∷ backs) s = state_before back (state_before_all backs s)

-- The most calls on the disk that inputs take: of each its record, and a snapshot before it.
abbrev pub most_calls : Layout → List Input → ℕ
most_calls layout [] = 0
most_calls layout (input ∷ inputs) = most_snapshot_calls layout + record_calls input + most_calls layout inputs
