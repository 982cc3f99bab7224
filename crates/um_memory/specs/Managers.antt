-- The state that a manager in memory holds, and its output for its input.
use Rattle.std.specs.Prelude.{◌≡◌, ℕ, List, [], ◌++◌, map, Option}
use Rattle.std.specs.Io.KnownBytes.{Appends}
use Rattle.um_model.specs.Machine.{State, Event, Reply, Told, Step}
use Rattle.um_model.specs.Service.{Action}
use Rattle.um_model.specs.Frames.{Answers, frame_of, input_of}
use Rattle.um_model.specs.Replies.{reply_text}
use Rattle.um_model.specs.declared.frames.Ending.{Ending}
use Rattle.um_keeper.specs.Keepers.{state_in, size_in}
use Rattle.um_state.specs.View.{action_of}
use Rattle.um_memory.specs.Streams.{WritesFrom, BeginsFrom}
use Rattle.um_memory.specs.declared.serving.Manager.{Manager}

abbrev pub state_of : Manager → State
state_of m = state_in m.keeper

abbrev pub size_of : Manager → ℕ
size_of m = size_in m.keeper

abbrev pub kept_of : Manager → List Action
kept_of m = map action_of m.kept.items

-- the actions that a reply names
abbrev pub actions_told : Reply → List Action
actions_told (Told actions) = actions
actions_told other = []

-- one step for an event at the given moment, or at the clock's; its actions are kept
abbrev pub StepsTo : Manager → Option ℕ → Event → Reply → Manager → Type 0
StepsTo m at event reply n =
    (actions : List Action) × Step (size_of m) (state_of m) (input_of (state_of m) at event) reply actions (state_of n) × (kept_of n ≡ kept_of m ++ actions)

-- a frame is answered by this text
abbrev pub IsAnswered : Manager → List ℕ → List ℕ → Manager → Type 0
IsAnswered m bytes text n = (reply : Reply) × (text ≡ reply_text reply) × Answers (size_of m) (state_of m) (kept_of m) bytes reply (state_of n) (kept_of n)

-- the answer to a frame was written
abbrev pub WritesReply : Manager → List ℕ → Manager → Option (List ℕ) → Option (List ℕ) → Type 0
WritesReply m bytes n old new =
    (reply : Reply) × Answers (size_of m) (state_of m) (kept_of m) bytes reply (state_of n) (kept_of n) × Appends old new (frame_of (reply_text reply))

-- a beginning of an answer to a frame was written
pub data BeginsReply (m : Manager) (bytes : List ℕ) (old new : Option (List ℕ)) : Type 0 where
  nothing : Appends old new [] → BeginsReply m bytes old new
  front : (reply : Reply) (t : State) (left : List Action) (part more : List ℕ) → Answers (size_of m) (state_of m) (kept_of m) bytes reply t left
      → frame_of (reply_text reply) ≡ part ++ more → Appends old new part → BeginsReply m bytes old new

-- the output written for the input read, from this manager on
abbrev pub WritesReplies : Manager → Option (List ℕ) → Option (List ℕ) → Option (List ℕ) → Ending → Type 0
WritesReplies m = WritesFrom (size_of m) (state_of m) (kept_of m)

-- a beginning of it was written
abbrev pub WritesBeginning : Manager → Option (List ℕ) → Option (List ℕ) → Option (List ℕ) → Type 0
WritesBeginning m = BeginsFrom (size_of m) (state_of m) (kept_of m)
