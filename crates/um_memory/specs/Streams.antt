-- The bytes that a reader gave and a writer took, where they are known: frame by frame, and over a whole stream.
use Rattle.std.specs.Prelude.{◌≡◌, ℕ, ◌<◌, List, [], ◌++◌, length, Option, Some, None, ⊤}
use Rattle.std.specs.Io.KnownBytes.{Appends, Consumes, IsAtEnd}
use Rattle.um_model.specs.Machine.{State, Reply}
use Rattle.um_model.specs.Replies.{reply_text}
use Rattle.um_model.specs.Service.{Action}
use Rattle.um_model.specs.Frames.{BeginsWith, EndsSo, Serves, Answers, frame_of, last_reply}
use Rattle.um_model.specs.declared.frames.Ending.{Ending}
use Rattle.um_model.specs.declared.frames.Ending.TheVariants.{Inside}
use Rattle.um_memory.specs.declared.frames.Piece.{Piece}
use Rattle.um_memory.specs.declared.frames.Piece.TheVariants.{Frame, End}

-- a beginning of the output for a stream: the replies to some of its frames, and a front of the next or of the last one
pub data Begins (size : ℕ) : State → List Action → (stream out : List ℕ) → Type 0 where
  stops : {s : State} {kept : List Action} {stream : List ℕ} → Begins size s kept stream []
  in_reply : {s t : State} {kept left : List Action} {stream bytes rest front : List ℕ} (r : Reply) (more : List ℕ) → BeginsWith stream bytes rest
      → Answers size s kept bytes r t left → frame_of (reply_text r) ≡ front ++ more → Begins size s kept stream front
  at_end : {s : State} {kept : List Action} {stream front : List ℕ} (ending : Ending) (more : List ℕ) → EndsSo stream ending
      → last_reply ending ≡ front ++ more → Begins size s kept stream front
  goes_on : {s t : State} {kept left : List Action} {stream bytes rest out : List ℕ} (r : Reply) → BeginsWith stream bytes rest
      → Answers size s kept bytes r t left → Begins size t left rest out → Begins size s kept stream (frame_of (reply_text r) ++ out)

-- the piece that a reader gave next: a frame, or how its stream ends
abbrev pub Comes : Piece → Option (List ℕ) → Option (List ℕ) → Type 0
Comes piece None new = ⊤
Comes (End ending) (Some stream) new = EndsSo stream ending
Comes (Frame bytes) (Some stream) None = ⊥
Comes (Frame bytes) (Some stream) (Some rest) = BeginsWith stream bytes.items rest

-- a frame of this size after its length, or the input ended within it
abbrev pub IsBodyOf : ℕ → Piece → Option (List ℕ) → Option (List ℕ) → Type 0
IsBodyOf size (End ending) old new = (ending ≡ Inside) × (part : List ℕ) × (length part < size) × Consumes old new part × IsAtEnd new
IsBodyOf size (Frame bytes) old new = (length bytes.items ≡ size) × Consumes old new bytes.items

-- the output written for the input read, from a state with kept actions on
abbrev pub WritesFrom : ℕ → State → List Action → Option (List ℕ) → Option (List ℕ) → Option (List ℕ) → Ending → Type 0
WritesFrom size s kept None old new ending = ⊤
WritesFrom size s kept (Some stream) old new ending = (out : List ℕ) × Serves size s kept stream out ending × Appends old new out

-- a beginning of it was written
abbrev pub BeginsFrom : ℕ → State → List Action → Option (List ℕ) → Option (List ℕ) → Option (List ℕ) → Type 0
BeginsFrom size s kept None old new = ⊤
BeginsFrom size s kept (Some stream) old new = (out : List ℕ) × Begins size s kept stream out × Appends old new out
