-- The requests that a session gives to be answered, as the code has them.
-- No manual page has this: it is the project's own protocol (docs/FORMATS.md, "Frames").
-- Sessions stand on this file.
use Rattle.std.specs.Prelude.{◌≡◌, List, ℕ, false, Option, Some, None, Result, ⊤}
use Rattle.um_model.specs.Frames.{BeginsWith}
use Rattle.um_model.specs.Sessions.{Session, Asked, Reads}
use Rattle.um_proto.specs.View.{request_of}
use Rattle.um_proto.specs.declared.request.Request.{Request}
use Rattle.um_wire.specs.Gives.{Gives}
use Rattle.um_wire.specs.declared.refusal.Refusal.{Refusal}

-- the request given is the one read, or reading it found no memory
abbrev pub IsGiven : Option (Result Request Refusal) → Option Asked → Type 0
IsGiven None None = ⊤
IsGiven (Some given) (Some asked) = Gives request_of given asked
IsGiven given asked = ⊥

-- the next reading is given, or that it found no memory
abbrev pub IsReading : Session → Option (Result Request Refusal) → Session → Type 0
IsReading s given t = (asked : Option Asked) × Reads s t asked × IsGiven given asked

-- a whole frame waits in it to be read
pub record HoldsFrame (s : Session) : Type 0 where
  pub reads : s.failed ≡ false
  pub bytes : List ℕ
  pub rest : List ℕ
  pub begins : BeginsWith s.rest bytes rest
