-- The requests that a turn takes of the connections, and the replies that each is due.
-- No manual page has this: it is the project's own protocol (docs/FORMATS.md, "Frames").
-- The turn of the manager stands on this file.
use Rattle.std.specs.Prelude.{◌≡◌, ◌≤◌, ℕ, List, [], ◌∷◌, ◌++◌, flat_map, map, length, false, Option, Some, None, Result, Ok, Err, ⊤}
use Rattle.std.specs.List.{AllByRecursion}
use Rattle.um_model.specs.Machine.{Input}
use Rattle.um_model.specs.Profiles.{current}
use Rattle.um_model.specs.Sessions.{Session, Does, Room, Feed}
use Rattle.um_proto.specs.declared.request.Asked.{Asked}
use Rattle.um_proto.specs.declared.request.Asked.TheVariants as asked
use Rattle.um_proto.specs.declared.request.Request.{Request}
use Rattle.um_session.specs.Readings.{HoldsFrame, IsReading}
use Rattle.um_state.specs.View.{event_of}
use Rattle.um_state.specs.declared.reply.Reply.TheVariants as reply
use Rattle.um_wire.specs.declared.refusal.Refusal.{Refusal}
use Rattle.um_wire.specs.declared.refusal.Refusal.TheVariants as refusal
use Rattle.um_manager.specs.declared.pieces.Piece.{Piece}
use Rattle.um_manager.specs.declared.pieces.Piece.TheVariants.{Nothing, Bytes, Closed}
use Rattle.um_manager.specs.declared.taking.Due.{Due}
use Rattle.um_manager.specs.declared.taking.Due.TheVariants as due

-- the number of connections
abbrev pub connections : ℕ
connections = 64

-- the same but for the room
abbrev pub AllSame : List Session → List Session → Type 0
AllSame [] [] = ⊤
AllSame (t ∷ ts) (u ∷ us) = Does t Room u × AllSame ts us
AllSame ts us = ⊥

-- the bytes of a piece
abbrev pub piece_len : Piece → ℕ
piece_len Nothing = 0
piece_len (Bytes bytes) = length bytes.items
piece_len Closed = 0

-- there is room for each piece
abbrev pub AllFit : List Piece → List Session → Type 0
AllFit (p ∷ ps) (t ∷ ts) = (piece_len p ≤ t.room) × AllFit ps ts
AllFit ps ts = ⊤

-- no bytes have arrived yet
abbrev pub IsNew : Session → Type 0
IsNew t = (t.rest ≡ []) × (t.output ≡ []) × (t.failed ≡ false)

-- no bytes have arrived on any connection yet
abbrev pub AllNew : List Session → Type 0
AllNew sessions = (length sessions ≡ 64) × AllByRecursion IsNew sessions

-- a whole frame waits in the session of a connection
abbrev pub HoldsFrameAt : Option Session → Type 0
HoldsFrameAt (Some t) = HoldsFrame t
HoldsFrameAt None = ⊥

-- a session takes its piece: bytes go after those that are there, and Closed ends it with the bytes it holds
abbrev pub TakesPiece : Session → Piece → Session → Type 0
TakesPiece t Nothing u = Does t Room u
TakesPiece t (Bytes bytes) u = Does t (Feed bytes.items) u
TakesPiece t Closed u = IsNew u

-- a piece is taken, and then the request of the first whole frame, where there is one
abbrev pub Cuts : Session → Piece → Option (Result Request Refusal) → Session → Type 0
Cuts t piece request u = (fed : Session) × TakesPiece t piece fed × IsReading fed request u

-- the same of each connection
abbrev pub CutsAll : List Session → List Piece → List (Option (Result Request Refusal)) → List Session → Type 0
CutsAll [] [] [] [] = ⊤
CutsAll (t ∷ ts) (p ∷ ps) (r ∷ rs) (u ∷ us) = Cuts t p r u × CutsAll ts ps rs us
CutsAll ts ps rs us = ⊥

abbrev pub inputs_of_asked : ℕ → Asked → List Input
inputs_of_asked moment (asked.Event event) = record { profile = current; moment = moment; event = event_of event } ∷ []
inputs_of_asked moment other = []

-- the input that a request carries, at this moment
abbrev pub inputs_asked : ℕ → Option (Result Request Refusal) → List Input
inputs_asked moment (Some (Ok request)) = inputs_of_asked moment request.asked
inputs_asked moment (Some (Err e)) = []
inputs_asked moment None = []

-- the actions, which only a manager in memory keeps, aren't listed
abbrev pub due_of_asked : Asked → Due
due_of_asked (asked.Event event) = due.Input
due_of_asked (asked.Query query) = due.Query query
due_of_asked asked.Actions = due.Reply (reply.Refused refusal.BadRequest)

-- the reply that is due for a request
abbrev pub due_of : Option (Result Request Refusal) → Due
due_of None = due.Nothing
due_of (Some (Ok request)) = due_of_asked request.asked
due_of (Some (Err e)) = due.Reply (reply.Refused e)

-- Of each connection the piece is taken and the request of its first whole frame; the requests' inputs go after the
-- others, and the replies due for them after those due before.
pub record Took (moment : ℕ) (ts : List Session) (pieces : List Piece) (us : List Session) (before after : List Input) (owed owing : List Due) : Type 0 where
  pub requests : List (Option (Result Request Refusal))
  pub cuts : CutsAll ts pieces requests us
  pub inputs_are : after ≡ before ++ flat_map (inputs_asked moment) requests
  pub due_are : owing ≡ owed ++ map due_of requests
