-- One client over a manager's turns: its own requests, each with its reply.
-- No manual page has this: it is the project's own protocol (docs/FORMATS.md, "Frames", "Replies").
-- The laws of clients stand on this file.
use Rattle.std.specs.Prelude.{◌≡◌, ◌≢◌, ◌⊎◌, ◌+◌, ℕ, List, [], ◌∷◌, ◌++◌, map, flat_map, take, length, Bool, true, Option, Some, None, Result, Ok, Err, slice_get, ⊤}
use Rattle.um_model.specs.Frames.{frame_of}
use Rattle.um_model.specs.Machine.{State, Reply, Refusal}
use Rattle.um_keeper.specs.Answering.{Answer}
use Rattle.um_model.specs.Replies.{reply_text}
use Rattle.um_model.specs.Sessions.{Session, Does, Room, IsReadOf}
use Rattle.um_model.specs.Sessions as model
use Rattle.um_proto.specs.View.{request_of}
use Rattle.um_proto.specs.declared.request.Asked.{Asked}
use Rattle.um_proto.specs.declared.request.Asked.TheVariants as asks
use Rattle.um_proto.specs.declared.request.Request.{Request}
use Rattle.um_state.specs.View.{query_of}
use Rattle.um_wire.specs.Gives.{Gives}
use Rattle.um_wire.specs.Refusal.{refused_of}
use Rattle.um_wire.specs.declared.refusal.Refusal as declared
use Rattle.um_wire.specs.declared.refusal.Refusal.TheVariants.{BadRequest}
use Rattle.um_manager.specs.Connections.{inputs_asked, IsNew}
use Rattle.um_manager.specs.Places.{Place}
use Rattle.um_manager.specs.Replies.{reply_in, TellsOf, IsOutput}
use Rattle.um_manager.specs.Turns.{Now, firsts, Turned}
use Rattle.um_manager.specs.declared.pieces.Piece.{Piece}
use Rattle.um_manager.specs.declared.pieces.Piece.TheVariants.{Nothing, Bytes, Closed}
use Rattle.um_manager.specs.declared.script.Step.{Step}

-- a request that was taken of a client, as it was read, and the reply that it is due
abbrev pub Exchange : Type 0
Exchange = Result Request declared.Refusal × Reply

-- where the input of a connection's request stands among those that the turn offered
abbrev pub place_of : {place : Place} {honest whole : Bool} {result : Result Unit declared.Refusal} {moment : ℕ} {pieces : List Piece} {a b : Now}
    → Turned place honest whole result moment pieces a b → ℕ → ℕ
place_of {moment = moment} turned k = length (firsts moment turned.told) + length (flat_map (inputs_asked moment) (take k turned.requests))

-- the reply to a request: the answer to exactly this input, a query's from the state after all inputs; the actions
-- aren't listed
abbrev pub IsReplyAsked : State → List Answer → ℕ → Asked → Reply → Type 0
IsReplyAsked s answers at (asks.Event event) reply = (answer : Answer) × (slice_get answers at ≡ Some answer) × (reply ≡ reply_in answer)
IsReplyAsked s answers at (asks.Query query) reply = TellsOf s (query_of query) reply
IsReplyAsked s answers at asks.Actions reply = reply ≡ Refusal (refused_of BadRequest)

-- the reply to a request, or why it is none
abbrev pub IsReplyOf : State → List Answer → ℕ → Result Request declared.Refusal → Reply → Type 0
IsReplyOf s answers at (Ok request) reply = IsReplyAsked s answers at request.asked reply
IsReplyOf s answers at (Err e) reply = reply ≡ Refusal (refused_of e)

-- the exchange of a turn with a connection: one request with its reply, or none
abbrev pub IsExchange : State → List Answer → ℕ → Option (Option (Result Request declared.Refusal)) → List Exchange → Type 0
IsExchange s answers at (Some (Some request)) here = (reply : Reply) × IsReplyOf s answers at request reply × (here ≡ (request, reply) ∷ [])
IsExchange s answers at (Some None) here = here ≡ []
IsExchange s answers at None here = ⊥

-- one turn a step, each answered Ok, from where the one before it ended
pub data AllTurned (place : Place) (honest whole : Bool) : List Step → Now → Now → Type 0 where
  no_turn : {a : Now} → AllTurned place honest whole [] a a
  and_turn : {step : Step} {steps : List Step} {a mid b : Now} → Turned place honest whole (Ok tt) step.moment step.pieces a mid
      → AllTurned place honest whole steps mid b → AllTurned place honest whole (step ∷ steps) a b

-- the bytes of a piece
abbrev pub bytes_in : Option Piece → List ℕ
bytes_in (Some (Bytes bytes)) = bytes.items
bytes_in (Some Nothing) = []
bytes_in (Some Closed) = []
bytes_in None = []

-- each request is the one that was read, or reading it found no memory
abbrev pub AreGiven : List (Result Request declared.Refusal) → List model.Asked → Type 0
AreGiven [] [] = ⊤
AreGiven (given ∷ more) (asked ∷ others) = Gives request_of given asked × AreGiven more others
AreGiven given asked = ⊥

-- a reply's frame
abbrev pub frame_in : Reply → List ℕ
frame_in reply = frame_of (reply_text reply)

-- The frames of all replies are put out, in order; only the last is missing if the session failed for want of memory.
abbrev pub ArePut : List ℕ → List Reply → Session → Type 0
ArePut before replies u = (u.output ≡ before ++ flat_map frame_in replies)
    ⊎ ((u.failed ≡ true) × (most : List Reply) × (last : Reply) × (replies ≡ most ++ last ∷ []) × (u.output ≡ before ++ flat_map frame_in most))

-- ---- a connection from its opening on

-- the same session but for its room
abbrev pub IsSameAt : Option Session → Option Session → Type 0
IsSameAt (Some t) (Some u) = Does t Room u
IsSameAt t u = ⊥

-- A connection since it was opened, over calls of a manager, whatever they answered: the bytes that arrived on it, and
-- those that were taken out for it.
pub data HasHad (k : ℕ) : (bytes taken : List ℕ) → Now → Type 0 where
  -- the manager was opened
  opens : {a : Now} {t : Session} → slice_get a.sessions k ≡ Some t → IsNew t → HasHad k [] [] a
  -- a turn was informed that it closed: its output that wasn't taken is given up, and another client may follow
  closes : {place : Place} {honest whole : Bool} {result : Result Unit declared.Refusal} {moment : ℕ} {pieces : List Piece} {bytes taken : List ℕ} {a b : Now}
      → HasHad k bytes taken a → Turned place honest whole result moment pieces a b → slice_get pieces k ≡ Some Closed → HasHad k [] [] b
  -- a turn took its piece
  turns : {place : Place} {honest whole : Bool} {result : Result Unit declared.Refusal} {moment : ℕ} {pieces : List Piece} {bytes taken : List ℕ} {a b : Now}
      → HasHad k bytes taken a → Turned place honest whole result moment pieces a b → slice_get pieces k ≢ Some Closed
      → HasHad k (bytes ++ bytes_in (slice_get pieces k)) taken b
  -- its output was taken
  takes : {bytes taken : List ℕ} {a b : Now} (out : List ℕ) (failed : Bool) → HasHad k bytes taken a
      → IsOutput (slice_get a.sessions k) out failed (slice_get b.sessions k) → HasHad k bytes (taken ++ out) b
  -- nothing changed: a turn found no memory, or the output of another was taken
  rests : {bytes taken : List ℕ} {a b : Now} → HasHad k bytes taken a → IsSameAt (slice_get a.sessions k) (slice_get b.sessions k) → HasHad k bytes taken b

-- the requests that turns took of the connection since it was opened, in their order, each with its reply
abbrev pub AreHad : {k : ℕ} {bytes taken : List ℕ} {a : Now} → HasHad k bytes taken a → List Exchange → Type 0
AreHad (opens there new) all = all ≡ []
AreHad (closes had turned closed) all = all ≡ []
AreHad {k = k} (turns {b = b} had turned open_still) all =
    (earlier : List Exchange) × (here : List Exchange) × AreHad had earlier
    × IsExchange b.state turned.answers (place_of turned k) (slice_get turned.requests k) here × (all ≡ earlier ++ here)
AreHad (takes out failed had output) all = AreHad had all
AreHad (rests had same) all = AreHad had all

-- the session, as if nothing had been taken out
abbrev pub with_taken : List ℕ → Session → Session
with_taken taken t = record t { output = taken ++ t.output }

-- The requests taken of a connection are those of its bytes' frames, in order, and its output, taken or not, is their
-- replies' frames, one each, in order; only the last is missing, if the session failed for want of memory.
pub record IsServed {k : ℕ} {bytes taken : List ℕ} {a : Now} (had : HasHad k bytes taken a) (t : Session) : Type 0 where
  pub exchanges : List Exchange
  pub are : AreHad had exchanges
  pub asked : List model.Asked
  pub given : AreGiven (map (λ (x : Exchange). x.0) exchanges) asked
  pub read : IsReadOf bytes asked t
  pub put : ArePut [] (map (λ (x : Exchange). x.1) exchanges) (with_taken taken t)
