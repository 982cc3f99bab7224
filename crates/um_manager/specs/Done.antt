-- The reports of a turn to its clients that commands were done, and the output that is taken.
-- No manual page has this: it is the project's own (docs/HEADLINE.md reads the theorem line by line).
-- The history of a manager stands on this file.
use Rattle.std.specs.Prelude.{◌≡◌, ◌⊎◌, ◌<◌, ⊤, ℕ, List, [], ◌∷◌, length, drop, map, flat_map, Bool, Option, Some, None, Result, slice_get}
use Rattle.um_model.specs.Machine.{Input, Reply, Refusal}
use Rattle.um_model.specs.Sessions.{Session, Does, Room, Take}
use Rattle.um_proto.specs.declared.request.Request.{Request}
use Rattle.um_wire.specs.declared.refusal.Refusal as declared
use Rattle.um_manager.specs.Connections.{inputs_asked, due_of}
use Rattle.um_manager.specs.Places.{Place}
use Rattle.um_manager.specs.Replies.{reply_in, put_at}
use Rattle.um_manager.specs.Turns.{Now, Turned, firsts}
use Rattle.um_manager.specs.declared.pieces.Piece.{Piece}

-- a command that was done, with its reply
pub record Told : Type 0 where
  pub input : Input
  pub reply : Reply

-- the input with its reply, where that is no refusal
abbrev pub where_done : Input → Reply → List Told
where_done input (Refusal cause) = []
where_done input reply = record { input = input; reply = reply } ∷ []

-- the command that a connection's request carries at this moment, if it has one
abbrev pub command_in : ℕ → Option (Option (Result Request declared.Refusal)) → List Input
command_in moment (Some request) = inputs_asked moment request
command_in moment None = []

-- a reply whose frame was put out, with the input of exactly the request that it answers, if that is a command
pub record PutOut : Type 0 where
  pub command : List Input
  pub reply : Reply

-- the replies that a turn put out for a connection, if any
abbrev pub put_out_in : ℕ → {at : Place} {honest whole : Bool} {result : Result Unit declared.Refusal} {moment : ℕ} {pieces : List Piece} {a b : Now}
    → Turned at honest whole result moment pieces a b → List PutOut
put_out_in k {moment = moment} {b = b} turned =
    let replies = drop (length (firsts moment turned.told)) (map reply_in turned.answers) in
    map (λ reply. record { command = command_in moment (slice_get turned.requests k); reply = reply })
    (put_at k b.state (map due_of turned.requests) replies turned.cut b.sessions turned.paid)

-- the command that such a reply reports as done
abbrev pub told_by : PutOut → List Told
told_by put = flat_map (λ input. where_done input put.reply) put.command

-- the report of a turn to a connection that a command was done
abbrev pub told_in : ℕ → {at : Place} {honest whole : Bool} {result : Result Unit declared.Refusal} {moment : ℕ} {pieces : List Piece} {a b : Now}
    → Turned at honest whole result moment pieces a b → List Told
told_in k turned = flat_map told_by (put_out_in k turned)

-- ---- the output that is taken

-- the output of a connection is taken, or nothing is
abbrev pub IsTaken : Option Session → Option Session → Type 0
IsTaken (Some t) (Some u) = Does t Room u ⊎ ((out : List ℕ) × Does t (Take out) u)
IsTaken None None = ⊤
IsTaken t u = ⊥

-- of some connections the output is taken, and nothing else changes
pub record TakesOut (a b : Now) : Type 0 where
  pub rest : b ≡ record a { sessions = b.sessions }
  pub each : (k : ℕ) → k < 64 → IsTaken (slice_get a.sessions k) (slice_get b.sessions k)
