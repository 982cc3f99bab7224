-- One client over rounds: the output for it, and the bytes that the gate took of that.
-- No manual page has this: it is the project's own (docs/FORMATS.md, "The socket").
-- The law of clients stands on this file.
use Rattle.std.specs.Prelude.{◌≡◌, ◌≢◌, ◌==◌, ℕ, List, [], ◌∷◌, ◌++◌, flat_map, false, if◌then◌else◌, Option, Some, None, Result, Ok, Err, slice_get}
use Rattle.std.specs.List.{AllByRecursion}
use Rattle.um_backlog.specs.Backlog.{Waits, nothing}
use Rattle.um_gate.specs.Events.{Event, accepted, read, wrote, dropped}
use Rattle.um_manager.specs.Clients.{HasHad, bytes_in}
use Rattle.um_manager.specs.Places.{Place}
use Rattle.um_manager.specs.declared.pieces.Piece.TheVariants.{Closed}
use Rattle.um_model.specs.Sessions.{Session}
use Rattle.um_serve.specs.Rounds.{Round, Trust, Served, IsRound, IsUntaken}
use Rattle.um_wire.specs.declared.refusal.Refusal.{Refusal}
use Rattle.um_wire.specs.declared.refusal.Refusal.TheVariants.{NoMemory}

-- the output of a session
abbrev pub output_in : Option Session → List ℕ
output_in (Some t) = t.output
output_in None = []

-- the bytes that a gate took for a connection
abbrev pub taken_in : ℕ → Event → List ℕ
taken_in k (accepted which) = []
taken_in k (read number most came) = []
taken_in k (wrote number offered taken) = if number == k then taken else []
taken_in k (dropped number) = []

abbrev pub taken_of : ℕ → List Event → List ℕ
taken_of k events = flat_map (taken_in k) events

-- ---- a client from its opening on

-- A client since it was opened, over rounds: the bytes that arrived from it, the output of turns for it, and the bytes
-- that the gate took.
pub data HasGot (k : ℕ) : (bytes out took : List ℕ) → Served → Type 0 where
  -- nothing waits for it yet
  opens : {x : Served} → HasHad k [] [] x.now → slice_get x.waits k ≡ Some nothing → HasGot k [] [] [] x
  -- a round heard that it closed, and another may connect
  closes : {trust : Trust} {place : Place} {result : Result Unit Refusal} {r : Round} {bytes out took : List ℕ} {x y : Served} → HasGot k bytes out took x
      → result ≢ Err NoMemory → IsRound trust place result r x y → slice_get r.pieces k ≡ Some Closed → HasGot k [] [] [] y
  -- a round took its piece, and handed out its output
  rounds : {trust : Trust} {place : Place} {result : Result Unit Refusal} {r : Round} {bytes out took : List ℕ} {x y : Served} → HasGot k bytes out took x
      → result ≢ Err NoMemory → (round : IsRound trust place result r x y) → slice_get r.pieces k ≢ Some Closed
      → HasGot k (bytes ++ bytes_in (slice_get r.pieces k)) (out ++ output_in (slice_get round.turn.sessions k)) (took ++ taken_of k round.said) y

-- A client after calls, whatever they answered: its record is known, or was before the round that lost its reads, which
-- is the last one.
pub data IsFollowed (k : ℕ) : Served → Type 0 where
  has_got : {bytes out took : List ℕ} {x : Served} → HasGot k bytes out took x → IsFollowed k x
  had_got : {trust : Trust} {r : Round} {bytes out took : List ℕ} {x y : Served} → HasGot k bytes out took x → IsUntaken trust r x y → IsFollowed k y

-- the gate took a beginning of the output; the rest waits, unless the client was given up
pub record IsTakenOf (took out : List ℕ) (waits : Waits) : Type 0 where
  pub rest : List ℕ
  pub all : took ++ rest ≡ out
  pub waiting : waits.is_over ≡ false → waits.bytes ≡ rest
