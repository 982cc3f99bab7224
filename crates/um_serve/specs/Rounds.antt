-- Rounds over a gate: each an accept, a read of each open connection, ascending, a turn of the manager, and the writes
-- of its output for each client.
-- No manual page has this: it is the project's own (docs/FORMATS.md, "The socket").
-- `serve` stands on this file.
use Rattle.std.specs.Prelude.{◌≡◌, ◌≢◌, ◌⊎◌, ◌↔◌, ◌≤◌, ◌<◌, ◌||◌, ◌&&◌, not, ⊤, ℕ, zero, suc, List, [], ◌∷◌, ◌++◌, Bool, true, false, IsTrue, Option, Some, None, Result, Ok, Err, slice_get}
use Rattle.std.specs.List.{list_any}
use Rattle.um_backlog.specs.Backlog.{Waits, gone, is_behind_at, HandsAt}
use Rattle.um_gate.specs.Events.{Event, accepted, read, Logs, Ticks}
use Rattle.um_manager.specs.Connections.{HoldsFrameAt}
use Rattle.um_manager.specs.Places.{Place}
use Rattle.um_manager.specs.Turns.{Now, Turns, Untouched}
use Rattle.um_manager.specs.declared.pieces.Piece.{Piece}
use Rattle.um_manager.specs.declared.pieces.Piece.TheVariants.{Nothing, Bytes, Closed}
use Rattle.um_model.specs.Sessions.{Session, Does, Take}
use Rattle.um_serve.specs.Sleep.{has_changed}
use Rattle.um_wire.specs.declared.refusal.Refusal.{Refusal}
use Rattle.um_wire.specs.declared.refusal.Refusal.TheVariants.{NoMemory}

-- the bytes that a read gave; none at all if it found the connection closed
abbrev pub came_of : Piece → Option (List ℕ)
came_of Nothing = Some []
came_of (Bytes bytes) = Some bytes.items
came_of Closed = None

-- A client is held back while a whole frame of it waits for its turn, and while more than 4 MiB wait for it.
abbrev pub IsHeldBack : Option Session → Option Waits → Type 0
IsHeldBack t waits = HoldsFrameAt t ⊎ (is_behind_at waits ≡ true)

-- these clients are held back, and no others
abbrev pub AreHeldBack : List Session → List Waits → List Bool → Type 0
AreHeldBack ts waits held = (n : ℕ) → n < 64 → (slice_get held n ≡ Some true) ↔ IsHeldBack (slice_get ts n) (slice_get waits n)

-- the most bytes that are read of a connection: of a client that is held back none
abbrev pub most_read : Option Bool → ℕ
most_read (Some true) = 0
most_read other = 4096

-- a read of a connection, where it is open
abbrev pub reads_one : ℕ → Option Bool → Option Bool → Option Piece → List Event
reads_one number (Some true) is_held (Some piece) = read number (most_read is_held) (came_of piece) ∷ []
reads_one number is_open is_held piece = []

-- a read of each open connection below a number, ascending
unfoldable pub reads_below : ℕ → List Bool → List Bool → List Piece → List Event
reads_below zero which held pieces = []
reads_below (suc n) which held pieces = reads_below n which held pieces ++ reads_one n (slice_get which n) (slice_get held n) (slice_get pieces n)

-- a connection that isn't open has no piece
abbrev pub OnlyOpen : List Bool → List Piece → Type 0
OnlyOpen which pieces = (n : ℕ) → n < 64 → slice_get which n ≡ Some false → slice_get pieces n ≡ Some Nothing

-- no bytes arrived
abbrev pub IsSilent : Option Piece → Type 0
IsSilent (Some (Bytes bytes)) = ⊥
IsSilent other = ⊤

-- no bytes arrive from a client that is held back; its closing may be reported
abbrev pub NoneOfHeld : List Bool → List Piece → Type 0
NoneOfHeld held pieces = (n : ℕ) → n < 64 → slice_get held n ≡ Some true → IsSilent (slice_get pieces n)

-- a round: the connections that are open and held back, their pieces, and its moment
pub record Round : Type 0 where
  pub which : List Bool  -- the connections that are open
  pub held : List Bool  -- the clients that are held back
  pub pieces : List Piece
  pub moment : ℕ

abbrev pub heard_in : Round → List Event
heard_in r = accepted r.which ∷ reads_below 64 r.which r.held r.pieces

-- a server at a moment: the events of the gate, the moments of the clock, the bytes that wait for each client, whether
-- the last round was busy, the moment of the last turn, whether the reads of a round were lost, and the manager
pub record Served : Type 0 where
  pub past : List Event
  pub given : List ℕ
  pub waits : List Waits
  pub busy : Bool
  pub turned : ℕ
  pub lost : Bool
  pub now : Now

abbrev pub served : List Event → List ℕ → List Waits → Bool → ℕ → Bool → Now → Served
served past given waits busy turned lost now =
    record { past = past; given = given; waits = waits; busy = busy; turned = turned; lost = lost; now = now }

-- Which of children, gate and clock do what they answer, and have a list from which nothing is missing; each fact about
-- one of them stands under its own.
pub record Trust : Type 0 where
  pub children : Bool
  pub calls : Bool
  pub gate : Bool
  pub events : Bool
  pub clock : Bool
  pub moments : Bool

abbrev pub trust : (children calls gate events clock moments : Bool) → Trust
trust children calls gate events clock moments =
    record { children = children; calls = calls; gate = gate; events = events; clock = clock; moments = moments }

-- trust in the one is trust in the other
pub record IsWithin (less more : Trust) : Type 0 where
  pub children : IsTrue less.children → IsTrue more.children
  pub calls : IsTrue less.calls → IsTrue more.calls
  pub gate : IsTrue less.gate → IsTrue more.gate
  pub events : IsTrue less.events → IsTrue more.events
  pub clock : IsTrue less.clock → IsTrue more.clock
  pub moments : IsTrue less.moments → IsTrue more.moments

-- the bytes that wait for a client are dropped if it is reported closed
abbrev pub after_piece : Option Piece → Option Waits → Option Waits
after_piece (Some Closed) waits = gone waits
after_piece (Some Nothing) waits = waits
after_piece (Some (Bytes bytes)) waits = waits
after_piece None waits = waits

abbrev pub Forgets : List Piece → List Waits → List Waits → Type 0
Forgets pieces old new = (n : ℕ) → slice_get new n ≡ after_piece (slice_get pieces n) (slice_get old n)

-- something arrived on a connection
abbrev pub is_something : Piece → Bool
is_something Nothing = false
is_something (Bytes bytes) = true
is_something Closed = true

abbrev pub has_come : List Piece → Bool
has_come pieces = list_any is_something pieces

-- A round hears its pieces, says its output to the clients, and has its moment; `waits` is before anything is said: a
-- connection that isn't open has no piece, and one that is held back has no bytes.
pub record Hears (trust : Trust) (r : Round) (said : List Event) (waits : List Waits) (x y : Served) : Type 0 where
  pub only_open : OnlyOpen r.which r.pieces
  pub are_held : AreHeldBack x.now.sessions x.waits r.held
  pub none_of_held : NoneOfHeld r.held r.pieces
  pub past : Logs trust.gate trust.events x.past y.past (heard_in r ++ said)
  pub given : Ticks trust.clock trust.moments x.given y.given (r.moment ∷ [])
  pub forgets : Forgets r.pieces x.waits waits

-- the pieces that are offered are those that an accept and the reads heard
pub record Gathers (honest whole : Bool) (held : List Bool) (pieces : List Piece) (old new : List Event) (waits left : List Waits) (busy : Bool) : Type 0 where
  pub which : List Bool
  pub only_open : OnlyOpen which pieces
  pub none_of_held : NoneOfHeld held pieces
  pub past : Logs honest whole old new (accepted which ∷ reads_below 64 which held pieces)
  pub forgets : Forgets pieces waits left
  pub busy_is : busy ≡ has_come pieces

-- the output of a connection is taken
abbrev pub Empties : Option Session → Option Session → Type 0
Empties (Some t) (Some u) = Does t (Take t.output) u
Empties t u = ⊥

abbrev pub EmptiesAll : List Session → List Session → Type 0
EmptiesAll ts us = (n : ℕ) → n < 64 → Empties (slice_get ts n) (slice_get us n)

-- exactly the output of a turn for a client goes to it, and if its session has failed nothing follows that
abbrev pub SaysTo : ℕ → Option Session → Option Waits → List Event → Option Waits → Type 0
SaysTo number (Some t) old said new = HandsAt number old t.output t.failed said new
SaysTo number None old said new = ⊥

-- the same to each client below a number, ascending
unfoldable pub SaysBelow : ℕ → List Session → List Waits → List Event → List Waits → Type 0
SaysBelow zero ts old said new = said ≡ []
SaysBelow (suc n) ts old said new =
    (before : List Event) × (here : List Event) × SaysBelow n ts old before new × SaysTo n (slice_get ts n) (slice_get old n) here (slice_get new n)
    × (said ≡ before ++ here)

-- something was put out for a client
abbrev pub has_bytes : List ℕ → Bool
has_bytes [] = false
has_bytes (b ∷ bs) = true

-- a slow client is read again: it took enough of the bytes that wait for it
abbrev pub is_freed : Option Waits → Option Waits → Bool
is_freed old new = is_behind_at old && not (is_behind_at new)

-- there is more to do for a client: something was put out for it, or it is read again
abbrev pub is_stirred : Option Session → Option Waits → Option Waits → Bool
is_stirred (Some t) old new = has_bytes t.output || is_freed old new
is_stirred None old new = false

-- the same of any client below a number
unfoldable pub any_stirred : ℕ → List Session → List Waits → List Waits → Bool
any_stirred zero ts old new = false
any_stirred (suc n) ts old new = any_stirred n ts old new || is_stirred (slice_get ts n) (slice_get old n) (slice_get new n)

-- A round: the accept and the reads, a turn over their pieces, and then the output for each client is taken of its
-- session and handed to the gate, as far as that takes it. It was busy if something was heard or put out, if a client
-- is read again, or if the turn changed the state: then another round may have more to do. After a read that was lost
-- there is no round.
pub record IsRound (trust : Trust) (place : Place) (store : Result Unit Refusal) (r : Round) (x y : Served) : Type 0 where
  pub working : x.lost ≡ false
  pub said : List Event
  pub waits : List Waits
  pub hears : Hears trust r said waits x y
  pub turn : Now
  pub turns : Turns place store trust.children trust.calls r.moment r.pieces x.now turn
  pub says : SaysBelow 64 turn.sessions waits said y.waits
  pub empties : EmptiesAll turn.sessions y.now.sessions
  pub rest : y.now ≡ record turn { sessions = y.now.sessions }
  pub busy : y.busy ≡ (has_come r.pieces || (any_stirred 64 turn.sessions waits y.waits || has_changed x.now.state y.now.state))
  pub moment_is : y.turned ≡ r.moment
  pub none_lost : y.lost ≡ false

-- A round whose turn found no memory for itself: the pieces it heard weren't taken and are lost, and nothing is said;
-- it is the last one.
pub record IsUntaken (trust : Trust) (r : Round) (x y : Served) : Type 0 where
  pub working : x.lost ≡ false
  pub hears : Hears trust r [] y.waits x y
  pub untouched : Untouched x.now y.now
  pub busy : y.busy ≡ has_come r.pieces
  pub moment_is : y.turned ≡ x.turned
  pub lost : y.lost ≡ true

-- the last round of those that a refusal ends
pub record Stops (trust : Trust) (place : Place) (result : Result Unit Refusal) (r : Round) (x y : Served) : Type 0 where
  pub refused : result ≢ Ok tt
  pub untaken : result ≡ Err NoMemory → IsUntaken trust r x y
  pub is : result ≢ Err NoMemory → IsRound trust place result r x y

-- These rounds, each from where the one before it ended; a refusal is the last. One that found no room for its reads is
-- none, and after a read that was lost there is none: nothing is heard, and nothing said.
abbrev pub Serves : Trust → Place → List Round → Result Unit Refusal → Served → Served → Type 0
Serves trust place [] result x y = ((result ≡ Ok tt) ⊎ (result ≡ Err NoMemory)) × (y ≡ x)
Serves trust place (r ∷ rs) result x y =
    ((mid : Served) × IsRound trust place (Ok tt) r x mid × Serves trust place rs result mid y) ⊎ ((rs ≡ []) × Stops trust place result r x y)

-- one round, or none
abbrev pub ServesOne : Trust → Place → Result Unit Refusal → Served → Served → Type 0
ServesOne trust place result x y =
    ((result ≡ Err NoMemory) × (y ≡ x)) ⊎ ((r : Round) × (((result ≡ Ok tt) × IsRound trust place result r x y) ⊎ Stops trust place result r x y))

-- this many rounds, and no more if a refusal ended them
abbrev pub IsCount : Result Unit Refusal → ℕ → ℕ → Type 0
IsCount (Ok done) count limit = count ≡ limit
IsCount (Err e) count limit = count ≤ limit

abbrev pub is_want : Result Unit Refusal → Bool
is_want (Err NoMemory) = true
is_want other = false
