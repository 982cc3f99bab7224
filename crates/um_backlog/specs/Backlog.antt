-- The bytes that wait for the clients of a gate, and the outcome of bytes that are put out for one of them.
-- No manual page has this: it is the project's own (docs/FORMATS.md, "The socket").
-- The backlog, and the servers over it, stand on this file.
use Rattle.std.specs.Prelude.{◌≡◌, ◌≢◌, ◌⊎◌, ℕ, List, [], ◌∷◌, ◌++◌, length, nat_lt, Bool, true, false, if◌then◌else◌, Option, Some, None}
use Rattle.um_gate.specs.Events.{Event, wrote, dropped}

-- the bytes that wait for a client
pub record Waits : Type 0 where
  pub bytes : List ℕ  -- the bytes put out for it and not taken yet
  pub is_last : Bool  -- none follow them
  pub is_over : Bool  -- its connection was given up

-- nothing was put out for a client yet
abbrev pub nothing : Waits
nothing = record { bytes = []; is_last = false; is_over = false }

-- another client may connect: the bytes that waited for the one before it are gone
abbrev pub gone : Option Waits → Option Waits
gone (Some waits) = Some nothing
gone None = None

-- a client that was given up: no bytes wait for it, and none follow
abbrev pub given_up : Waits
given_up = record { bytes = []; is_last = true; is_over = true }

-- while more bytes than that wait for a client nothing is read of it: 4 MiB
abbrev pub most_unread : ℕ
most_unread = 4194304

-- it is slow: nothing is read of it until it has taken more of the bytes that wait
abbrev pub is_behind : Waits → Bool
is_behind waits = nat_lt most_unread (length waits.bytes)

-- the same in a backlog; there is no client past the last one
abbrev pub is_behind_at : Option Waits → Bool
is_behind_at (Some waits) = is_behind waits
is_behind_at None = false

-- the most bytes that wait for a client: 64 MiB
abbrev pub most_waiting : ℕ
most_waiting = 67108864

-- a client is given up if more bytes than that wait for it, or none do and no more follow
abbrev pub is_given_up : Bool → List ℕ → Bool
is_given_up is_last [] = is_last
is_given_up is_last (b ∷ bs) = nat_lt most_waiting (length (b ∷ bs))

-- the gate is offered all that waits, and takes some of it; it is offered nothing where nothing waits
abbrev pub writes : ℕ → List ℕ → List ℕ → List Event
writes number [] taken = []
writes number (b ∷ bs) taken = wrote number (b ∷ bs) taken ∷ []

-- a connection that is given up
abbrev pub drops : ℕ → Bool → List Event
drops number true = dropped number ∷ []
drops number false = []

-- the bytes that wait then
abbrev pub waits_then : Bool → List ℕ → Waits
waits_then is_last left = if is_given_up is_last left then given_up else record { bytes = left; is_last = is_last; is_over = false }

-- Bytes are added after those that wait, and of all of them a beginning is taken; the client is given up if too many
-- are left, or none and no more follow.
pub record HandsOut (number : ℕ) (old : Waits) (bytes : List ℕ) (is_last : Bool) (events : List Event) (new : Waits) : Type 0 where
  pub taken : List ℕ
  pub left : List ℕ
  pub all : taken ++ left ≡ old.bytes ++ bytes
  pub events_are : events ≡ writes number (old.bytes ++ bytes) taken ++ drops number (is_given_up is_last left)
  pub new_is : new ≡ waits_then is_last left

-- the bytes find no memory after those that wait: the client is given up
pub record FindsNone (number : ℕ) (old : Waits) (bytes : List ℕ) (events : List Event) (new : Waits) : Type 0 where
  pub waiting : old.bytes ≢ []
  pub coming : bytes ≢ []
  pub events_are : events ≡ dropped number ∷ []
  pub new_is : new ≡ given_up

-- the gate's events if bytes are put out for a client, and the bytes that wait for it then; one that was given up
-- before gets nothing more
abbrev pub HandsWhere : (is_over : Bool) → ℕ → Waits → List ℕ → Bool → List Event → Waits → Type 0
HandsWhere true number old bytes is_last events new = (events ≡ []) × (new ≡ old)
HandsWhere false number old bytes is_last events new = HandsOut number old bytes is_last events new ⊎ FindsNone number old bytes events new

abbrev pub Hands : ℕ → Waits → List ℕ → Bool → List Event → Waits → Type 0
Hands number old bytes is_last events new = HandsWhere old.is_over number old bytes is_last events new

-- the same in a backlog; there is no client past the last one
abbrev pub HandsAt : ℕ → Option Waits → List ℕ → Bool → List Event → Option Waits → Type 0
HandsAt number (Some old) bytes is_last events (Some new) = Hands number old bytes is_last events new
HandsAt number None bytes is_last events None = events ≡ []
HandsAt number old bytes is_last events new = ⊥
