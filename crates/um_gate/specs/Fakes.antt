-- What the clients of a gate in memory send and take, and which of its accepts fails.
-- No manual page has this: gates are the project's own.
-- The gate in memory stands on this file.
use Rattle.std.specs.Prelude.{◌-◌, ◌==◌, nat_le, ℕ, List, [], ◌∷◌, length, take, drop, replicate, slice_get, slice_set, Bool, true, false, if◌then◌else◌, Option, Some, None}
use Rattle.um_gate.specs.Events.{Event}

-- a client
pub record Client : Type 0 where
  pub number : ℕ  -- that of its connection
  pub parts : List (List ℕ)  -- what it sends, a part a read; an empty one is a moment of silence
  pub leaves : Bool  -- it leaves once all is sent
  pub limit : ℕ  -- the most bytes that it takes of a write

-- the clients of a gate
pub record Clients : Type 0 where
  pub waiting : List Client  -- those that wait to be accepted, in the order in which they came
  pub places : List (Option Client)  -- those that were accepted, by the numbers of their connections
  pub fuse : ℕ  -- the accept that fails, counted from now on: 1 is the next, 0 none

-- a gate in memory
pub record InMemory : Type 0 where
  pub past : List Event  -- what it did
  pub is_whole : Bool  -- no event is missing there
  pub clients : Clients

-- no client came yet
abbrev pub nobody : Clients
nobody = record { waiting = []; places = replicate 64 None; fuse = 0 }

-- the client at a place
abbrev pub client_in : Option (Option Client) → Option Client
client_in None = None
client_in (Some place) = place

-- the client under a number
abbrev pub client_at : ℕ → List (Option Client) → Option Client
client_at number places = client_in (slice_get places number)

-- there is a client
abbrev pub is_there : Option Client → Bool
is_there None = false
is_there (Some client) = true

-- ---- accepts

-- a place is there, and free
abbrev pub is_free : Option (Option Client) → Bool
is_free (Some None) = true
is_free other = false

-- a client is taken under its number; where that isn't free its connection is closed unread
abbrev pub with_client : Client → List (Option Client) → List (Option Client)
with_client client places = if is_free (slice_get places client.number) then slice_set places client.number (Some client) else places

-- the client that came first is taken
abbrev pub first_taken : List Client → Clients → Clients
first_taken [] clients = clients
first_taken (client ∷ waiting) clients = record clients { waiting = waiting; places = with_client client clients.places }

-- the accept that comes next fails
abbrev pub is_due : ℕ → Bool
is_due fuse = fuse == 1

-- the clients after an accept; one that fails takes nobody, and each client that waits goes on waiting
abbrev pub after_accept : Clients → Clients
after_accept clients = record (if is_due clients.fuse then clients else first_taken clients.waiting clients) { fuse = clients.fuse - 1 }

-- ---- reads and writes

-- the bytes sent, of this many at most: a part or its front; nothing if all is sent; or that the client left then
abbrev pub sent : ℕ → Bool → List (List ℕ) → Option (List ℕ)
sent most leaves [] = if leaves then None else Some []
sent most leaves (part ∷ parts) = Some (take most part)

-- the parts still to be sent after that
abbrev pub unsent : ℕ → List (List ℕ) → List (List ℕ)
unsent most [] = []
unsent most (part ∷ parts) = if nat_le (length part) most then parts else drop most part ∷ parts

-- what a read gives: bytes, or that nobody is there
abbrev pub sent_by : ℕ → Option Client → Option (List ℕ)
sent_by most None = None
sent_by most (Some client) = sent most client.leaves client.parts

-- who is there, if nobody left
abbrev pub unless_left : Option (List ℕ) → Client → Option Client
unless_left None client = None
unless_left (Some bytes) client = Some client

-- the client that is there after a read
abbrev pub after_read : ℕ → Option Client → Option Client
after_read most None = None
after_read most (Some client) = unless_left (sent most client.leaves client.parts) (record client { parts = unsent most client.parts })

-- the most bytes that are taken of a write
abbrev pub limit_of : Option Client → ℕ
limit_of None = 0
limit_of (Some client) = client.limit

-- a client that was given up sends nothing more and takes nothing, and its next read reports it closed
abbrev pub given_up : Option Client → Option Client
given_up None = None
given_up (Some client) = Some (record client { parts = []; leaves = true; limit = 0 })
