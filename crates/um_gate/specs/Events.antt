-- The events of a gate for its clients, in one list, the oldest first.
-- No manual page has this: connections are the project's own (docs/FORMATS.md, "The socket").
-- Gates, and the servers over them, stand on this file.
use Rattle.std.specs.Prelude.{◌≡◌, ◌++◌, ℕ, List, Bool, true, false, Option, Some, None, IsTrue}

-- An accept, with the connections open after it; a read of a connection, of `most` bytes at most, with those that
-- arrived, or that it is closed; a write, with the bytes offered and those taken; a connection given up.
pub data Event : Type 0 where
  accepted : (is_open : List Bool) → Event
  read : (number most : ℕ) (came : Option (List ℕ)) → Event
  wrote : (number : ℕ) (offered taken : List ℕ) → Event
  dropped : (number : ℕ) → Event

-- the result of a read: its bytes, or that the connection is closed
abbrev pub came : Bool → List ℕ → Option (List ℕ)
came true bytes = Some bytes
came false bytes = None

-- the list grew by these, where the gate is honest and keeps its list whole
abbrev pub Logs : (honest whole : Bool) (old new events : List Event) → Type 0
Logs honest whole old new events = IsTrue honest → IsTrue whole → new ≡ old ++ events

-- the moments grew by this one, where the clock is honest and keeps its list whole
abbrev pub Ticks : (honest whole : Bool) (old new moments : List ℕ) → Type 0
Ticks honest whole old new moments = IsTrue honest → IsTrue whole → new ≡ old ++ moments
