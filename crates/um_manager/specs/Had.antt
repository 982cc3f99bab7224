-- The part of a manager's history that is one connection's: the bytes that arrived on it, and those that were taken out
-- for it.
-- No manual page has this: it is the project's own protocol (docs/FORMATS.md, "Frames", "Replies").
-- The law of connections stands on this file.
use Rattle.std.specs.Prelude.{◌<◌, ℕ, List, [], ◌++◌, flat_map, Option, Some, None, slice_get}
use mathlib.Core.Logic.{inl, inr}
use Rattle.um_model.specs.Children.{Call}
use Rattle.um_model.specs.Disk.{Past}
use Rattle.um_model.specs.Sessions.{Session}
use Rattle.um_manager.specs.Clients.{frame_in}
use Rattle.um_manager.specs.Done.{PutOut, put_out_in, IsTaken}
use Rattle.um_manager.specs.Histories.{History, opens, turns, takes}
use Rattle.um_manager.specs.Turns.{Now}
use Rattle.um_manager.specs.declared.pieces.Piece.{Piece}
use Rattle.um_manager.specs.declared.pieces.Piece.TheVariants.{Nothing, Bytes, Closed}

-- the bytes of a connection after a piece: none since it was reported closed
abbrev pub came_behind : Option Piece → List ℕ → List ℕ
came_behind (Some Closed) came = []
came_behind (Some Nothing) came = came
came_behind (Some (Bytes bytes)) came = came ++ bytes.items
came_behind None came = came

-- the list of a connection so far, or an empty one after a turn was informed that it closed
abbrev pub since_closed : {X : Type 0} → Option Piece → List X → List X
since_closed (Some Closed) had = []
since_closed (Some Nothing) had = had
since_closed (Some (Bytes bytes)) had = had
since_closed None had = had

-- the bytes that are taken of a session
abbrev pub taken_now : (t u : Option Session) → IsTaken t u → List ℕ
taken_now (Some t) (Some u) (inl same) = []
taken_now (Some t) (Some u) (inr (out, does)) = out
taken_now t u none = []

-- the bytes that arrived on a connection since it was opened last
abbrev pub came_of : ℕ → {disk : Past} {before : List Call} {b : Now} → History disk before b → List ℕ
came_of k (opens sessions opened anew) = []
came_of k (turns {pieces = pieces} past turned) = came_behind (slice_get pieces k) (came_of k past)
came_of k (takes past out) = came_of k past

-- the bytes taken out for it since then
abbrev pub taken_of : (k : ℕ) → k < 64 → {disk : Past} {before : List Call} {b : Now} → History disk before b → List ℕ
taken_of k low (opens sessions opened anew) = []
taken_of k low (turns {pieces = pieces} past turned) = since_closed (slice_get pieces k) (taken_of k low past)
taken_of k low (takes {a = a} {b = b} past out) = taken_of k low past ++ taken_now (slice_get a.sessions k) (slice_get b.sessions k) (out.each k low)

-- its output since then, whether it was taken, waits or was given up
abbrev pub put_out_of : ℕ → {disk : Past} {before : List Call} {b : Now} → History disk before b → List PutOut
put_out_of k (opens sessions opened anew) = []
put_out_of k (turns {pieces = pieces} past turned) = since_closed (slice_get pieces k) (put_out_of k past) ++ put_out_in k turned
put_out_of k (takes past out) = put_out_of k past

-- the frames of this output
abbrev pub frames_of : List PutOut → List ℕ
frames_of puts = flat_map (λ (put : PutOut). frame_in put.reply) puts
