-- The history of a manager from its opening on: the offers to its store, the reports to its clients, and the premises
-- that they rest on.
-- No manual page has it: crash safety is this project's own promise (docs/HEADLINE.md reads the theorem line by line).
-- The calls of the manager, its lives and the laws of its clients stand on this file.
use Rattle.std.specs.Prelude.{◌≡◌, ℕ, List, [], ◌++◌, Bool, IsTrue, Result, Ok}
use Rattle.um_model.specs.Children.{Call}
use Rattle.um_model.specs.Disk.{Past}
use Rattle.um_model.specs.Lives.{Offer}
use Rattle.um_model.specs.Sessions.{Session}
use Rattle.um_model.specs.declared.layout.Layout.{Layout}
use Rattle.um_wire.specs.declared.refusal.Refusal.{Refusal}
use Rattle.um_manager.specs.Connections.{AllNew}
use Rattle.um_manager.specs.Done.{Told, told_in, TakesOut}
use Rattle.um_manager.specs.Offered.{offers_of_turn, offers_of_opening}
use Rattle.um_manager.specs.Opening.{Opened}
use Rattle.um_manager.specs.Places.{Place, place_on}
use Rattle.um_manager.specs.Turns.{Now, Turned}
use Rattle.um_manager.specs.declared.pieces.Piece.{Piece}

-- The history of a manager up to now, over a disk and children as they were before it.
pub data History (disk : Past) (before : List Call) : Now → Type 0 where
  -- it was opened, and no client had connected
  opens : {at : Place} {honest whole : Bool} {moment : ℕ} {boot : List ℕ} {count sectors : ℕ} {b : Now} (sessions : List Session)
      → Opened at honest whole moment boot count sectors disk before b → AllNew sessions → History disk before (record b { sessions = sessions })
  -- a turn was made, whatever it answered
  turns : {at : Place} {honest whole : Bool} {result : Result Unit Refusal} {moment : ℕ} {pieces : List Piece} {a b : Now} → History disk before a
      → Turned at honest whole result moment pieces a b → History disk before b
  -- output of clients was taken, or nothing was: a turn that found no memory is none
  takes : {a b : Now} → History disk before a → TakesOut a b → History disk before b

-- all that was offered, in its order, with the outcome of each
abbrev pub offers_in : {disk : Past} {before : List Call} {b : Now} → History disk before b → List Offer
offers_in (opens sessions opened anew) = offers_of_opening opened
offers_in (turns past turned) = offers_in past ++ offers_of_turn turned
offers_in (takes past out) = offers_in past

-- all reports to a connection that its commands were done
abbrev pub told_to : ℕ → {disk : Past} {before : List Call} {b : Now} → History disk before b → List Told
told_to k (opens sessions opened anew) = []
told_to k (turns past turned) = told_to k past ++ told_in k turned
told_to k (takes past out) = told_to k past

-- the disk as the store answered last
abbrev pub answered_at : {disk : Past} {before : List Call} {b : Now} → History disk before b → Past
answered_at (opens {b = b} sessions opened anew) = b.disk
answered_at (turns past turned) = turned.offered
answered_at (takes past out) = answered_at past

-- The disk did what it answered, and the store answered each turn Ok.
abbrev pub HasGoneOn : Layout → {disk : Past} {before : List Call} {b : Now} → History disk before b → Type 0
HasGoneOn layout (opens {at = at} sessions opened anew) = at ≡ place_on layout
HasGoneOn layout (turns {at = at} past turned) = HasGoneOn layout past × (at ≡ place_on layout) × (turned.store ≡ Ok tt)
HasGoneOn layout (takes past out) = HasGoneOn layout past

-- The children did what they answered, and no call is missing from their history.
abbrev pub AreTrusted : {disk : Past} {before : List Call} {b : Now} → History disk before b → Type 0
AreTrusted (opens {honest = honest} {whole = whole} sessions opened anew) = IsTrue honest × IsTrue whole
AreTrusted (turns {honest = honest} {whole = whole} past turned) = AreTrusted past × IsTrue honest × IsTrue whole
AreTrusted (takes past out) = AreTrusted past
