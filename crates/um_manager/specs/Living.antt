-- A life of a manager: how far it got from its opening on, and a stop at any moment of any call.
-- No manual page has it: crash safety is this project's own promise (docs/HEADLINE.md reads the theorem line by line).
-- The theorem of managers that outlive crashes stands on this file.
use Rattle.std.specs.Prelude.{◌≡◌, ℕ, List, [], ◌++◌, Bool, Result}
use Rattle.um_model.specs.Children.{Call, orders}
use Rattle.um_model.specs.Disk.{Past}
use Rattle.um_model.specs.Lives.{Offer}
use Rattle.um_model.specs.declared.layout.Layout.{Layout}
use Rattle.um_wire.specs.declared.refusal.Refusal.{Refusal}
use Rattle.um_manager.specs.Done.{Told}
use Rattle.um_manager.specs.Histories.{History, offers_in, told_to, answered_at, HasGoneOn, AreTrusted}
use Rattle.um_manager.specs.Offered.{offers_of_turn, offers_of_opening, all_untold, untold_of_refused}
use Rattle.um_manager.specs.Opening.{Opened, IsRefused}
use Rattle.um_manager.specs.Places.{Place, place_on}
use Rattle.um_manager.specs.Turns.{Now, Turned, IsMeanwhile}
use Rattle.um_manager.specs.declared.pieces.Piece.{Piece}

-- How far a manager got, over a disk and children as they were before it.
pub data Way (disk : Past) (before : List Call) : Type 0 where
  -- it stopped between two calls, or in one after the answer of its store
  behind : {b : Now} (past : History disk before b) → Way disk before
  -- it stopped in a turn before that answer, or its store failed in it
  in_turn : {at : Place} {honest whole : Bool} {result : Result Unit Refusal} {moment : ℕ} {pieces : List Piece} {a b : Now} (past : History disk before a)
      (turned : Turned at honest whole result moment pieces a b) → Way disk before
  -- it stopped in its opening
  in_opening : {at : Place} {honest whole : Bool} {moment : ℕ} {boot : List ℕ} {count sectors : ℕ} {b : Now}
      (opened : Opened at honest whole moment boot count sectors disk before b) → Way disk before
  -- its opening was refused, or it stopped in such a one
  in_refused : {layout : Layout} {honest whole : Bool} {moment : ℕ} {boot : List ℕ} {sectors : ℕ} {left : Past} {told : List Call}
      (refused : IsRefused layout honest whole moment boot sectors disk left before told) → Way disk before

-- A life of a manager: the disk and the calls of the children before it, how far it got, and both as it stopped.
pub record ManagerLife : Type 0 where
  pub disk : Past
  pub before : List Call
  pub way : Way disk before
  pub stop : Past
  pub calls : List Call

-- all offers on the way, with the outcome of each
abbrev pub offers_of : {disk : Past} {before : List Call} → Way disk before → List Offer
offers_of (behind past) = offers_in past
offers_of (in_turn past turned) = offers_in past ++ all_untold (offers_of_turn turned)
offers_of (in_opening opened) = all_untold (offers_of_opening opened)
offers_of (in_refused refused) = untold_of_refused refused

-- the reports to a connection on the way; in a turn that stopped before its store's answer there are none
abbrev pub told_of : ℕ → {disk : Past} {before : List Call} → Way disk before → List Told
told_of k (behind past) = told_to k past
told_of k (in_turn past turned) = told_to k past
told_of k (in_opening opened) = []
told_of k (in_refused refused) = []

-- The disk of this layout did what it answered, and each turn but one in which it stopped was answered Ok by the store;
-- and it stopped at a moment of that turn, or of the writes after the last answer.
abbrev pub IsByDisk : Layout → {disk : Past} {before : List Call} → Way disk before → (stop : Past) → Type 0
IsByDisk layout (behind {b = b} past) stop = HasGoneOn layout past × IsMeanwhile (answered_at past) b.disk stop
IsByDisk layout (in_turn {at = at} {a = a} {b = b} past turned) stop = HasGoneOn layout past × (at ≡ place_on layout) × IsMeanwhile a.disk b.disk stop
IsByDisk layout {disk = disk} (in_opening {at = at} {b = b} opened) stop = (at ≡ place_on layout) × IsMeanwhile disk b.disk stop
IsByDisk layout {disk = disk} (in_refused {layout = of} {left = left} refused) stop = (of ≡ layout) × IsMeanwhile disk left stop

-- these calls go on with those, and order nothing
abbrev pub OrdersNone : (calls more : List Call) → Type 0
OrdersNone calls more = (others : List Call) × (more ≡ calls ++ others) × (orders others ≡ [])

-- The children did what they answered: after the store's answer their calls were made as far as the turn got, and
-- before it nothing was ordered.
abbrev pub IsByChildren : {disk : Past} {before : List Call} → Way disk before → (calls : List Call) → Type 0
IsByChildren (behind {b = b} past) calls = AreTrusted past × ((rest : List Call) × (b.past ≡ calls ++ rest))
IsByChildren (in_turn {a = a} past turned) calls = AreTrusted past × OrdersNone a.past calls
IsByChildren {before = before} (in_opening opened) calls = OrdersNone before calls
IsByChildren {before = before} (in_refused refused) calls = OrdersNone before calls
