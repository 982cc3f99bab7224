-- How the calls of a manager extend its history, and where a life stands after them.
-- No manual page has it: crash safety is this project's own promise (docs/HEADLINE.md, "Which call gives what").
-- The manager's calls and the law of histories stand on this file.
use Rattle.std.specs.Prelude.{◌≡◌, ◌≢◌, ℕ, List, [], ◌++◌, Bool, IsTrue, Result, Ok, Err}
use Rattle.um_keeper.specs.Offers.{offers}
use Rattle.um_model.specs.Children.{Call}
use Rattle.um_model.specs.Disk.{Past}
use Rattle.um_model.specs.Lives.{Offer}
use Rattle.um_model.specs.Sessions.{Session}
use Rattle.um_model.specs.declared.layout.Layout.{Layout}
use Rattle.um_wire.specs.declared.refusal.Refusal as declared
use Rattle.um_wire.specs.declared.refusal.Refusal.TheVariants.{NoMemory}
use Rattle.um_manager.specs.Done.{Told, TakesOut}
use Rattle.um_manager.specs.Histories.{History, opens, turns, takes, offers_in, told_to, HasGoneOn, AreTrusted}
use Rattle.um_manager.specs.Living.{Way, ManagerLife, offers_of, told_of, IsByDisk, IsByChildren}
use Rattle.um_manager.specs.Offered.{offers_of_turn, all_untold, untold_of_refused}
use Rattle.um_manager.specs.Opening.{Opened, IsRefused}
use Rattle.um_manager.specs.Places.{Place}
use Rattle.um_manager.specs.Turns.{Now, Turned, Untouched}
use Rattle.um_manager.specs.declared.pieces.Piece.{Piece}

-- ---- one call more

-- the manager was just opened so
abbrev pub IsJustOpened : Place → (honest whole : Bool) → ℕ → List ℕ → ℕ → ℕ → {disk : Past} {before : List Call} {b : Now} → History disk before b → Type 0
IsJustOpened place as_told all_told moment boot count sectors
    (opens {at = at} {honest = honest} {whole = whole} {moment = then} {boot = id} {count = live} {sectors = size} sessions opened anew) =
    (at ≡ place) × (honest ≡ as_told) × (whole ≡ all_told) × (then ≡ moment) × (id ≡ boot) × (live ≡ count) × (size ≡ sectors)
IsJustOpened place as_told all_told moment boot count sectors (turns past turned) = ⊥
IsJustOpened place as_told all_told moment boot count sectors (takes past out) = ⊥

-- one turn more, or one that found no memory
pub data IsTurn (at : Place) (honest whole : Bool) (result : Result Unit declared.Refusal) (moment : ℕ) (pieces : List Piece) {disk : Past} {before : List Call}
    {a b : Now} (past : History disk before a) : History disk before b → Type 0 where
  is_turn : (turned : Turned at honest whole result moment pieces a b) → IsTurn at honest whole result moment pieces past (turns past turned)
  is_none : result ≡ Err NoMemory → Untouched a b → (out : TakesOut a b) → IsTurn at honest whole result moment pieces past (takes past out)

-- output is taken
pub data IsTaking {disk : Past} {before : List Call} {a b : Now} (past : History disk before a) : History disk before b → Type 0 where
  is_taking : (out : TakesOut a b) → IsTaking past (takes past out)

-- ---- where a life stands after them

-- the offers by the store's answer: if it failed none counts as answered
abbrev pub offers_told : Result Unit declared.Refusal → List Offer → List Offer
offers_told (Ok done) offered = offered
offers_told (Err e) offered = all_untold offered

-- the offers of one turn, with the outcome of each
abbrev pub offers_in_turn : {at : Place} {honest whole : Bool} {result : Result Unit declared.Refusal} {moment : ℕ} {pieces : List Piece} {disk : Past}
    {before : List Call} {a b : Now} {past : History disk before a} {all : History disk before b} → IsTurn at honest whole result moment pieces past all
    → List Offer
offers_in_turn (is_turn turned) = offers_told turned.store (offers_of_turn turned)
offers_in_turn (is_none want still out) = []

-- the reports to a connection before the last call, if that was a turn
abbrev pub told_before : ℕ → {disk : Past} {before : List Call} {b : Now} → History disk before b → List Told
told_before k (opens sessions opened anew) = []
told_before k (turns past turned) = told_to k past
told_before k (takes past out) = told_before k past

-- a life that got this far, and stopped so
abbrev pub stopped : {disk : Past} {before : List Call} → Way disk before → (stop : Past) (calls : List Call) → ManagerLife
stopped {disk} {before} way stop calls = record { disk = disk; before = before; way = way; stop = stop; calls = calls }

-- A life that ends where these calls ended, with these offers and reports.
pub record EndsThere (layout : Layout) {disk : Past} {before : List Call} {b : Now} (all : History disk before b) (offered : List Offer) (told : ℕ → List Told)
    (life : ManagerLife) : Type 0 where
  pub by_disk : IsByDisk layout life.way life.stop
  pub found : life.disk ≡ disk
  pub stop : life.stop ≡ b.disk
  pub offers : offers_of life.way ≡ offered
  pub told_is : (k : ℕ) → told_of k life.way ≡ told k
  pub asked : AreTrusted all → IsByChildren life.way life.calls × (life.before ≡ before) × (life.calls ≡ b.past)

-- A life that was an opening which was refused so, and no more.
pub record IsRefusedLife (layout : Layout) {honest whole : Bool} {moment : ℕ} {boot : List ℕ} {sectors : ℕ} {disk left : Past} {past calls : List Call}
    (refused : IsRefused layout honest whole moment boot sectors disk left past calls) (life : ManagerLife) : Type 0 where
  pub by_disk : IsByDisk layout life.way life.stop
  pub found : life.disk ≡ disk
  pub stop : life.stop ≡ left
  pub offers : offers_of life.way ≡ untold_of_refused refused
  pub told_is : (k : ℕ) → told_of k life.way ≡ []
  pub asked : IsTrue honest → IsTrue whole → IsByChildren life.way life.calls × (life.before ≡ past) × (life.calls ≡ calls)

-- A life after calls that offered more, and were answered so: it goes on; or its store refused the last of them, and
-- there it has stopped.
pub data Continues (layout : Layout) {disk : Past} {before : List Call} {a b : Now} (past : History disk before a) (all : History disk before b)
    (more : List Offer) (result : Result Unit declared.Refusal) : Type 0 where
  goes_on : HasGoneOn layout all → offers_in all ≡ offers_in past ++ more → Continues layout past all more result
  has_stopped : result ≢ Ok tt → (life : ManagerLife) → EndsThere layout all (offers_in past ++ more) (λ k. told_before k all) life
      → Continues layout past all more result
