-- A script of turns.
-- No manual page has this: it is the project's own.
-- `run_script` and the laws of the manager stand on this file.
use Rattle.std.specs.Prelude.{◌≡◌, ◌≢◌, ◌⊎◌, List, [], ◌∷◌, ◌++◌, Bool, Result, Ok, Err}
use Rattle.um_keeper.specs.Offers.{offers}
use Rattle.um_model.specs.Children.{Call}
use Rattle.um_model.specs.Disk.{Past}
use Rattle.um_model.specs.Lives.{Offer}
use Rattle.um_wire.specs.declared.refusal.Refusal.{Refusal}
use Rattle.um_wire.specs.declared.refusal.Refusal.TheVariants.{NoMemory}
use Rattle.um_manager.specs.Going.{IsTurn, offers_told, offers_in_turn}
use Rattle.um_manager.specs.Histories.{History, turns}
use Rattle.um_manager.specs.Offered.{offers_of_turn}
use Rattle.um_manager.specs.Places.{Place}
use Rattle.um_manager.specs.Turns.{Now, Turned, Untouched}
use Rattle.um_manager.specs.declared.script.Step.{Step}

-- the last turn of a run that is refused: one that finds no memory is none
abbrev pub Stops : Place → (honest whole : Bool) → Step → Result Unit Refusal → Now → Now → Type 0
Stops place honest whole step result a b = (result ≢ Ok tt) × (result ≡ Err NoMemory → Untouched a b)
    × (result ≢ Err NoMemory → Turned place honest whole result step.moment step.pieces a b)

-- each step is one turn, from where the one before it ended; a refusal is the last
abbrev pub Runs : Place → (honest whole : Bool) → List Step → Result Unit Refusal → Now → Now → Type 0
Runs place honest whole [] result a b = (result ≡ Ok tt) × (b ≡ a)
Runs place honest whole (step ∷ steps) result a b =
    Stops place honest whole step result a b
    ⊎ ((mid : Now) × Turned place honest whole (Ok tt) step.moment step.pieces a mid × Runs place honest whole steps result mid b)

-- the history goes on with a turn a step; a refusal is the last
pub data AreTurns (at : Place) (honest whole : Bool) {disk : Past} {before : List Call} : List Step → Result Unit Refusal → (a b : Now)
    → History disk before a → History disk before b → Type 0 where
  no_step : {a : Now} {past : History disk before a} → AreTurns at honest whole [] (Ok tt) a a past past
  last_step : {a b : Now} {past : History disk before a} {all : History disk before b} {step : Step} {steps : List Step} {result : Result Unit Refusal}
      → result ≢ Ok tt → IsTurn at honest whole result step.moment step.pieces past all
      → AreTurns at honest whole (step ∷ steps) result a b past all
  and_step : {a mid b : Now} {past : History disk before a} {all : History disk before b} {step : Step} {steps : List Step} {result : Result Unit Refusal}
      (turned : Turned at honest whole (Ok tt) step.moment step.pieces a mid) → AreTurns at honest whole steps result mid b (turns past turned) all
      → AreTurns at honest whole (step ∷ steps) result a b past all

-- the offers of these turns, in their order, with the outcome of each
abbrev pub offers_in_turns : {at : Place} {honest whole : Bool} {disk : Past} {before : List Call} {steps : List Step} {result : Result Unit Refusal}
    {a b : Now} {past : History disk before a} {all : History disk before b} → AreTurns at honest whole steps result a b past all → List Offer
offers_in_turns no_step = []
offers_in_turns (last_step refused turn) = offers_in_turn turn
offers_in_turns (and_step turned rest) = offers_told turned.store (offers_of_turn turned) ++ offers_in_turns rest
