-- The life of the store that a crash of a script leaves, in which each turn that ended was answered.
-- No manual page has it: crash safety is this project's own promise (docs/CRASH.md describes it in plain words).
-- The law of crashes stands on this file.
use Rattle.std.specs.Prelude.{◌≡◌, List, [], ◌++◌, map, Bool}
use Rattle.um_keeper.specs.Answering.{Answer}
use Rattle.um_keeper.specs.Offers.{offers, untold_offers}
use Rattle.um_model.specs.Disk.{Image}
use Rattle.um_model.specs.Lives.{Offer, AreUnanswered, MayLeave}
use Rattle.um_model.specs.Machine.{State, Input}
use Rattle.um_model.specs.declared.layout.Layout.{Layout}
use Rattle.um_manager.specs.Clients.{AllTurned, no_turn, and_turn}
use Rattle.um_manager.specs.Offered.{offered_in}
use Rattle.um_manager.specs.Places.{Place}
use Rattle.um_manager.specs.Turns.{Now}
use Rattle.um_manager.specs.declared.script.Step.{Step}

-- all that these turns offered, in their order, with the outcome of each
abbrev pub all_offers : {place : Place} {honest whole : Bool} {steps : List Step} {a b : Now} → AllTurned place honest whole steps a b → List Offer
all_offers no_turn = []
all_offers (and_turn turned turns) = offers (offered_in turned) turned.answers ++ all_offers turns

-- An image that a life leaves which began in this state: after the answered offers it takes a beginning of those of the
-- inputs offered last that weren't turned away.
pub record IsLeft (layout : Layout) (s : State) (before : List Offer) (inputs : List Input) (answers : List Answer) (image : Image) : Type 0 where
  pub last_are : map (λ (offer : Offer). offer.input) (untold_offers inputs answers) ≡ inputs
  pub unanswered : AreUnanswered (untold_offers inputs answers)
  pub leaves : MayLeave layout s (before ++ untold_offers inputs answers) image
