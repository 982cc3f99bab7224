-- Calls of a keeper as parts of a life of its store: the inputs they offered, the outcome of each, and the images that
-- a crash leaves.
-- No manual page has it: crash safety is this project's own promise (docs/CRASH.md describes it in plain words).
-- The keeper's calls, the running manager and its lives stand on this file.
use Rattle.std.specs.Prelude.{◌≡◌, List, [], ◌∷◌, ◌++◌, Bool, false, if◌then◌else◌, Ok, Err}
use Rattle.um_keeper.specs.Answering.{Answer, is_turned_away}
use Rattle.um_model.specs.Disk.{Image, Past, Images, During}
use Rattle.um_model.specs.Lives.{Outcome, answered, turned_away, unanswered, Offer, MayLeave}
use Rattle.um_model.specs.Machine.{State, Input, Refusal}
use Rattle.um_model.specs.declared.layout.Layout.{Layout}
use Rattle.um_wire.specs.Refusal.{refused_of}
use Rattle.um_wire.specs.declared.refusal.Refusal.TheVariants.{Device, Reopen}

-- the outcome of an input with this answer: after E16 it isn't known, and E15, E17 and E20 turn it away
abbrev pub outcome_of : Answer → Outcome
outcome_of (Ok given) = answered given.0
outcome_of (Err Device) = unanswered
outcome_of (Err Reopen) = turned_away
outcome_of (Err e) = if is_turned_away e then turned_away else answered (Refusal (refused_of e))

-- inputs with the outcome of each
abbrev pub offers : List Input → List Answer → List Offer
offers (input ∷ inputs) (answer ∷ answers) = record { input = input; outcome = outcome_of answer } ∷ offers inputs answers
offers inputs answers = []

-- the outcome of an input if the machine stops before its answer is given: it isn't known, unless the input was turned
-- away
abbrev pub untold : Outcome → Outcome
untold turned_away = turned_away
untold other = unanswered

-- inputs with the outcome of each, if the machine stops before the answers are given
abbrev pub untold_offers : List Input → List Answer → List Offer
untold_offers (input ∷ inputs) (answer ∷ answers) = record { input = input; outcome = untold (outcome_of answer) } ∷ untold_offers inputs answers
untold_offers inputs answers = []

-- A life of a store that began in one state and made these offers has reached another: it may leave whatever a life may
-- leave that goes on from there.
abbrev pub HasCome : Layout → State → List Offer → State → Type 0
HasCome layout s offered t = (more : List Offer) (image : Image) → MayLeave layout t more image → MayLeave layout s (offered ++ more) image

-- A call in such a life, with these inputs and answers: meanwhile the life may leave each image with its last offers
-- unanswered, and afterwards, if no disk call failed, with them answered, and has reached the state.
pub record GoesOn (layout : Layout) (s : State) (before : List Offer) (inputs : List Input) (answers : List Answer) (old new : Past) (failed : Bool) (t : State)
    : Type 0 where
  pub meanwhile : During old new (MayLeave layout s (before ++ untold_offers inputs answers))
  pub behind : failed ≡ false → Images new (MayLeave layout s (before ++ offers inputs answers))
  pub come : failed ≡ false → HasCome layout s (before ++ offers inputs answers) t
