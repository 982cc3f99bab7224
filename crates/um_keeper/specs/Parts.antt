-- The inputs offered to a store are a part of a life of it, answered or not.
-- No manual page has it: crash safety is this project's own promise (docs/CRASH.md describes it in plain words).
-- The laws of a running manager over its lives stand on this file.
use Rattle.std.specs.Prelude.{◌≢◌, ℕ, List, ◌++◌, Err}
use Rattle.std.specs.List.{AllByRecursion}
use Rattle.um_keeper.specs.Answering.{Answer, AreAnswered, FellBack, taken}
use Rattle.um_keeper.specs.Keeping.{IsBegun}
use Rattle.um_keeper.specs.Offers.{offers, untold_offers, HasCome}
use Rattle.um_model.specs.Disk.{Image}
use Rattle.um_model.specs.Lives.{Offer, AreUnanswered, MayLeave}
use Rattle.um_model.specs.Machine.{State, Input}
use Rattle.um_model.specs.Stands.{IsStoreOf}
use Rattle.um_model.specs.Store.{body_limit}
use Rattle.um_model.specs.declared.layout.Layout.{Layout}
use Rattle.um_wire.specs.declared.refusal.Refusal.TheVariants.{Reopen}

-- none of the answers is E17
abbrev pub NoReopen : List Answer → Type 0
NoReopen answers = AllByRecursion (λ (answer : Answer). answer ≢ Err Reopen) answers

-- The inputs offered to a store are a part of a life of it.
pub record ArePartsOfLives : Type 0 where
  -- after inputs that were answered a life has reached the state after them
  pub answered : (layout : Layout) (s t : State) (inputs : List Input) (answers : List Answer) → AreAnswered (body_limit layout) s inputs answers t
      → HasCome layout s (offers inputs answers) t
  -- a life that has reached a state, and from there another, has reached the other
  pub further : (layout : Layout) (s t u : State) (first more : List Offer) → HasCome layout s first t → HasCome layout t more u
      → HasCome layout s (first ++ more) u
  -- it may leave a store of the state that it has reached
  pub stored : (layout : Layout) (s t : State) (offered : List Offer) (image : Image) → HasCome layout s offered t → IsStoreOf layout image t
      → MayLeave layout s offered image
  -- where the answers aren't given yet, none of the inputs was answered
  pub untold : (inputs : List Input) (answers : List Answer) → AreUnanswered (untold_offers inputs answers)
  -- and it may leave then a store of the state after a beginning of those that weren't turned away
  pub begun : (layout : Layout) (s : State) (inputs : List Input) (answers : List Answer) (image : Image) → NoReopen answers
      → IsBegun layout s (taken inputs answers) image → MayLeave layout s (untold_offers inputs answers) image
  -- none of a list that was taken is answered E17, whether a call on the disk failed or not
  pub judged : (size : ℕ) (s t : State) (inputs : List Input) (answers : List Answer) → AreAnswered size s inputs answers t → NoReopen answers
  pub fell : (size : ℕ) (s t : State) (inputs : List Input) (answers : List Answer) → FellBack size s inputs answers t → NoReopen answers
