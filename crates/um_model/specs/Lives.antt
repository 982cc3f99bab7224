-- What outlives a crash: the lives of a store, each opened on the image that the one before it left, and the inputs that they keep.
-- No manual page has it: crash safety is this project's own promise (docs/CRASH.md states it in plain words).
-- The law of lives in proofs/LivesLaws and the keeper's contracts depend on this file.
use Rattle.std.specs.Prelude.{◌≡◌, ⊤, ℕ, List, [], ◌∷◌, ◌++◌}
use Rattle.um_model.specs.Disk.{Image}
use Rattle.um_model.specs.Machine.{State, Input, Reply, Step}
use Rattle.um_model.specs.Service.{Action}
use Rattle.um_model.specs.Stands.{IsStoreOf}
use Rattle.um_model.specs.Store.{body_limit}
use Rattle.um_model.specs.declared.layout.Layout.{Layout}

-- The outcome of an input that was offered to a store.
pub data Outcome : Type 0 where
  -- it was answered with this reply, that of its step: done or refused
  answered : Reply → Outcome
  -- it found no memory, a store that is to be opened again, or the last generation: it is no step
  turned_away : Outcome
  -- the device failed, or the manager stopped before the answer
  unanswered : Outcome

pub record Offer : Type 0 where
  pub input : Input
  pub outcome : Outcome

-- the offers since the store was opened, and the image that the stop left
pub record Life : Type 0 where
  pub offers : List Offer
  pub image : Image

-- none of these was answered
pub data AreUnanswered : List Offer → Type 0 where
  none : AreUnanswered []
  turned : {input : Input} {offers : List Offer} → AreUnanswered offers → AreUnanswered (record { input = input; outcome = turned_away } ∷ offers)
  lost : {input : Input} {offers : List Offer} → AreUnanswered offers → AreUnanswered (record { input = input; outcome = unanswered } ∷ offers)

-- the outcome lets an input be a step with this reply: an answered one got just that, and one that was turned away is no step
abbrev pub MayBeStep : Outcome → Reply → Type 0
MayBeStep (answered r) reply = reply ≡ r
MayBeStep turned_away reply = ⊥
MayBeStep unanswered reply = ⊤

-- The image that a life which began in this state may leave when it stops: a store of the state after a prefix of the offers, with all that were answered.
pub data MayLeave (layout : Layout) : State → List Offer → Image → Type 0 where
  holds : {s : State} {offers : List Offer} {image : Image} → IsStoreOf layout image s → AreUnanswered offers → MayLeave layout s offers image
  takes : {s t : State} {offer : Offer} {offers : List Offer} {image : Image} (reply : Reply) (actions : List Action) → MayBeStep offer.outcome reply
      → Step (body_limit layout) s offer.input reply actions t → MayLeave layout t offers image → MayLeave layout s (offer ∷ offers) image
  turns_away : {s : State} {input : Input} {offers : List Offer} {image : Image} → MayLeave layout s offers image
      → MayLeave layout s (record { input = input; outcome = turned_away } ∷ offers) image

-- each life is opened on the image before it, in a state that this stands for
pub data Lived (layout : Layout) : Image → List Life → Image → Type 0 where
  ended : {image : Image} → Lived layout image [] image
  lived : {first last : Image} {s : State} {life : Life} {lives : List Life} → IsStoreOf layout first s → MayLeave layout s life.offers life.image
      → Lived layout life.image lives last → Lived layout first (life ∷ lives) last

-- a prefix of the offers of a life, without those that were turned away: after it no offer was answered
pub data IsKept : List Offer → List Input → Type 0 where
  no_more : {offers : List Offer} → AreUnanswered offers → IsKept offers []
  keeps : {offer : Offer} {offers : List Offer} {inputs : List Input} (reply : Reply) → MayBeStep offer.outcome reply → IsKept offers inputs
      → IsKept (offer ∷ offers) (offer.input ∷ inputs)
  passes : {input : Input} {offers : List Offer} {inputs : List Input} → IsKept offers inputs
      → IsKept (record { input = input; outcome = turned_away } ∷ offers) inputs

-- such a prefix of each life, one after the other
pub data AreKept : List Life → List Input → Type 0 where
  all_kept : AreKept [] []
  and_life : {life : Life} {lives : List Life} {here more : List Input} → IsKept life.offers here → AreKept lives more → AreKept (life ∷ lives) (here ++ more)

-- ---- one run of all that was kept

-- A run over the inputs kept of a life: each offer that was answered got the reply of its step.
pub data RunsOver (size : ℕ) : State → List Offer → List Input → State → Type 0 where
  stays : {s : State} {offers : List Offer} → AreUnanswered offers → RunsOver size s offers [] s
  steps : {s t u : State} {offer : Offer} {offers : List Offer} {inputs : List Input} (reply : Reply) (actions : List Action) → MayBeStep offer.outcome reply
      → Step size s offer.input reply actions t → RunsOver size t offers inputs u → RunsOver size s (offer ∷ offers) (offer.input ∷ inputs) u
  leaves_out : {s t : State} {input : Input} {offers : List Offer} {inputs : List Input} → RunsOver size s offers inputs t
      → RunsOver size s (record { input = input; outcome = turned_away } ∷ offers) inputs t

-- one such run through all lives
pub data RunsThrough (size : ℕ) : State → List Life → List Input → State → Type 0 where
  at_end : {s : State} → RunsThrough size s [] [] s
  and_on : {s t u : State} {life : Life} {lives : List Life} {here more : List Input} → RunsOver size s life.offers here t → RunsThrough size t lives more u
      → RunsThrough size s (life ∷ lives) (here ++ more) u

-- ---- the inputs that were answered

-- the input, if it was answered
abbrev pub where_answered : Outcome → Input → List Input
where_answered (answered reply) input = input ∷ []
where_answered other input = []

-- the inputs of a life that were answered
abbrev pub answered_in : List Offer → List Input
answered_in [] = []
answered_in (offer ∷ offers) = where_answered offer.outcome offer.input ++ answered_in offers

-- those of all lives, one after the other
abbrev pub all_answered : List Life → List Input
all_answered [] = []
all_answered (life ∷ lives) = answered_in life.offers ++ all_answered lives

-- the second list has all of the first in its order, and maybe others between them
pub data HasInOrder : List Input → List Input → Type 0 where
  no_others : HasInOrder [] []
  has : {input : Input} {some all : List Input} → HasInOrder some all → HasInOrder (input ∷ some) (input ∷ all)
  between : {input : Input} {some all : List Input} → HasInOrder some all → HasInOrder some (input ∷ all)
