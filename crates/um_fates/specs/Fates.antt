-- Which inputs follow from the fates that children report of their numbers.
-- No manual page has this: processes under numbers are the project's own.
-- The turn of the manager and its opening stand on this file.
use Rattle.std.specs.Prelude.{◌≡◌, ◌==◌, ℕ, List, [], ◌∷◌, ◌++◌, flat_map, map, Bool, false, if◌then◌else◌, IsTrue, Option, Some, None, ⊤}
use Rattle.um_model.specs.Children.{Call, Asked, Tale}
use Rattle.um_model.specs.Machine.{Input, Happening, Happened, ProcessEnded, ProcessExecuted, Tick}
use Rattle.um_model.specs.Profiles.{current}
use Rattle.um_model.specs.declared.children.Fate.{Fate}
use Rattle.um_model.specs.declared.children.Fate.TheVariants.{Starting, Executed, Ended, Absent}
use Rattle.um_model.specs.declared.service.End.{End}
use Rattle.um_model.specs.declared.service.End.TheVariants.{Code, Signal, Lost}
use Rattle.um_state.specs.View.{input_of}
use Rattle.um_state.specs.declared.input.Input as declared

-- inputs of the code as those of the definitions
abbrev pub inputs_in : List declared.Input → List Input
inputs_in inputs = map input_of inputs

-- a happening at this moment, as an input of the current profile
abbrev pub happens_at : ℕ → Happening → Input
happens_at moment happening = record { profile = current; moment = moment; event = Happened happening }

-- the end of a process whose program could not be executed
abbrev pub unexecuted : End
unexecuted = Code 203

-- the end of a process whose end nobody knows
abbrev pub lost : End
lost = Lost

abbrev pub is_unexecuted : End → Bool
is_unexecuted (Code code) = code == 203
is_unexecuted (Signal signal) = false
is_unexecuted Lost = false

-- the inputs of an end: its program was executed before, unless the end says that it could not be
abbrev pub inputs_of_end : ℕ → ℕ → End → List Input
inputs_of_end moment number end =
    if is_unexecuted end then happens_at moment (ProcessEnded number end) ∷ []
    else happens_at moment (ProcessExecuted number) ∷ happens_at moment (ProcessEnded number end) ∷ []

-- the inputs of a fate, where an absent number has ended so
abbrev pub inputs_of_fate : End → ℕ → ℕ → Fate → List Input
inputs_of_fate absent moment number Starting = []
inputs_of_fate absent moment number Executed = happens_at moment (ProcessExecuted number) ∷ []
inputs_of_fate absent moment number (Ended end) = inputs_of_end moment number end
inputs_of_fate absent moment number Absent = happens_at moment (ProcessEnded number absent) ∷ []

-- a call that failed gave no input
abbrev pub inputs_told : End → ℕ → ℕ → Option Fate → List Input
inputs_told absent moment number None = []
inputs_told absent moment number (Some fate) = inputs_of_fate absent moment number fate

abbrev pub inputs_of_tale : End → ℕ → Tale → List Input
inputs_of_tale absent moment tale = inputs_told absent moment tale.number tale.told

-- the fate of each of these numbers was queried once, in their order, with the claims named
abbrev pub AreTalesOf : (ℕ → Bool) → List ℕ → List Tale → Type 0
AreTalesOf claims [] [] = ⊤
AreTalesOf claims (n ∷ ns) (tale ∷ told) = (tale.number ≡ n) × (tale.claim ≡ claims n) × AreTalesOf claims ns told
AreTalesOf claims ns told = ⊥

-- the call that queries a fate, with the fate it gave
abbrev pub asks_for : Tale → Call
asks_for tale = Asked tale.number tale.claim tale.told

-- Each of these numbers' fate was queried once, and the inputs of the fates reported follow the others; the history of
-- children that are honest has exactly these calls more, if it is whole.
pub record Heard (absent : End) (moment : ℕ) (claims : ℕ → Bool) (honest whole : Bool) (old new : List Call) (live : List ℕ) (before after : List Input)
    : Type 0 where
  pub told : List Tale
  pub of_live : AreTalesOf claims live told
  pub inputs_are : after ≡ before ++ flat_map (inputs_of_tale absent moment) told
  pub past_is : IsTrue honest → IsTrue whole → new ≡ old ++ map asks_for told

-- a tick at this moment
abbrev pub tick_at : ℕ → Input
tick_at moment = happens_at moment Tick
