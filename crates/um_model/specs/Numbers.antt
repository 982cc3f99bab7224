-- The numbers under which processes are started: by actions, and in a run.
-- Follows no manual page: process numbers are this project's own, so that the end of a process names one process for good.
-- The law of runs in proofs/NumbersLaws depends on this file.
use Rattle.std.specs.Prelude.{◌≡◌, ℕ, ◌≤◌, ◌<◌, List, [], ◌∷◌, ◌++◌, Some, slice_get}
use Rattle.um_model.specs.Service.{Action, SpawnProcess, SendSignal}
use Rattle.um_model.specs.Machine.{State, Input, Run, goes}

-- the numbers under which these actions start processes, in order
abbrev pub started_numbers : List Action → List ℕ
started_numbers [] = []
started_numbers (SpawnProcess number words environment ∷ actions) = number ∷ started_numbers actions
started_numbers (SendSignal number signal ∷ actions) = started_numbers actions

-- the actions of a run for the children, in order
abbrev pub actions_in : {size : ℕ} {s t : State} {inputs : List Input} → Run size s inputs t → List Action
actions_in Run.rests = []
actions_in (goes reply actions step run) = actions ++ actions_in run

-- numbers that are new between the next one before and the next one after: none from outside, and none twice
pub record AreNew (before after : ℕ) (numbers : List ℕ) : Type 0 where
  pub rises : before ≤ after
  pub within : (i number : ℕ) → slice_get numbers i ≡ Some number → (before ≤ number) × (number < after)
  pub once : (i j number : ℕ) → slice_get numbers i ≡ Some number → slice_get numbers j ≡ Some number → i ≡ j
