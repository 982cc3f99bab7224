-- What it means that the machine isn't stuck: if a job is pending, some pending job waits for a live process.
-- Follows no manual page: the machine is this project's own.
-- The law of runs in proofs/LiveLaws depends on this file.
use Rattle.std.specs.Prelude.{◌≡◌, ℕ, ◌||◌, true, List}
use Rattle.um_model.specs.Ends.{is_starting, is_stopping}
use Rattle.um_model.specs.Jobs.{Job, IsPending}
use Rattle.um_model.specs.Machine.{State, IsHeld}
use Rattle.um_model.specs.Service.{state_of_unit}
use Rattle.um_model.specs.Transitions.{HasNumber}

-- a pending job whose unit is in start-pre, start or a stop state, in which this is the number of a live process
pub record WaitsFor (s : State) (job : Job) (number : ℕ) : Type 0 where
  pub pending : IsPending s.pending job
  pub busy : (is_starting (state_of_unit s.units job.unit).sub || is_stopping (state_of_unit s.units job.unit).sub) ≡ true
  pub live : HasNumber (state_of_unit s.units job.unit) number

-- the machine isn't stuck: if a job is pending, some pending job waits for a live process
abbrev pub IsNotStuck : State → Type 0
IsNotStuck s = (job : Job) → IsPending s.pending job → (other : Job) × (number : ℕ) × WaitsFor s other number

-- the later state has the same loaded tree and holds nothing new
pub record HoldsNoMore (s u : State) : Type 0 where
  pub loaded : u.loaded ≡ s.loaded
  pub held : (unit : List ℕ) → IsHeld u unit → IsHeld s unit
