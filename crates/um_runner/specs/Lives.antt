-- The life of a runner in the notes of its host.
-- The contracts of Host and run cite it.
use Rattle.std.specs.Prelude.{◌≡◌, ℕ, Bool, true, false, List, ◌++◌, Result, Ok, Err}
use Rattle.um_runner.specs.RunnerSteps.{Claimed, RunnerStep, RunnerLife, Ours, Taken, Refused}

-- the outcome of claiming, by the answer
abbrev pub claimed_when : Bool → Claimed
claimed_when true = Ours
claimed_when false = Taken

abbrev pub claimed_of : {E : Type 0} → Result Bool E → Claimed
claimed_of (Ok is_new) = claimed_when is_new
claimed_of (Err e) = Refused

-- after the steps noted before, a whole life is noted
abbrev pub LivesOn : (words entries : List (List ℕ)) → List RunnerStep → List RunnerStep → Bool → Type 0
LivesOn words entries before after told = (steps : List RunnerStep) × (after ≡ before ++ steps) × RunnerLife words entries steps told
