-- The values of units as a table with the names that may have a number, and a state with the numbers that its units and pending jobs share.
-- Follows no manual page: numbers of names are this project's own.
-- The views of units, of pending jobs, of states and of engines depend on this file.
use Rattle.std.specs.Prelude.{ℕ, Bool, List}
use Rattle.um_model.specs.Machine.{State}
use Rattle.um_model.specs.Service.{ByUnit}

-- the names that stand in it, also those of which nothing is held; and the values held, by name
pub record Table (A : Type 0) : Type 0 where
  pub names : List (List ℕ)
  pub held : ByUnit A

-- a state, whether its units and pending jobs have common numbers, and the names that have one; none has one if they have none in common
pub record Standing : Type 0 where
  pub state : State
  pub common : Bool
  pub names : List (List ℕ)
