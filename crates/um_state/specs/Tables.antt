-- The values of a list of names, in the order of the names, and the finite map that they stand for.
-- Follows no manual page: it is how the code holds units and pending jobs.
-- The views of Units and Pending, and all puts by number, stand on this file.
use Rattle.std.specs.Prelude.{ℕ, List, [], ◌∷◌, length, nat_lt, if◌then◌else◌}
use Rattle.std.specs.FinMap as map
use Rattle.um_model.specs.Jobs.{with_jobs}
use Rattle.um_model.specs.Service.{ByUnit, with_unit}
use Rattle.um_model.specs.declared.jobs.UnitJobs.{UnitJobs}
use Rattle.um_model.specs.declared.service.UnitState.{UnitState}
use Rattle.um_name.specs.Names.{name_at}

-- the map in which each row is put under its name
abbrev pub by_names : {A : Type 0} → (ByUnit A → List ℕ → A → ByUnit A) → List (List ℕ) → List A → ByUnit A
by_names put [] rows = map.empty
by_names put (n ∷ ns) [] = map.empty
by_names put (n ∷ ns) (row ∷ rows) = put (by_names put ns rows) n row

-- the units of these rows
abbrev pub units_by : List (List ℕ) → List UnitState → ByUnit UnitState
units_by = by_names with_unit

-- the pending jobs of these rows
abbrev pub jobs_by : List (List ℕ) → List UnitJobs → ByUnit UnitJobs
jobs_by = by_names with_jobs

-- with this value under a number; past the last name nothing is put
abbrev pub put_at : {A : Type 0} → (ByUnit A → List ℕ → A → ByUnit A) → List (List ℕ) → ByUnit A → ℕ → A → ByUnit A
put_at put names held i x = if nat_lt i (length names) then put held (name_at names i) x else held

-- with this unit under a number
abbrev pub unit_put : List (List ℕ) → ByUnit UnitState → ℕ → UnitState → ByUnit UnitState
unit_put = put_at with_unit

-- with these jobs under a number
abbrev pub jobs_put : List (List ℕ) → ByUnit UnitJobs → ℕ → UnitJobs → ByUnit UnitJobs
jobs_put = put_at with_jobs
