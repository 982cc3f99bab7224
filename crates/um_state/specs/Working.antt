-- The rows of a state in work, beside the standing they come from; which rows differ, and how many.
-- Follows no manual page: numbers of names are this project's own.
-- Work, the changes of a step, and the count of these stand on this file.
use Rattle.std.specs.Prelude.{◌≡◌, ◌↔◌, ℕ, zero, suc, Bool, true, false, not, ◌&&◌, List, [], ◌∷◌, ◌++◌, length, Contains, slice_index_or, if◌then◌else◌}
use Rattle.um_model.specs.Jobs.{jobs_of_unit, no_jobs}
use Rattle.um_model.specs.Machine.{State}
use Rattle.um_model.specs.Service.{ByUnit, state_of_unit}
use Rattle.um_model.specs.Standing.{Standing}
use Rattle.um_model.specs.contracts.jobs.UnitJobsPartialEq.TheImpl as unit_jobs
use Rattle.um_model.specs.contracts.service.UnitStatePartialEq.TheImpl as unit_state
use Rattle.um_model.specs.declared.jobs.UnitJobs.{UnitJobs}
use Rattle.um_model.specs.declared.service.UnitState.{UnitState}
use Rattle.um_name.specs.Names.{AreAscending}
use Rattle.um_state.specs.Finding.{row_at}
use Rattle.um_state.specs.Tables.{units_by, jobs_by, unit_put, jobs_put}
use Rattle.um_state.specs.declared.row.Numbered.{Numbered}
use Rattle.um_state.specs.declared.row.Row.{Row}

-- these are the rows of the standing, which have common numbers, and the names that they have
pub record AreRowsOf (s : Standing) (n : Numbered) : Type 0 where
  pub common : s.common ≡ true
  pub names : n.names.now ≡ s.names
  pub units : units_by s.names n.units.now ≡ s.state.units
  pub pending : jobs_by s.names n.jobs.now ≡ s.state.pending
  pub units_len : length n.units.now ≡ length s.names
  pub jobs_len : length n.jobs.now ≡ length s.names
  pub ascending : AreAscending s.names

-- the standing from which the work began, and the one that it has reached
pub record WorkView : Type 0 where
  pub base : Standing
  pub now : Standing

-- a standing with these units, pending jobs and next number
abbrev pub with_maps : Standing → ByUnit UnitState → ByUnit UnitJobs → ℕ → Standing
with_maps s units pending next = record s { state = record s.state { units = units; pending = pending; next = next } }

-- with these rows
abbrev pub with_rows : Standing → List UnitState → List UnitJobs → ℕ → Standing
with_rows s units jobs next = with_maps s (units_by s.names units) (jobs_by s.names jobs) next

-- with the unit of this number so; past the last name nothing is set
abbrev pub unit_set : Standing → ℕ → UnitState → Standing
unit_set s i u = record s { state = record s.state { units = unit_put s.names s.state.units i u } }

-- with these jobs of the unit of this number; past the last name nothing is set
abbrev pub jobs_set : Standing → ℕ → UnitJobs → Standing
jobs_set s i j = record s { state = record s.state { pending = jobs_put s.names s.state.pending i j } }

-- with this next number
abbrev pub next_set : Standing → ℕ → Standing
next_set s next = record s { state = record s.state { next = next } }

-- of n items from a number on, those whose number passes
abbrev pub picked : {X : Type 0} → (ℕ → Bool) → (ℕ → X) → ℕ → ℕ → List X
picked test item k zero = []
picked test item k (suc n) = (if test k then item k ∷ [] else []) ++ picked test item (suc k) n

-- both are the same
abbrev pub is_same_unit : UnitState → UnitState → Bool
is_same_unit a b = (unit_state.ghosts).eq a b

abbrev pub is_same_jobs : UnitJobs → UnitJobs → Bool
is_same_jobs a b = (unit_jobs.ghosts).eq a b

-- the pending jobs with this number; past the last one there are none
abbrev pub pending_at : List UnitJobs → ℕ → UnitJobs
pending_at jobs i = slice_index_or jobs i no_jobs

-- whether the row with this number is marked; past the last one none is
abbrev pub mark_at : List Bool → ℕ → Bool
mark_at marks i = slice_index_or marks i false

-- each row without a mark is unchanged
pub record KeepUnmarked (marks : List Bool) (was : List UnitState) (had : List UnitJobs) (units : List UnitState) (jobs : List UnitJobs) : Type 0 where
  pub same_unit : (i : ℕ) → mark_at marks i ≡ false → row_at units i ≡ row_at was i
  pub same_jobs : (i : ℕ) → mark_at marks i ≡ false → pending_at jobs i ≡ pending_at had i

-- the rows with this number differ
abbrev pub differ_at : List UnitState → List UnitJobs → List UnitState → List UnitJobs → ℕ → Bool
differ_at was had units jobs i = not (is_same_unit (row_at was i) (row_at units i) && is_same_jobs (pending_at had i) (pending_at jobs i))

-- both rows with this number
abbrev pub rows_at : List UnitState → List UnitJobs → ℕ → Row
rows_at units jobs i = record { number = i; unit = row_at units i; jobs = pending_at jobs i }

-- those that differ
abbrev pub changed : List UnitState → List UnitJobs → List UnitState → List UnitJobs → ℕ → List Row
changed was had units jobs n = picked (differ_at was had units jobs) (rows_at units jobs) 0 n

-- the two states hold different things of the unit with this name
abbrev pub Differs : State → State → List ℕ → Type 0
Differs s t x = ¬ ((state_of_unit s.units x ≡ state_of_unit t.units x) × (jobs_of_unit s.pending x ≡ jobs_of_unit t.pending x))

-- the two states hold different things of exactly this number of units
pub record CountsDiffering (s t : State) (n : ℕ) : Type 0 where
  pub differing : List (List ℕ)
  pub count : length differing ≡ n
  pub once : AreAscending differing
  pub exact : (x : List ℕ) → Contains differing x ↔ Differs s t x
