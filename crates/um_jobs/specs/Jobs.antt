-- The pending jobs of a graph's units by number, with the units that count as deactivating, and which job of them is ready.
-- Follows the definitions of jobs, over the units of a graph.
-- The calls of `Jobs` stand on this file.
use Rattle.std.specs.Prelude.{◌≡◌, ℕ, Bool, false, List, Some, None, slice_index_or, slice_set}
use Rattle.um_model.specs.Jobs.{Job, ComesBefore, jobs, state_of_job}
use Rattle.um_model.specs.declared.jobs.JobKind.{JobKind}
use Rattle.um_model.specs.declared.jobs.JobKind.TheVariants.{Stop, Start}
use Rattle.um_model.specs.declared.jobs.JobState.TheVariants.{Waiting}
use Rattle.um_model.specs.declared.jobs.UnitJobs.{UnitJobs}
use Rattle.um_graph.specs.Graph.{GraphView}
use Rattle.um_graph.specs.Kinds.{before_bit}
use Rattle.um_graph.specs.Named.{Joins, item_for, name_at}
use Rattle.um_jobs.specs.Named.{jobs_by}

-- the graph of the units; and for each of them, by number: its pending jobs, and whether it counts as deactivating
pub record JobsView : Type 0 where
  pub graph : GraphView
  pub units : List UnitJobs
  pub held : List Bool

-- whether the unit with this number counts as deactivating: one past the last doesn't
abbrev pub held_at : List Bool → ℕ → Bool
held_at held u = slice_index_or held u false

-- ---- which job is ready

-- the job waits, none comes before it by the rows of the graph, and if it is a start, its unit isn't deactivating
pub record IsReadyIn (g : GraphView) (v : JobsView) (job : Job) : Type 0 where
  pub waits : (state_of_job (jobs_by g.names v.units) job ≡ Some Waiting)
  pub free : (other : Job) → ¬ ComesBefore (Joins g before_bit) (jobs_by g.names v.units) other job
  pub still : job.kind ≡ Start → item_for false g.names v.held job.unit ≡ false

-- the job of the unit with this number
abbrev pub job_named : GraphView → ℕ → JobKind → Job
job_named g u kind = record { unit = name_at g.names u; kind = kind }

-- ---- changes of one unit: past the last, nothing changes

-- with these jobs of the unit with this number
abbrev pub with_jobs_at : JobsView → ℕ → UnitJobs → JobsView
with_jobs_at v u j = record { graph = v.graph; units = slice_set v.units u j; held = v.held }

-- with the unit with this number counting as deactivating, or not
abbrev pub with_held_at : JobsView → ℕ → Bool → JobsView
with_held_at v u deactivating = record { graph = v.graph; units = v.units; held = slice_set v.held u deactivating }

-- without the job of this kind
abbrev pub without_job : JobKind → UnitJobs → UnitJobs
without_job Stop j = jobs None j.start
without_job Start j = jobs j.stop None
