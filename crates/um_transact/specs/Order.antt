-- The order of the pending jobs, over numbers: of each unit its stop job, and then its start job.
-- Follows the definition of which job comes before which: it states it by numbers.
-- The check for cycles stands on this file.
use Rattle.std.specs.Prelude.{ℕ, ◌+◌, ◌*◌, ◌/◌, ◌%◌, ◌==◌, ◌<◌, ◌&&◌, if◌then◌else◌, List, [], ◌∷◌, ◌++◌, Contains, is_some}
use Rattle.std.specs.List.{flat_map}
use Rattle.um_model.specs.Jobs.{job_of}
use Rattle.um_model.specs.Machine.{is_waiting}
use Rattle.um_model.specs.declared.jobs.JobKind.{JobKind}
use Rattle.um_model.specs.declared.jobs.JobKind.TheVariants.{Stop, Start}
use Rattle.um_model.specs.declared.jobs.UnitJobs.{UnitJobs}
use Rattle.um_graph.specs.Graph.{row_of}
use Rattle.um_graph.specs.Kinds.{has, before_bit}
use Rattle.um_graph.specs.declared.row.Neighbour.{Neighbour}
use Rattle.um_jobs.specs.Named.{jobs_at}

-- a job of the unit with a number
abbrev pub Node : Type 0
Node = JobKind × ℕ

abbrev pub number_of : Node → ℕ
number_of (Stop, u) = u * 2
number_of (Start, u) = u * 2 + 1

abbrev pub node_at : ℕ → Node
node_at k = if k % 2 == 0 then (Stop, k / 2) else (Start, k / 2)

-- the first is before the second, if it is pending and the second waits
abbrev pub pair_of : List UnitJobs → Node → Node → List (ℕ × ℕ)
pair_of plan m n = if is_some (job_of m.0 (jobs_at plan m.1)) && is_waiting (job_of n.0 (jobs_at plan n.1)) then (number_of m, number_of n) ∷ [] else []

-- x is before y
abbrev pub pairs_before : List UnitJobs → ℕ → ℕ → List (ℕ × ℕ)
pairs_before plan x y =
    pair_of plan (Start, x) (Start, y) ++ (pair_of plan (Stop, y) (Stop, x) ++ (pair_of plan (Stop, x) (Start, y) ++ pair_of plan (Stop, y) (Start, x)))

abbrev pub pairs_by : List UnitJobs → ℕ → Neighbour → List (ℕ × ℕ)
pairs_by plan x n = if has before_bit n.kinds then pairs_before plan x n.unit else []

-- the pairs that stand in the row of a unit
abbrev pub pairs_in : List UnitJobs → ℕ → List Neighbour → List (ℕ × ℕ)
pairs_in plan x ns = pair_of plan (Stop, x) (Start, x) ++ flat_map (pairs_by plan x) ns

-- the pairs of the rows of the first n units
abbrev pub ArePairs : List (List Neighbour) → List UnitJobs → ℕ → List (ℕ × ℕ) → Type 0
ArePairs rows plan n pairs = (e : ℕ × ℕ) → ((Contains pairs e → (x : ℕ) × (x < n) × Contains (pairs_in plan x (row_of rows x)) e)
    × ((x : ℕ) → x < n → Contains (pairs_in plan x (row_of rows x)) e → Contains pairs e))
