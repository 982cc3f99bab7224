-- Which job of a unit is ready by the unit's own row: by the pending jobs of its neighbours.
-- Follows systemd.unit(5), "Before=, After=": it is the definition of ready jobs for one unit.
-- The search for the next job and the laws of the counts stand on this file.
use Rattle.std.specs.Prelude.{◌≡◌, ◌<◌, ℕ, Bool, true, false, not, ◌&&◌, ◌||◌, if◌then◌else◌, List, Option, Some, None, is_none, is_some}
use Rattle.std.specs.List.{list_any}
use Rattle.std.specs.Option.{option_map_or}
use Rattle.um_model.specs.Machine.{is_waiting}
use Rattle.um_model.specs.declared.jobs.JobKind.{JobKind}
use Rattle.um_model.specs.declared.jobs.JobKind.TheVariants.{Stop, Start}
use Rattle.um_model.specs.declared.jobs.JobState.{JobState}
use Rattle.um_model.specs.declared.jobs.JobState.TheVariants.{Running, Waiting}
use Rattle.um_model.specs.declared.jobs.UnitJobs.{UnitJobs}
use Rattle.um_graph.specs.Graph.{GraphView, first_after, row_of}
use Rattle.um_graph.specs.Kinds.{has, after_bit, before_bit}
use Rattle.um_graph.specs.declared.row.Neighbour.{Neighbour}
use Rattle.um_jobs.specs.Jobs.{JobsView, held_at}
use Rattle.um_jobs.specs.Named.{jobs_at}

-- the stop of a unit waits for the stop of a neighbour that it is before
abbrev pub holds_stop : List UnitJobs → Neighbour → Bool
holds_stop jobs n = has before_bit n.kinds && is_some (jobs_at jobs n.unit).stop

-- the start of a unit waits for the start of a neighbour that is before it, and for the stop of one that it is ordered with
abbrev pub holds_start : List UnitJobs → Neighbour → Bool
holds_start jobs n =
    (has after_bit n.kinds && is_some (jobs_at jobs n.unit).start)
    || ((has before_bit n.kinds || has after_bit n.kinds) && is_some (jobs_at jobs n.unit).stop)

-- the start of the first neighbour that the unit comes after is pending
abbrev pub awaits_first : GraphView → List UnitJobs → ℕ → Bool
awaits_first g units u = option_map_or (λ first. is_some (jobs_at units first).start) (first_after (row_of g.rows u)) false

-- the stop of the unit waits, and for no other job
abbrev pub is_stop_ready : GraphView → List UnitJobs → ℕ → Bool
is_stop_ready g units u = is_waiting (jobs_at units u).stop && not (list_any (holds_stop units) (row_of g.rows u))

-- the start of the unit waits, for no other job, nor for the unit's own stop, and the unit isn't deactivating
abbrev pub is_start_ready : GraphView → List UnitJobs → List Bool → ℕ → Bool
is_start_ready g units held u =
    is_waiting (jobs_at units u).start
    && (is_none (jobs_at units u).stop && (not (held_at held u) && not (list_any (holds_start units) (row_of g.rows u))))

-- the first job of the unit that is ready
abbrev pub ready_kind : GraphView → JobsView → ℕ → Option JobKind
ready_kind g v u = if is_stop_ready g v.units u then Some Stop else (if is_start_ready g v.units v.held u then Some Start else None)

-- ---- units that needn't be looked at again

-- none of the first n units has a ready job
abbrev pub ArePassed : GraphView → List UnitJobs → List Bool → ℕ → Type 0
ArePassed g units held n = (u : ℕ) → u < n → ready_kind g (record { graph = g; units = units; held = held }) u ≡ None

-- the job is as it was, or runs now
abbrev pub stays_or_runs : Option JobState → Option JobState → Bool
stays_or_runs before (Some Running) = true
stays_or_runs (Some Waiting) (Some Waiting) = true
stays_or_runs None None = true
stays_or_runs before after = false

-- each job of the unit is as it was, or runs now: it comes before the same jobs as it did, and is ready no sooner
abbrev pub binds_as_before : UnitJobs → UnitJobs → Bool
binds_as_before before after = stays_or_runs before.stop after.stop && stays_or_runs before.start after.start
