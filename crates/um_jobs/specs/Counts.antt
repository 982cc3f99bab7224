-- The number of neighbours' pending jobs before the stop and before the start of a unit, and which units have a ready job by these counts.
-- Follows the definition of ready jobs: a job that waits is ready if no job is counted before it.
-- The counts that `Jobs` keeps stand on this file.
use Rattle.std.specs.Prelude.{◌≡◌, ℕ, ◌+◌, ◌<◌, ◌≤◌, ◌^◌, Bool, true, false, not, ◌&&◌, ◌||◌, ◌==◌, if◌then◌else◌, List, [], length, is_none, is_some, get_or}
use Rattle.std.specs.List.{list_any, sum_by}
use Rattle.um_model.specs.Machine.{is_waiting}
use Rattle.um_model.specs.declared.jobs.UnitJobs.{UnitJobs}
use Rattle.um_graph.specs.Graph.{GraphView, IsGraph, row_of}
use Rattle.um_graph.specs.Kinds.{has, after_bit, before_bit}
use Rattle.um_graph.specs.declared.row.Neighbour.{Neighbour}
use Rattle.um_jobs.specs.Jobs.{held_at}
use Rattle.um_jobs.specs.Named.{jobs_at}
use Rattle.um_jobs.specs.declared.counts.Blockers.{Blockers}

-- ---- the counted jobs

abbrev pub one_if : Bool → ℕ
one_if true = 1
one_if false = 0

-- a way to count the pending jobs of a unit, by whether another one is before it, and after it
abbrev pub Counting : Type 0
Counting = UnitJobs → Bool → Bool → ℕ

-- those that come before the stop of that other one
abbrev pub before_stop : Counting
before_stop jobs is_before is_after = one_if (is_before && is_some jobs.stop)

-- those that come before its start
abbrev pub before_start : Counting
before_start jobs is_before is_after = one_if (is_after && is_some jobs.start) + one_if ((is_before || is_after) && is_some jobs.stop)

-- the jobs of a neighbour in a row, counted before those of the unit whose row it is
abbrev pub ahead : Counting → UnitJobs → Neighbour → ℕ
ahead counting jobs n = counting jobs (has before_bit n.kinds) (has after_bit n.kinds)

-- the jobs of the unit whose row it is, counted before those of a neighbour in it
abbrev pub behind : Counting → UnitJobs → Neighbour → ℕ
behind counting jobs n = counting jobs (has after_bit n.kinds) (has before_bit n.kinds)

-- the pending jobs of all its neighbours, counted before those of a unit
abbrev pub count_before : Counting → GraphView → List UnitJobs → ℕ → ℕ
count_before counting g units u = sum_by (λ n. ahead counting (jobs_at units n.unit) n) (row_of g.rows u)

-- ---- the counts that are kept

-- the counts of a unit; 0 past the last
abbrev pub blockers_at : List Blockers → ℕ → Blockers
blockers_at counts u = get_or counts u (record { stop = 0; start = 0 })

abbrev pub stop_at : List Blockers → ℕ → ℕ
stop_at counts u = (blockers_at counts u).stop

abbrev pub start_at : List Blockers → ℕ → ℕ
start_at counts u = (blockers_at counts u).start

-- the stop of the unit waits, and nothing is counted before it
abbrev pub is_stop_free : List UnitJobs → List Blockers → ℕ → Bool
is_stop_free units counts u = is_waiting (jobs_at units u).stop && (stop_at counts u == 0)

-- the start of the unit waits, nothing is counted before it, the unit's own stop isn't pending, and the unit doesn't count as deactivating
abbrev pub is_start_free : List UnitJobs → List Bool → List Blockers → ℕ → Bool
is_start_free units held counts u =
    is_waiting (jobs_at units u).start && (is_none (jobs_at units u).stop && (not (held_at held u) && (start_at counts u == 0)))

-- a job of the unit is ready
abbrev pub is_free : List UnitJobs → List Bool → List Blockers → ℕ → Bool
is_free units held counts u = is_stop_free units counts u || is_start_free units held counts u

-- the counts are those of the pending jobs
pub record IsCounted (g : GraphView) (units : List UnitJobs) (counts : List Blockers) : Type 0 where
  pub graph : IsGraph g
  pub units_long : length units ≡ length g.names
  pub counts_long : length counts ≡ length g.names
  pub stops : (u : ℕ) → stop_at counts u ≡ count_before before_stop g units u
  pub starts : (u : ℕ) → start_at counts u ≡ count_before before_start g units u

-- they are, and exactly the units that have a ready job by them are in the set
pub record IsKept (g : GraphView) (units : List UnitJobs) (held : List Bool) (counts : List Blockers) (ready : List Bool) : Type 0 where
  pub graph : IsGraph g
  pub units_long : length units ≡ length g.names
  pub held_long : length held ≡ length g.names
  pub counts_long : length counts ≡ length g.names
  pub ready_long : length ready ≡ length g.names
  pub stops : (u : ℕ) → stop_at counts u ≡ count_before before_stop g units u
  pub starts : (u : ℕ) → start_at counts u ≡ count_before before_start g units u
  pub exact : (u : ℕ) → get_or ready u false ≡ is_free units held counts u

-- it is a graph, and for each of its units there are jobs, and a mark whether it counts as deactivating
pub record IsTable (g : GraphView) (units : List UnitJobs) (held : List Bool) : Type 0 where
  pub graph : IsGraph g
  pub units_long : length units ≡ length g.names
  pub held_long : length held ≡ length g.names

-- ---- the effect on the counts of a change of one unit's jobs

-- both hold, or neither does
abbrev pub is_alike : Bool → Bool → Bool
is_alike true b = b
is_alike false b = not b

-- other jobs of the unit are pending than before: a job that begins was pending already
abbrev pub changes_pending : UnitJobs → UnitJobs → Bool
changes_pending old new = not (is_alike (is_some old.stop) (is_some new.stop) && is_alike (is_some old.start) (is_some new.start))

-- the neighbours in the unit's row whose counts change then
abbrev pub touched : List Neighbour → UnitJobs → UnitJobs → List Neighbour
touched row old new = if changes_pending old new then row else []

-- the unit stands in the row
abbrev pub is_listed : List Neighbour → ℕ → Bool
is_listed row u = list_any (λ (n : Neighbour). n.unit == u) row

-- the part of one unit in the counts of a row
abbrev pub sum_of : (Neighbour → ℕ) → ℕ → List Neighbour → ℕ
sum_of count u row = sum_by (λ (n : Neighbour). if n.unit == u then count n else 0) row

-- for each neighbour, the new jobs of the unit whose row it is are counted in place of the old ones
abbrev pub IsCountedAnew : Counting → (ℕ → ℕ) → (ℕ → ℕ) → UnitJobs → UnitJobs → List Neighbour → Type 0
IsCountedAnew counting before after old new row = (u : ℕ) → after u + sum_of (behind counting old) u row ≡ before u + sum_of (behind counting new) u row

-- the old ones were counted, and there is room for the new ones
pub record MayCountAnew (counting : Counting) (counts : ℕ → ℕ) (old new : UnitJobs) (row : List Neighbour) : Type 0 where
  pub least : (u : ℕ) → sum_of (behind counting old) u row ≤ counts u
  pub most : (u : ℕ) → counts u + sum_of (behind counting new) u row < 2 ^ 32
