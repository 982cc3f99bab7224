-- When the job table, by number, agrees with the state's pending jobs and with its deactivating units.
-- Follows no manual page: it turns names into numbers.
-- Settling stands on this file.
use Rattle.std.specs.Prelude.{◌≡◌, ◌⊎◌, ◌↔◌, ℕ, Bool, true, false, List, Contains, length}
use Rattle.um_model.specs.Jobs.{BeginsNext, Job, jobs_of_unit}
use Rattle.um_model.specs.Machine.{State, IsBefore, IsHeld}
use Rattle.um_model.specs.Service.{active_state_of, state_of_unit}
use Rattle.um_model.specs.declared.jobs.JobKind.{JobKind}
use Rattle.um_model.specs.declared.jobs.JobKind.TheVariants.{Stop, Start}
use Rattle.um_model.specs.declared.service.ActiveState.{ActiveState}
use Rattle.um_model.specs.declared.service.ActiveState.TheVariants.{Deactivating}
use Rattle.um_graph.specs.Graph.{GraphView, IsGraph, IsNumberOf}
use Rattle.um_jobs.specs.Jobs.{JobsView, held_at, with_held_at, with_jobs_at}
use Rattle.um_jobs.specs.Named.{jobs_at}

abbrev pub is_deactivating : ActiveState → Bool
is_deactivating Deactivating = true
is_deactivating other = false

-- the unit counts as deactivating
abbrev pub deactivates : State → List ℕ → Bool
deactivates s unit = is_deactivating (active_state_of (state_of_unit s.units unit).sub)

-- a job of this kind waits while its unit counts as deactivating: a start does
abbrev pub is_held_back : State → List ℕ → JobKind → Bool
is_held_back s unit Stop = false
is_held_back s unit Start = deactivates s unit

-- the table with the state's entry for the unit of this number and name
abbrev pub told_of : State → ℕ → List ℕ → JobsView → JobsView
told_of s i unit v = with_held_at (with_jobs_at v i (jobs_of_unit s.pending unit)) i (deactivates s unit)

-- the table has the state's pending jobs by the graph's numbers; it may mark a unit as deactivating, but only one that is
pub record Tells (g : GraphView) (s : State) (v : JobsView) : Type 0 where
  pub graph : IsGraph g
  pub same : v.graph ≡ g
  pub long : length v.units ≡ length g.names
  pub wide : length v.held ≡ length g.names
  pub jobs : (i : ℕ) (unit : List ℕ) → IsNumberOf g i unit → jobs_at v.units i ≡ jobs_of_unit s.pending unit
  pub held : (i : ℕ) (unit : List ℕ) → IsNumberOf g i unit → held_at v.held i ≡ true → deactivates s unit ≡ true

-- the job is the one of the state that begins next
abbrev pub Begins : State → Job → Type 0
Begins s job = BeginsNext (IsBefore s.loaded) s.units s.pending job

-- the names are those from before, and the unit's name if the state holds anything of it
abbrev pub AddsHeld : State → List ℕ → List (List ℕ) → List (List ℕ) → Type 0
AddsHeld s name before after = (x : List ℕ) → Contains after x ↔ (Contains before x ⊎ ((x ≡ name) × IsHeld s name))
