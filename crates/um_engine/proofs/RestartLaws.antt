-- A restart puts a start of its unit, or leaves the state as it is.
use Rattle.std.proofs.Common.{◌≡◌, ◌≢◌, ◌∙◌, ℕ, true, false, List, Contains, Some, None, refl, sym, ap, subst, inl, inr}
use Rattle.um_model.specs.Jobs.{has_job, jobs, jobs_of_unit, no_jobs, with_job}
use Rattle.um_model.specs.Machine.{State, IsBefore, IsHeld, Restarts, puts, isnt_put, with_plan, with_start_alone}
use Rattle.um_model.specs.Plan.{AreFree}
use Rattle.um_model.specs.declared.jobs.JobKind.TheVariants.{Start}
use Rattle.um_model.specs.declared.jobs.JobState.TheVariants.{Waiting}
use Rattle.um_model.specs.declared.jobs.UnitJobs.{UnitJobs}
use Rattle.um_model.proofs.TimersLaws.{same_name}
use Rattle.um_model.proofs.UnitLaws.{no_job_held, not_jobless}
use Rattle.um_graph.specs.Graph.{GraphView, IsNumberOf}
use Rattle.um_jobs.specs.Jobs.{JobsView, with_jobs_at}
use Rattle.um_jobs.specs.Named.{jobs_at}
use Rattle.um_falling.specs.Over.{Serves}
use Rattle.um_falling.proofs.AlongLaws.{pending_apart}
use Rattle.um_engine.specs.Filled.{Tells}
use Rattle.um_engine.specs.Planned.{ArePending}
use Rattle.um_engine.proofs.ReadyLaws.{made_so, made_told}

-- the graph serves where jobs of one of its units are put
pub serves_with : (g : GraphView) (s : State) (unit : List ℕ) (j : UnitJobs) → Serves g s → Contains g.names unit → Serves g (with_plan s unit j)
serves_with g s unit j serves known = record { extra = serves.extra; graph = serves.graph; of = serves.of; held = held_now }
  where
    held_now : (x : List ℕ) → IsHeld (with_plan s unit j) x → Contains g.names x
    held_now x h = elim (same_name x unit) as (λ _. Contains g.names x) [
      | inl same ↦ subst (Contains g.names) (sym same) known
      | inr apart ↦ serves.held x (before h apart)
    ]
      where
        before : IsHeld (with_plan s unit j) x → x ≢ unit → IsHeld s x
        before (inl h) apart = inl h
        before (inr h) apart = inr (λ e. h (pending_apart s.pending unit j x apart ∙ e))

module _ (g : GraphView) (s : State) (unit : List ℕ) (j : UnitJobs) (is : jobs_of_unit s.pending unit ≡ j) where
  -- a job of the unit is pending
  pub restarts_not : has_job j ≡ true → Restarts s unit s
  restarts_not some = isnt_put (λ may. not_jobless j some (sym is ∙ may.0))

  -- none is, and a start is put by number
  module _ (none : has_job j ≡ false) (serves : Serves g s) (known : Contains g.names unit) (v w : JobsView) (n : ℕ) (tells : Tells g s v) (number : IsNumberOf g n unit)
      (put : w ≡ with_jobs_at v n (with_job Start Waiting (jobs_at v.units n))) where
    none_there : jobs_of_unit s.pending unit ≡ no_jobs
    none_there = is ∙ no_job_held j none

    alone : with_plan s unit (jobs_at w.units n) ≡ with_start_alone s unit
    alone = made_so Waiting g s (with_plan s unit (jobs_at w.units n)) v w n unit Start tells number put refl ∙ ap (λ k. with_plan s unit (with_job Start Waiting k)) none_there

    pub serves_alone : Serves g (with_start_alone s unit)
    serves_alone = serves_with g s unit (jobs None (Some Waiting)) serves known

    pub pends_alone : ArePending g (with_start_alone s unit) w.units
    pends_alone = (subst (λ x. Tells g x w) alone (made_told Waiting g s (with_plan s unit (jobs_at w.units n)) v w n unit Start tells number put refl)).jobs

    -- the start is put into the state
    pub restarts_so : AreFree (IsBefore (with_start_alone s unit).loaded) (with_start_alone s unit).pending → (u : State) → u ≡ with_plan s unit (jobs_at w.units n) → Restarts s unit u
    restarts_so free u so = subst (Restarts s unit) (sym (so ∙ alone)) (puts none_there free)

    -- it would close a circle
    pub restarts_none : ¬ AreFree (IsBefore (with_start_alone s unit).loaded) (with_start_alone s unit).pending → Restarts s unit s
    restarts_none closed = isnt_put (λ may. closed may.1)
