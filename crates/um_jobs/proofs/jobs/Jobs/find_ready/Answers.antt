use Rattle.std.proofs.Common.{◌<◌, length, sym, subst, arith}
use Rattle.um_model.specs.Jobs.{IsToldBefore, Job}
use Rattle.um_model.specs.Least.{IsLeast}
use Rattle.um_jobs.specs.Jobs.{IsReadyIn, JobsView, job_named}
use Rattle.um_jobs.specs.RowReady.{ArePassed}
use Rattle.um_jobs.proofs.ReadyLaws.{least_passes, none_passes}
use Rattle.um_jobs.proofs.jobs.Jobs.find_ready.Goals as goal
use Rattle.um_jobs.proofs.jobs.Jobs.find_ready.Goals.{in-Some, in-None}

pub invariant_of-self : goal.invariant_of-self
invariant_of-self c =
    let s = c.self.inside in
    let g = s.graph.now in
    let v : JobsView = record { graph = g; units = s.units.items; held = s.held.items } in
    let table = c.self.invariant.0 in (
      table,
      c.self.invariant.1,
      elim c.match-found.branch as (λ _. ArePassed g v.units v.held c.match-found.self) [
        | in-Some w ↦
            let least = rw w.in-Some.is at c.ready-found.ensures.least in
            let within = rw w.in-Some.is at c.ready-found.ensures.within in
            let here = subst (λ (x : JobsView). IsLeast IsToldBefore (IsReadyIn x.graph x) (job_named x.graph w.in-Some.unit w.in-Some._kind)) (sym c.self.view_is) least in
            let low = subst (λ (x : JobsView). w.in-Some.unit < length x.graph.names) (sym c.self.view_is) within in
            subst (ArePassed g v.units v.held) (sym w.self-is) (least_passes g table.graph v w.in-Some.unit low w.in-Some._kind here)
        | in-None w ↦
            let none = rw w.in-None.is at c.ready-found.ensures.least in
            let here = subst (λ (x : JobsView). (job : Job) → ¬ IsReadyIn x.graph x job) (sym c.self.view_is) none in
            λ u below. none_passes g table.graph v here u (omega (arith, below, w.self-is, w.len-self-inside.ensures, table.units_long))
      ],
    )
