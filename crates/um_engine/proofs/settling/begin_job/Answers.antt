use Rattle.std.proofs.Common.{◌≡◌, ◌∙◌, ap}
use Rattle.um_model.specs.Jobs.{with_jobs}
use Rattle.um_model.specs.declared.jobs.JobState.TheVariants.{Running}
use Rattle.um_jobs.specs.Named.{jobs_at}
use Rattle.um_state.specs.View.{state_of}
use Rattle.um_engine.proofs.ReadyLaws.{made_so, made_told}
use Rattle.um_engine.proofs.settling.begin_job.Goals as goal

pub returns-clause-begun : goal.returns-clause-begun
returns-clause-begun c = λ name number tells.
    let w = c.args.work.now in
    let s = state_of w.now in
    let put : state_of c.set_jobs.new.self.now ≡ record s { pending = with_jobs s.pending name (jobs_at c.begin.new.self.units c.args.unit) } =
    c.set_jobs.ensures.state name number ∙ ap (λ jobs. record s { pending = with_jobs s.pending name jobs }) c.get.ensures in
    made_so Running w.graph s (state_of c.set_jobs.new.self.now) c.args.jobs.now c.begin.new.self c.args.unit name c.args.kind tells number c.begin.ensures put

pub returns-clause-tells : goal.returns-clause-tells
returns-clause-tells c = λ name number tells.
    let w = c.args.work.now in
    let s = state_of w.now in
    let put : state_of c.set_jobs.new.self.now ≡ record s { pending = with_jobs s.pending name (jobs_at c.begin.new.self.units c.args.unit) } =
    c.set_jobs.ensures.state name number ∙ ap (λ jobs. record s { pending = with_jobs s.pending name jobs }) c.get.ensures in
    made_told Running w.graph s (state_of c.set_jobs.new.self.now) c.args.jobs.now c.begin.new.self c.args.unit name c.args.kind tells number c.begin.ensures put
