use Rattle.std.proofs.Common.{◌∙◌, length, sym, ap}
use Rattle.um_jobs.specs.Named.{jobs_by}
use Rattle.um_state.specs.View.{state_of}
use Rattle.um_engine.proofs.planning.put_plan.Goals as goal

pub put_jobs-requires-clause-long : goal.put_jobs-requires-clause-long
put_jobs-requires-clause-long c =
    ap length (c.as_slice.ensures.units ∙ c.install.ensures.whole (c.requires.long ∙ sym c.in_ok-jobs.ensures.long)) ∙ c.requires.long

pub put_jobs-requires-clause-tidy : goal.put_jobs-requires-clause-tidy
put_jobs-requires-clause-tidy c = c.requires.tidy

pub returns-clause-state : goal.returns-clause-state
returns-clause-state c =
    let w = c.args.work.now in
    c.put_jobs.ensures.state
    ∙ ap (λ jobs. record (state_of w.now) { pending = jobs_by w.graph.names jobs })
    (c.as_slice.ensures.units ∙ c.install.ensures.whole (c.requires.long ∙ sym c.in_ok-jobs.ensures.long))
