use Rattle.std.proofs.Common.{arith}
use Rattle.um_model.specs.Jobs.{no_jobs, with_jobs}
use Rattle.um_state.proofs.PutLaws.{jobs_put_well}
use Rattle.um_state.proofs.TableLaws.{tidy_table, told_at, told_none}
use Rattle.um_state.proofs.units.Pending.get.Goals as goal

pub returns-in-Some-clause-tidy : goal.returns-in-Some-clause-tidy
returns-in-Some-clause-tidy c = tidy_table no_jobs with_jobs jobs_put_well c.args.self.now c.self.inside.names c.self.inside.jobs.items c.self.view_is c.self.invariant.1

pub returns-in-None-clause-tidy : goal.returns-in-None-clause-tidy
returns-in-None-clause-tidy c = tidy_table no_jobs with_jobs jobs_put_well c.args.self.now c.self.inside.names c.self.inside.jobs.items c.self.view_is c.self.invariant.1

pub returns-in-None-clause-jobs : goal.returns-in-None-clause-jobs
returns-in-None-clause-jobs c =
    told_none no_jobs with_jobs jobs_put_well c.args.self.now c.self.inside.names c.self.inside.jobs.items c.self.view_is c.self.invariant.1
    c.args.unit.now c.in-None.ensures.number

pub returns-in-Some-clause-jobs : goal.returns-in-Some-clause-jobs
returns-in-Some-clause-jobs c =
    let n = c.in-Some.ensures.number in
    told_at no_jobs with_jobs jobs_put_well c.args.self.now c.self.inside.names c.self.inside.jobs.items c.self.view_is c.self.invariant.1
    c.in-Some.i c.args.unit.now c.index.result.now n.0 (omega (arith, n.0)) n.1 c.index.ensures
