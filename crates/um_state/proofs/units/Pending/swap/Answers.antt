use Rattle.std.proofs.Common.{sym, arith}
use Rattle.um_model.specs.Jobs.{no_jobs, with_jobs}
use Rattle.um_state.proofs.PutLaws.{jobs_put_well}
use Rattle.um_state.proofs.TableLaws.{swap_held, swap_back, swap_past}
use Rattle.um_state.proofs.units.Pending.swap.Goals as goal

pub returns-then-i-len-clause-held : goal.returns-then-i-len-clause-held
returns-then-i-len-clause-held c =
    swap_held no_jobs with_jobs jobs_put_well c.args.self.now c.self.inside.names c.self.inside.jobs.items c.self.view_is c.self.invariant.1
    c.args.i c.args.jobs.now c.swap.new.x (omega arith) (omega arith) c.swap.ensures.x_after

pub returns-then-i-len-clause-back : goal.returns-then-i-len-clause-back
returns-then-i-len-clause-back c =
    swap_back no_jobs with_jobs jobs_put_well c.args.self.now c.self.inside.names c.self.inside.jobs.items c.self.view_is c.self.invariant.1
    c.args.i c.swap.new.x c.swap.new.y c.index_mut.result.now (omega arith) (omega arith) c.swap.ensures.y_after c.index_mut.ensures.value

pub returns-else-i-len-clause-held : goal.returns-else-i-len-clause-held
returns-else-i-len-clause-held c =
    sym (swap_past no_jobs with_jobs jobs_put_well c.args.self.now c.self.inside.names c.self.inside.jobs.items c.self.view_is c.self.invariant.1
    c.args.i c.args.jobs.now (omega arith) (omega arith))

pub returns-else-i-len-clause-back : goal.returns-else-i-len-clause-back
returns-else-i-len-clause-back c =
    swap_past no_jobs with_jobs jobs_put_well c.args.self.now c.self.inside.names c.self.inside.jobs.items c.self.view_is c.self.invariant.1
    c.args.i c.args.jobs.now (omega arith) (omega arith)
