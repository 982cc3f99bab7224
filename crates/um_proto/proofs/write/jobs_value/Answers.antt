use Rattle.um_proto.specs.Written.{job_data}
use Rattle.um_state.specs.View.{job_of}
use Rattle.um_proto.proofs.Lists.{value_more}
use Rattle.um_proto.proofs.write.jobs_value.Goals as goal

pub loop-job-preserved : goal.loop-job-preserved
loop-job-preserved c =
    value_more job_data job_of c.args.jobs.now c.loop-job.job-index c.job-item.result c.loop-job.list.items c.push.new.self.items c.in_ok-job_value.field-0 c.loop-job-test.true c.job-item.is c.loop-job.invariant c.in_ok-job_value.ensures c.in_ok-push.ensures.items
