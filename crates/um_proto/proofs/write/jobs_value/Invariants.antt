use Rattle.std.proofs.Common.{◌≡◌, map, take}
use Rattle.serde_json.specs.View.{view}
use Rattle.um_proto.specs.Written.{job_data}
use Rattle.um_state.specs.View.{job_of}
use Rattle.um_proto.proofs.write.jobs_value.Given as goal

abbrev pub invariant-loop-job : goal.invariant-loop-job
invariant-loop-job l = map view l.list.items ≡ map job_data (map job_of (take l.job-index l.jobs))
