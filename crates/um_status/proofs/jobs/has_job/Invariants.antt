use Rattle.std.proofs.Common.{◌≡◌, map, drop}
use Rattle.serde_json.specs.View.{view}
use Rattle.um_status.specs.Status.{has_job}
use Rattle.um_status.proofs.jobs.has_job.Given as goal

-- none of those so far is the unit's
abbrev pub invariant-loop-job : goal.invariant-loop-job
invariant-loop-job l = has_job l.id (map view (drop l.job-index l.jobs)) ≡ has_job l.id (map view l.jobs)
