use Rattle.std.proofs.Common.{◌≡◌, [], fold, map, take, string_bytes}
use Rattle.serde_json.specs.View.{view}
use Rattle.um_status.specs.Status.{with_job}
use Rattle.um_status.proofs.jobs.jobs_words.Given as goal

-- the jobs so far in words
abbrev pub invariant-loop-job : goal.invariant-loop-job
invariant-loop-job l = string_bytes l.text ≡ fold (with_job l.id) [] (map view (take l.job-index l.jobs))
