use Rattle.std.proofs.Common.{◌≡◌, length, map}
use Rattle.um_model.specs.StateSpellings.{jobs_ascend}
use Rattle.um_state.specs.Shown.{job_of}
use Rattle.um_state.proofs.job_bytes.ascend.Given as goal

-- whether those that are left ascend is whether all do
abbrev pub invariant-loop-rest : goal.invariant-loop-rest
invariant-loop-rest l = jobs_ascend (map job_of l.rest) ≡ jobs_ascend (map job_of l.jobs)

abbrev pub decreases-loop-rest : goal.decreases-loop-rest
decreases-loop-rest l = length l.rest
