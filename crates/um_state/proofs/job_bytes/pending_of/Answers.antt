use Rattle.std.proofs.Common.{◌∙◌, map, subst, sym}
use Rattle.um_model.specs.Jobs.{AreTidyJobs}
use Rattle.um_state.specs.Shown.{job_of}
use Rattle.um_state.proofs.JobLists.{tidy_list}
use Rattle.um_state.proofs.Results.{if_ok_more}
use Rattle.um_state.proofs.job_bytes.pending_of.Goals as goal

pub returns : goal.returns
returns c =
    if_ok_more c.of_map.result (λ pending held. held (subst AreTidyJobs (sym c.in_ok-entries.ensures) (tidy_list (map job_of c.args.jobs.items))) ∙ c.in_ok-entries.ensures) c.of_map.ensures
