use Rattle.std.proofs.Common.{map, ap, sym, ◌∙◌}
use Rattle.std.proofs.lemmas.List.{map_push}
use Rattle.um_laws.proofs.NameMaps.{seen, seen_nothing}
use Rattle.um_model.specs.Jobs.{with_jobs, with_job}
use Rattle.um_state.specs.Shown.{job_of}
use Rattle.um_state.proofs.JobLists.{with_list, all_of_list, last_first, set_is}
use Rattle.um_state.proofs.job_bytes.map_of.Goals as goal

pub loop-job-init : goal.loop-job-init
loop-job-init c = ap (with_list (map job_of c.args.jobs.items)) (seen_nothing c.new-entries.result c.new-entries.ensures.empty) ∙ all_of_list (map job_of c.args.jobs.items)

pub loop-job-preserved : goal.loop-job-preserved
loop-job-preserved c =
    let j = job_of c.in-Some.job in
    let pending = seen c.loop-job.entries in
    let left = c.pop.new.self.items in
    let told = ap (map job_of) c.in-Some.ensures.items ∙ map_push job_of left c.in-Some.job in
    let put = c.in_ok-hold_jobs.ensures.ok ∙ (ap (with_jobs pending j.unit) (c.with_job.ensures ∙ ap (with_job j.kind j.state) c.jobs_in-held.ensures) ∙ set_is j pending) in
    ap (with_list (map job_of left)) put
    ∙ (sym (last_first (map job_of left) j pending) ∙ (ap (λ l. with_list l pending) (sym told) ∙ c.loop-job.invariant))
