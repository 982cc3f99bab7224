use Rattle.std.proofs.Common.{Some, drop, map, sym, ap, ◌∙◌}
use Rattle.um_model.proofs.BytesLaws.{at_some}
use Rattle.um_model.specs.StateSpellings.{jobs_ascend}
use Rattle.um_state.proofs.JobsRead.{jobs_here, jobs_unordered}
use Rattle.um_state.specs.Shown.{job_of}
use Rattle.um_state.proofs.job_bytes.PendingCanon.get.Goals as goal

pub returns-clause-read : goal.returns-clause-read
returns-clause-read c =
    let bytes = c.args.bytes.now in
    let jobs = map job_of c.in-Some.jobs.items in
    let read = at_some _ _ _ _ c.in-Some.jobs c.in-Some.n c.in_ok-jobs.ensures.read c.in-Some.is in
    let ordered = ap (λ l. jobs_ascend (map job_of l)) (sym c.as_slice.ensures.value) ∙ (sym c.ascend.ensures ∙ c.if-not-ascend.false) in
    jobs_here bytes jobs _ read ordered ∙ ap (λ p. Some (p, drop c.in-Some.n bytes)) (sym c.in_ok-pending.ensures)

pub returns-then-not-ascend-clause-read : goal.returns-then-not-ascend-clause-read
returns-then-not-ascend-clause-read c =
    let bytes = c.args.bytes.now in
    let jobs = map job_of c.in-Some.jobs.items in
    let read = at_some _ _ _ _ c.in-Some.jobs c.in-Some.n c.in_ok-jobs.ensures.read c.in-Some.is in
    let ordered = ap (λ l. jobs_ascend (map job_of l)) (sym c.as_slice.ensures.value) ∙ (sym c.ascend.ensures ∙ c.if-not-ascend.true) in
    jobs_unordered bytes jobs _ read ordered
