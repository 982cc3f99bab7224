use Rattle.um_engine.proofs.WorkedLaws.{settling_done, settling_drops, settling_first, settling_more, settling_serves, settling_tells}
use Rattle.um_engine.proofs.settling.begin_all.Goals as goal

pub jobs-init : goal.jobs-init
jobs-init c = settling_first c.args.work.now c.args.jobs.now c.requires.serves c.requires.tells

pub next_job-requires-clause-serves : goal.next_job-requires-clause-serves
next_job-requires-clause-serves c = settling_serves c.args.work.now c.jobs.work c.jobs.jobs c.jobs.invariant

pub next_job-requires-clause-tells : goal.next_job-requires-clause-tells
next_job-requires-clause-tells c = settling_tells c.args.work.now c.jobs.work c.jobs.jobs c.jobs.invariant

pub jobs-smaller : goal.jobs-smaller
jobs-smaller c =
    let next = rw c.in-Some.is at c.in_ok-unit.ensures.next in
    let within = rw c.in-Some.is at c.in_ok-unit.ensures.within in
    settling_drops c.args.work.now c.jobs.work c.jobs.jobs c.next_job.new.jobs c.jobs.invariant c.in_ok-unit.ensures.tells c.in-Some.unit c.in-Some.kind within next
    c.begin_job.new.work c.happen.new.work c.begin_job.ensures.keeps c.in_ok-spreads.ensures.keeps c.begin_job.ensures.begun c.in_ok-spreads.ensures.waits

pub jobs-preserved : goal.jobs-preserved
jobs-preserved c =
    let next = rw c.in-Some.is at c.in_ok-unit.ensures.next in
    let within = rw c.in-Some.is at c.in_ok-unit.ensures.within in
    settling_more c.args.work.now c.jobs.work c.jobs.jobs c.next_job.new.jobs c.jobs.invariant c.in_ok-unit.ensures.tells c.in-Some.unit c.in-Some.kind within next
    c.begin_job.new.work c.happen.new.work c.begin_job.ensures.keeps c.in_ok-spreads.ensures.keeps c.begin_job.ensures.begun
    c.begin_job.new.jobs c.tell_anew.new.jobs c.begins.result c.in_ok-spreads.spreads c.begins.ensures c.begin_job.ensures.actions c.begin_job.ensures.tells
    c.in_ok-spreads.ensures.happens c.in_ok-spreads.ensures.others c.tell_anew.ensures

pub returns-clause-settles : goal.returns-clause-settles
returns-clause-settles c =
    let still = rw c.in_default.is at c.in_ok-unit.ensures.next in
    settling_done c.args.work.now c.jobs.work c.jobs.jobs c.jobs.invariant still

pub returns-clause-keeps : goal.returns-clause-keeps
returns-clause-keeps c = c.jobs.invariant.keeps
