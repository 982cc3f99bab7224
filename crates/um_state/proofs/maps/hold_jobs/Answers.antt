use Rattle.std.proofs.Common.{◌∙◌, ap}
use Rattle.std.specs.FinMap as map
use Rattle.um_laws.proofs.NameMaps.{seen, seen_inserted, seen_removed}
use Rattle.um_state.proofs.maps.hold_jobs.Goals as goal

pub returns-in_ok-insert-clause-ok : goal.returns-in_ok-insert-clause-ok
returns-in_ok-insert-clause-ok c =
    rw (← c.has_job.ensures, c.if-has_job.true)
    (seen_inserted c.args.entries.now c.insert.new.self c.in_ok-copy.field-0 c.args.jobs c.in_ok-insert.ensures.updates
    ∙ ap (λ n. map.insert (seen c.args.entries.now) n c.args.jobs) c.in_ok-copy.ensures)

pub returns-else-has_job-clause-ok : goal.returns-else-has_job-clause-ok
returns-else-has_job-clause-ok c =
    rw (← c.has_job.ensures, c.if-has_job.false) (seen_removed c.args.entries.now c.remove.new.self c.args.unit.now c.remove.ensures.updates)
