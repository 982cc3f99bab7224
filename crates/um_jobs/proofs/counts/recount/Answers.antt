use Rattle.std.proofs.Common.{◌≡◌, ◌<◌, ◌∙◌, All, length, sym, ap, subst}
use Rattle.um_graph.specs.Graph.{row_of}
use Rattle.um_graph.specs.declared.row.Neighbour.{Neighbour}
use Rattle.um_jobs.specs.Counts.{IsCountedAnew, MayCountAnew, before_start, before_stop, start_at, stop_at, touched}
use Rattle.um_jobs.specs.Named.{jobs_at}
use Rattle.um_jobs.proofs.KeptLaws as laws
use Rattle.um_jobs.proofs.counts.recount.Goals as goal

pub count_anew-requires-clause-within : goal.count_anew-requires-clause-within
count_anew-requires-clause-within c =
    let row : touched (row_of c.args.graph.now.rows c.args.unit) (jobs_at c.args.units.now c.args.unit) c.args.jobs ≡ c.touched-row.result.now
    = ap (λ r. touched r (jobs_at c.args.units.now c.args.unit) c.args.jobs) (sym c.neighbours.ensures) ∙ sym c.touched-row.ensures in
    subst (All (λ (m : Neighbour). m.unit < length c.args.counts.now)) row
    (laws.row_within c.args.graph.now c.args.units.now c.args.counts.now c.requires.counted c.args.unit c.requires.unit c.args.jobs (length c.args.counts.now) c.requires.counted.counts_long)

pub count_anew-requires-clause-stops : goal.count_anew-requires-clause-stops
count_anew-requires-clause-stops c =
    let old = jobs_at c.args.units.now c.args.unit in
    let row : touched (row_of c.args.graph.now.rows c.args.unit) old c.args.jobs ≡ c.touched-row.result.now
    = ap (λ r. touched r old c.args.jobs) (sym c.neighbours.ensures) ∙ sym c.touched-row.ensures in
    subst (MayCountAnew before_stop (stop_at c.args.counts.now) old c.args.jobs) row
    (laws.may_stops c.args.graph.now c.args.units.now c.args.counts.now c.requires.counted c.args.unit c.requires.unit c.args.jobs)

pub count_anew-requires-clause-starts : goal.count_anew-requires-clause-starts
count_anew-requires-clause-starts c =
    let old = jobs_at c.args.units.now c.args.unit in
    let row : touched (row_of c.args.graph.now.rows c.args.unit) old c.args.jobs ≡ c.touched-row.result.now
    = ap (λ r. touched r old c.args.jobs) (sym c.neighbours.ensures) ∙ sym c.touched-row.ensures in
    subst (MayCountAnew before_start (start_at c.args.counts.now) old c.args.jobs) row
    (laws.may_starts c.args.graph.now c.args.units.now c.args.counts.now c.requires.counted c.args.unit c.requires.unit c.args.jobs)

pub returns-clause-row : goal.returns-clause-row
returns-clause-row c = c.touched-row.ensures ∙ ap (λ r. touched r (jobs_at c.args.units.now c.args.unit) c.args.jobs) c.neighbours.ensures

pub returns-clause-counted : goal.returns-clause-counted
returns-clause-counted c =
    let old = jobs_at c.args.units.now c.args.unit in
    let counts = c.count_anew.new.counts in
    let row : c.touched-row.result.now ≡ touched (row_of c.args.graph.now.rows c.args.unit) old c.args.jobs
    = c.touched-row.ensures ∙ ap (λ r. touched r old c.args.jobs) c.neighbours.ensures in
    laws.recounted c.args.graph.now c.args.units.now c.args.counts.now c.requires.counted c.args.unit c.requires.unit c.args.jobs counts c.count_anew.auto.counts
    (subst (IsCountedAnew before_stop (stop_at c.args.counts.now) (stop_at counts) old c.args.jobs) row c.count_anew.ensures.stops)
    (subst (IsCountedAnew before_start (start_at c.args.counts.now) (start_at counts) old c.args.jobs) row c.count_anew.ensures.starts)
