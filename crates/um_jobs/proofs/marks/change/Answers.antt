use Rattle.std.proofs.Common.{◌≡◌, ◌<◌, ◌==◌, ◌∙◌, ℕ, false, cond, All, List, length, get_or, sym, ap, subst}
use Rattle.um_graph.specs.Graph.{row_of}
use Rattle.um_graph.specs.declared.row.Neighbour.{Neighbour}
use Rattle.um_model.specs.declared.jobs.UnitJobs.{UnitJobs}
use Rattle.um_jobs.specs.Counts.{IsCounted, IsCountedAnew, IsKept, before_start, before_stop, is_free, is_listed, start_at, stop_at, touched}
use Rattle.um_jobs.specs.Named.{jobs_at}
use Rattle.um_jobs.proofs.KeptLaws as laws
use Rattle.um_jobs.proofs.marks.change.Goals as goal

pub recount-row-requires-clause-counted : goal.recount-row-requires-clause-counted
recount-row-requires-clause-counted c = laws.counted_of c.args.graph.now c.args.units.now c.args.held.now c.args.counts.now c.args.ready.now c.requires.kept

pub mark_row-requires-clause-ready : goal.mark_row-requires-clause-ready
mark_row-requires-clause-ready c =
    let counted = laws.counted_of c.args.graph.now c.args.units.now c.args.held.now c.args.counts.now c.args.ready.now c.requires.kept in
    subst (All (λ (m : Neighbour). m.unit < length c.args.ready.now)) (sym c.recount-row.ensures.row)
    (laws.row_within c.args.graph.now c.args.units.now c.args.counts.now counted c.args.unit c.requires.unit c.args.jobs (length c.args.ready.now) c.requires.kept.ready_long)

pub returns-clause-kept : goal.returns-clause-kept
returns-clause-kept c =
    let graph = c.args.graph.now in
    let units = c.args.units.now in
    let held = c.args.held.now in
    let old = jobs_at units c.args.unit in
    let is = c.recount-row.ensures in
    let later = c.recount-row.new.units in
    let counts = c.recount-row.new.counts in
    let ready = c.mark.new.ready in
    let Marked : List UnitJobs → List Neighbour → Type 0 = λ us r. (u : ℕ) → get_or ready u false
    ≡ cond (u == c.args.unit) (is_free us held counts u) (cond (is_listed r u) (is_free us held counts u) (get_or c.args.ready.now u false)) in
    let marked : Marked later c.recount-row.result.now
    = λ u. c.mark.ensures.each u ∙ ap (λ b. cond (u == c.args.unit) (is_free later held counts u) b) (c.mark_row.ensures.each u) in
    subst (λ us. IsKept graph us held counts ready) (sym is.units)
    (laws.set_kept graph units held c.args.counts.now c.args.ready.now c.requires.kept c.args.unit c.requires.unit c.args.jobs counts ready
    (subst (IsCountedAnew before_stop (stop_at c.args.counts.now) (stop_at counts) old c.args.jobs) is.row is.stops)
    (subst (IsCountedAnew before_start (start_at c.args.counts.now) (start_at counts) old c.args.jobs) is.row is.starts)
    (subst (λ us. IsCounted graph us counts) is.units is.counted) (c.mark.ensures.len ∙ c.mark_row.ensures.len)
    (subst (λ us. Marked us (touched (row_of graph.rows c.args.unit) old c.args.jobs)) is.units (subst (Marked later) is.row marked)))
