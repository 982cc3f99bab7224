use Rattle.std.proofs.Common.{◌≡◌, ◌∙◌, [], length, map, get_or, ap, arith}
use Rattle.um_model.specs.Jobs.{jobs_shown_of, no_jobs}
use Rattle.um_name.specs.Names.{name_at}
use Rattle.um_state.proofs.EntryLaws.{gathered, jobs_told, one_more}
use Rattle.um_state.specs.Shown.{job_of}
use Rattle.um_state.proofs.rows.shown_of.Goals as goal

pub loop-i-preserved : goal.loop-i-preserved
loop-i-preserved c =
    one_more (λ i. jobs_shown_of (name_at c.args.names.now i) (get_or c.args.rows.now i no_jobs)) c.loop-i.i [] (map job_of c.loop-i.shown.items) (map job_of c.push_row.new.shown.items)
    c.in_ok-push_row.ensures c.loop-i.invariant

pub returns : goal.returns
returns c =
    let whole : c.loop-i.i ≡ length c.args.names.now = omega arith in
    c.loop-i.invariant
    ∙ (ap (gathered (λ i. jobs_shown_of (name_at c.args.names.now i) (get_or c.args.rows.now i no_jobs)) 0) whole
    ∙ jobs_told c.args.names.now c.args.rows.now c.requires.ascending c.requires.len)
