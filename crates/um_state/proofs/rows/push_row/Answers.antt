use Rattle.std.proofs.Common.{◌≡◌, ◌++◌, [], OnOk, map, sym, subst}
use Rattle.std.proofs.lemmas.Option.{get_or_from_slice_get}
use Rattle.um_model.specs.Jobs.{jobs_shown_of}
use Rattle.um_state.specs.Shown.{job_of}
use Rattle.um_state.proofs.rows.push_row.Goals as goal

pub returns : goal.returns
returns c =
    let named = get_or_from_slice_get c.args.names.now c.args.i c.in-Some.name.now [] (sym c.in-Some.ensures.name) in
    subst (λ n. OnOk c.push_jobs.result (map job_of c.push_jobs.new.shown.items ≡ map job_of c.args.shown.now.items ++ jobs_shown_of n c.args.jobs)) (sym named) c.push_jobs.ensures
