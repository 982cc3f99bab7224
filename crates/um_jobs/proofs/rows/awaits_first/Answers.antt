use Rattle.std.proofs.Common.{◌≡◌, ◌∙◌, ℕ, Bool, false, Option, IfSome, ap, is_some, subst, sym}
use Rattle.std.specs.Option.{option_map_or}
use Rattle.um_model.specs.declared.jobs.UnitJobs.{UnitJobs}
use Rattle.um_graph.specs.Graph.{row_of}
use Rattle.um_jobs.specs.Named.{jobs_at}
use Rattle.um_jobs.proofs.FirstLaws.{Holds, first_holds}
use Rattle.um_jobs.proofs.rows.awaits_first.Goals as goal

pub returns-in-Some-clause-first : goal.returns-in-Some-clause-first
returns-in-Some-clause-first c =
    let units = c.args.units.now in
    let pending : Option ℕ → Bool = λ o. option_map_or (λ first. is_some (jobs_at units first).start) o false in
    c.is_some.ensures ∙ (ap (λ (jobs : UnitJobs). is_some jobs.start) c.jobs_of.ensures ∙ ap pending (sym c.in-Some.is ∙ c.first_after.ensures))

pub returns-in-Some-clause-holds : goal.returns-in-Some-clause-holds
returns-in-Some-clause-holds c started =
    let units = c.args.units.now in
    let row = row_of c.args.graph.now.rows c.args.unit in
    let holds = subst (λ o. IfSome o (Holds units row)) (sym c.first_after.ensures ∙ c.in-Some.is) (first_holds units row) in
    holds (ap (λ jobs. is_some jobs.start) (sym c.jobs_of.ensures) ∙ (sym c.is_some.ensures ∙ started))
