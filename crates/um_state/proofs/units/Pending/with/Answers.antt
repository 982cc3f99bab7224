use Rattle.std.proofs.Common.{◌∙◌, ap, sym, subst}
use Rattle.um_laws.proofs.NameMaps.{seen}
use Rattle.um_model.proofs.UnitLaws.{tidy_jobs}
use Rattle.um_model.specs.Jobs.{no_jobs, with_jobs, AreTidyJobs}
use Rattle.um_state.proofs.PutLaws.{jobs_put_well}
use Rattle.um_state.proofs.Results.{if_ok_more}
use Rattle.um_state.proofs.SetLaws.{still_apart}
use Rattle.um_state.proofs.TableLaws.{told_none}
use Rattle.um_state.proofs.units.Pending.with.Goals as goal

pub returns : goal.returns
returns c =
    let t = c.args.self.now in
    let unit = c.args.unit.now in
    let more = c.in_ok-hold_jobs.ensures.ok ∙ ap (λ m. with_jobs m unit c.args.jobs) c.in_ok-entries.ensures.map in
    let tidy = subst AreTidyJobs (sym more) (tidy_jobs t.held unit c.args.jobs c.to_map.ensures.tidy) in
    if_ok_more c.over.result (λ made held. held tidy
    (still_apart no_jobs with_jobs jobs_put_well t.held (seen c.hold_jobs.new.entries) c.self.inside.names c.in_ok-names.names unit c.args.jobs more
    (told_none no_jobs with_jobs jobs_put_well t c.self.inside.names c.self.inside.jobs.items c.self.view_is c.self.invariant.1) c.in_ok-names.ensures)
    ∙ more) c.over.ensures.held
