use Rattle.std.proofs.Common.{◌∙◌, ◌<◌, Contains, length, refl, ap, subst, arith}
use Rattle.std.proofs.lemmas.Grind.{get_or-set_at}
use Rattle.um_graph.specs.Graph.{GraphView, IsNumberOf}
use Rattle.um_graph.proofs.NamedLaws.{got_within}
use Rattle.um_jobs.specs.Jobs.{JobsView}
use Rattle.um_jobs.specs.Named.{jobs_at}
use Rattle.um_model.specs.Jobs.{cancelled, no_jobs}
use Rattle.um_model.specs.Machine.{with_plan}
use Rattle.um_model.specs.Refusals.{no_such_job}
use Rattle.um_model.specs.Waiting.{has_waiting}
use Rattle.um_state.specs.View.{state_of}
use Rattle.um_engine.proofs.PlannedLaws.{not_pending}
use Rattle.um_engine.proofs.commands.cancel_waiting.Goals as goal

pub returns-in_default-clause-refused : goal.returns-in_default-clause-refused
returns-in_default-clause-refused c = λ differs.
    let w = c.args.work.now in
    let unit = c.args.unit.now in (
      ap has_waiting (not_pending w.graph (state_of w.now) c.graph.ensures.serves.held unit (subst (λ (g : GraphView). ¬ Contains g.names unit) c.graph.ensures.graph c.in_default.ensures)),
      c.in_ok-no_such_job.ensures ∙ ap no_such_job c.as_str.ensures.value,
    )

pub returns-clause-state : goal.returns-clause-state
returns-clause-state c =
    let w = c.args.work.now in
    let unit = c.args.unit.now in
    let i = c.in-Some.number in
    let number = subst (λ (g : GraphView). IsNumberOf g i unit) c.graph.ensures.graph c.in-Some.ensures in
    let tells = c.in_ok-jobs.ensures in
    let v : JobsView = c.in_ok-jobs.jobs in
    let j = cancelled (jobs_at v.units i) in
    let within : i < length v.units = let h = got_within w.graph.names i unit number in omega (arith, h, tells.long) in
    c.set_jobs.ensures.state unit number
    ∙ ap (with_plan (state_of w.now) unit)
    (c.get.ensures ∙ (ap (λ (u : JobsView). jobs_at u.units i) c.in_ok-cancel.ensures.ok ∙ (get_or-set_at v.units i i j no_jobs refl within ∙ ap cancelled (tells.jobs i unit number))))
