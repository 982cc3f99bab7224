use Rattle.std.proofs.Common.{◌∙◌, ◌++◌, List, ap, map, sym, subst}
use Rattle.um_graph.specs.Graph.{IsNumberOf}
use Rattle.um_state.specs.View.{state_of, action_of}
use Rattle.um_falling.proofs.Carried.{changes_so, ends_own, no_more_left, others_kept}
use Rattle.um_falling.proofs.FallenLaws.{stopped_by, stops_one}
use Rattle.um_falling.proofs.WorkLaws.{keeps_then, number_on}
use Rattle.um_falling.specs.Over.{Serves}
use Rattle.um_model.specs.Service.{Action, state_of_unit}
use Rattle.um_unit.specs.ServiceView.{service_settings_of}
use Rattle.um_falling.proofs.carrying.change.Goals as goal

pub in_graph-acting-requires : goal.in_graph-acting-requires
in_graph-acting-requires c = ap service_settings_of c.in_ok-defaults.ensures.ok ∙ c.new.ensures

pub returns-clause-changes : goal.returns-clause-changes
returns-clause-changes c = λ name number.
    let v = c.args.work.now in
    let serves = subst (λ g. Serves g (state_of v.now)) (sym c.graph.ensures.graph) c.graph.ensures.serves in
    let numbered = subst (λ g. IsNumberOf g c.args.unit name) (sym c.graph.ensures.graph) number in
    let then = number_on v c.set_unit.new.self c.args.unit name c.set_unit.ensures.keeps number in
    let acting = c.in_graph-acting.ensures (state_of v.now) name serves numbered in
    let settings = ap (λ x. x.settings) acting in
    let loadable = ap (λ x. x.loadable) acting in
    let jobs = c.jobs-jobs.ensures.jobs name number in
    let stands = c.unit.ensures.state name number in
    let unit = rw (settings, loadable, c.is_waiting.ensures, jobs, c.of-service.ensures, stands, c.moment.ensures, c.next.ensures) at c.in_ok-asked.ensures.unit in
    let start = rw (settings, loadable, c.is_waiting.ensures, jobs, c.of-service.ensures, stands, c.moment.ensures, c.next.ensures) at c.in_ok-asked.ensures.start in
    let stop = rw (settings, loadable, c.is_waiting.ensures, jobs, c.of-service.ensures, stands, c.moment.ensures, c.next.ensures) at c.in_ok-asked.ensures.stop in
    let next = rw (settings, loadable, c.is_waiting.ensures, jobs, c.of-service.ensures, stands, c.moment.ensures, c.next.ensures) at c.in_ok-asked.ensures.next in
    let asked = rw (settings, loadable, c.is_waiting.ensures, jobs, c.of-service.ensures, stands, c.moment.ensures, c.next.ensures) at c.in_ok-asked.ensures.actions in
    changes_so v.moment name c.args.event (state_of v.now) (state_of c.set_unit.new.self.now) (state_of c.set_jobs.new.self.now) (state_of c.ask.new.self.now)
    v.actions c.ask.new.self.actions (map action_of c.in_ok-asked.asked.actions.items) c.fails_start.result
    (rw (c.unit-2.ensures, unit) at c.set_unit.ensures.state name number)
    (rw (c.jobs_left.ensures, start, stop, jobs) at c.set_jobs.ensures.state name then)
    (ap state_of c.in_ok-ask.ensures.now ∙ (rw next at c.set_next.ensures.state))
    (rw (start, jobs) at c.fails_start.ensures)
    asked
    (c.in_ok-ask.ensures.ok ∙ ap (λ (l : List Action). l ++ map action_of c.in_ok-asked.asked.actions.items) (c.set_next.ensures.actions ∙ (c.set_jobs.ensures.actions ∙ c.set_unit.ensures.actions)))
    c.jobs-jobs.ensures.tidy c.unit.ensures.tidy

pub returns-clause-waits : goal.returns-clause-waits
returns-clause-waits c = λ name number.
    let v = c.args.work.now in
    let then = number_on v c.set_unit.new.self c.args.unit name c.set_unit.ensures.keeps number in
    no_more_left name c.in_ok-asked.asked.start c.in_ok-asked.asked.stop_ends (state_of v.now) (state_of c.set_unit.new.self.now) (state_of c.set_jobs.new.self.now) (state_of c.ask.new.self.now)
    c.unit-2.result c.in_ok-asked.asked.next (c.set_unit.ensures.state name number) (rw (c.jobs_left.ensures, c.jobs-jobs.ensures.jobs name number) at c.set_jobs.ensures.state name then)
    (ap state_of c.in_ok-ask.ensures.now ∙ c.set_next.ensures.state)

pub returns-clause-ends : goal.returns-clause-ends
returns-clause-ends c = λ name number.
    let v = c.args.work.now in
    let then = number_on v c.set_unit.new.self c.args.unit name c.set_unit.ensures.keeps number in
    ends_own name c.in_ok-asked.asked.start c.in_ok-asked.asked.stop_ends (state_of v.now) (state_of c.set_unit.new.self.now) (state_of c.set_jobs.new.self.now) (state_of c.ask.new.self.now)
    c.unit-2.result c.in_ok-asked.asked.next (c.set_unit.ensures.state name number) (rw (c.jobs_left.ensures, c.jobs-jobs.ensures.jobs name number) at c.set_jobs.ensures.state name then)
    (ap state_of c.in_ok-ask.ensures.now ∙ c.set_next.ensures.state)

pub returns-clause-others : goal.returns-clause-others
returns-clause-others c = λ name number.
    let v = c.args.work.now in
    let then = number_on v c.set_unit.new.self c.args.unit name c.set_unit.ensures.keeps number in
    others_kept name (state_of v.now) (state_of c.set_unit.new.self.now) (state_of c.set_jobs.new.self.now) (state_of c.ask.new.self.now)
    c.unit-2.result c.jobs_left.result c.in_ok-asked.asked.next (c.set_unit.ensures.state name number) (c.set_jobs.ensures.state name then)
    (ap state_of c.in_ok-ask.ensures.now ∙ c.set_next.ensures.state)

pub returns-clause-stops : goal.returns-clause-stops
returns-clause-stops c = λ name number is.
    let v = c.args.work.now in
    let then = number_on v c.set_unit.new.self c.args.unit name c.set_unit.ensures.keeps number in
    let asked = rw (c.of-service.ensures, c.unit.ensures.state name number) at c.in_ok-asked.ensures.unit in
    stops_one name (state_of v.now) (state_of c.set_unit.new.self.now) (state_of c.set_jobs.new.self.now) (state_of c.ask.new.self.now)
    c.unit-2.result c.jobs_left.result c.in_ok-asked.asked.next (c.set_unit.ensures.state name number) (c.set_jobs.ensures.state name then)
    (ap state_of c.in_ok-ask.ensures.now ∙ c.set_next.ensures.state)
    (stopped_by (service_settings_of c.in_graph-acting.result.settings.now.value)
    (record { moment = c.moment.result; next = c.next.result; loadable = c.in_graph-acting.result.loadable; stop_waits = c.is_waiting.result }) c.args.event
    (state_of_unit (state_of v.now).units name) c.unit-2.result is (c.unit-2.ensures ∙ asked))

pub returns-clause-keeps : goal.returns-clause-keeps
returns-clause-keeps c =
    let v = c.args.work.now in
    keeps_then v c.set_next.new.self c.ask.new.self
    (keeps_then v c.set_jobs.new.self c.set_next.new.self (keeps_then v c.set_unit.new.self c.set_jobs.new.self c.set_unit.ensures.keeps c.set_jobs.ensures.keeps) c.set_next.ensures.keeps)
    c.in_ok-ask.ensures.keeps
