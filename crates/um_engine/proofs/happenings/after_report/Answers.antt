use Rattle.std.proofs.Common.{◌≡◌, ◌∙◌, Contains, ap, map, subst, sym, true≢false}
use Rattle.std.specs.Bool.{Decides}
use Rattle.um_falling.specs.Over.{Serves}
use Rattle.um_falling.proofs.Carried.{process_known}
use Rattle.um_graph.specs.Graph.{GraphView}
use Rattle.um_model.specs.Machine as model
use Rattle.um_model.specs.Machine.{AwaitsReport, IsProcessOf, State}
use Rattle.um_model.specs.Service.{state_of_unit}
use Rattle.um_state.specs.View.{action_of}
use Rattle.um_engine.specs.Known.{KnownView}
use Rattle.um_engine.specs.Served.{standing_of}
use Rattle.um_engine.proofs.DoneLaws.{report_met}
use Rattle.um_engine.proofs.KnownLaws.{serves_for}
use Rattle.um_engine.proofs.Ticks.{report_is_idle, report_is_over}
use Rattle.um_engine.proofs.happenings.after_report.Goals as goal

pub returns-in-None-clause-met : goal.returns-in-None-clause-met
returns-in-None-clause-met c = (
  report_is_over c.args.moment c.args.served.now.state c.args.number (subst (λ (s : State). model.IsOver s.units c.args.number) c.state.ensures.state (rw c.units-units.ensures at c.in-None.ensures)),
  ap (map action_of) c.new.ensures.items,
)

pub returns-then-not-awaits_report-clause-met : goal.returns-then-not-awaits_report-clause-met
returns-then-not-awaits_report-clause-met c =
    let v = c.args.served.now in
    let unit = c.in-Some.unit.now in
    let process : IsProcessOf v.state.units c.args.number unit =
    subst (λ (s : State). IsProcessOf s.units c.args.number unit) c.state.ensures.state (rw c.units-units.ensures at c.in-Some.ensures) in
    let serves = serves_for v.known v.state c.state.ensures.knows in
    let graph : c.graph.result.now ≡ v.known.graph = c.graph.ensures ∙ ap (λ (k : KnownView). k.graph) c.known.ensures.known in
    let stands : c.get.result ≡ state_of_unit v.state.units unit =
    c.get.ensures.state ∙ (ap (λ units. state_of_unit units unit) c.units-units.ensures ∙ ap (λ (s : State). state_of_unit s.units unit) c.state.ensures.state) in
    let awaits : Decides c.awaits_report.result (AwaitsReport v.state c.args.number unit) =
    c.awaits_report.ensures v.state (subst (λ g. Serves g v.state) (sym graph) serves)
    (subst (λ (g : GraphView). Contains g.names unit) (sym graph) (process_known v.known.graph v.state unit c.args.number serves process.has)) stands in
    (report_is_idle c.args.moment v.state c.args.number unit process (λ h. true≢false (sym (awaits.1 h) ∙ c.if-not-awaits_report.true)), ap (map action_of) c.new-then-not-awaits_report.ensures.items)

pub after_happening-requires : goal.after_happening-requires
after_happening-requires c =
    let v = c.args.served.now in
    let process : IsProcessOf v.state.units c.args.number c.in-Some.unit.now =
    subst (λ (s : State). IsProcessOf s.units c.args.number c.in-Some.unit.now) c.state.ensures.state (rw c.units-units.ensures at c.in-Some.ensures) in
    process_known v.known.graph v.state c.in-Some.unit.now c.args.number (serves_for v.known v.state c.state.ensures.knows) process.has

pub returns-clause-met : goal.returns-clause-met
returns-clause-met c =
    let v = c.args.served.now in
    let unit = c.in-Some.unit.now in
    let process : IsProcessOf v.state.units c.args.number unit =
    subst (λ (s : State). IsProcessOf s.units c.args.number unit) c.state.ensures.state (rw c.units-units.ensures at c.in-Some.ensures) in
    let serves = serves_for v.known v.state c.state.ensures.knows in
    let graph : c.graph.result.now ≡ v.known.graph = c.graph.ensures ∙ ap (λ (k : KnownView). k.graph) c.known.ensures.known in
    let stands : c.get.result ≡ state_of_unit v.state.units unit =
    c.get.ensures.state ∙ (ap (λ units. state_of_unit units unit) c.units-units.ensures ∙ ap (λ (s : State). state_of_unit s.units unit) c.state.ensures.state) in
    let awaits : Decides c.awaits_report.result (AwaitsReport v.state c.args.number unit) =
    c.awaits_report.ensures v.state (subst (λ g. Serves g v.state) (sym graph) serves)
    (subst (λ (g : GraphView). Contains g.names unit) (sym graph) (process_known v.known.graph v.state unit c.args.number serves process.has)) stands in
    report_met c.args.moment (standing_of v) c.args.number unit c.in_ok-change.change (map action_of c.in_ok-change.actions.items) process
    (awaits.0 c.if-not-awaits_report.false) c.in_ok-change.ensures.does
