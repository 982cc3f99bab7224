use Rattle.std.proofs.Common.{◌≡◌, ◌∙◌, ap}
use Rattle.um_model.specs.Profiles.{read_by}
use Rattle.um_model.specs.Machine.{State}
use Rattle.um_model.specs.Standing.{Standing}
use Rattle.um_model.specs.Service.{dead_unit, with_unit}
use Rattle.um_state.specs.Rows.{common_names}
use Rattle.um_state.specs.View.{state_of}
use Rattle.um_state.proofs.PutLaws.{units_put}
use Rattle.um_state.proofs.SetLaws.{named_put}
use Rattle.um_state.proofs.StateRows.{state_with}
use Rattle.um_state.proofs.state.State.set_unit.Goals as goal

pub returns-in-Some-clause-ok : goal.returns-in-Some-clause-ok
returns-in-Some-clause-ok c =
    let x = c.self.inside in
    let s : State = record (state_with x.tree (read_by x.profile x.loaded) x.boot x.clock x.next) { units = x.units.held; pending = x.pending.held } in
    let put = c.swap.ensures.held ∙ named_put dead_unit with_unit units_put x.units c.numbers.result.now c.numbers.ensures.names c.args.unit.now c.in-Some.i c.in-Some.ensures.number c.args.state in
    (λ k. record s { units = put k }) ∙ ap (λ z. record (state_of z) { units = with_unit (state_of z).units c.args.unit.now c.args.state }) c.self.view_is

pub returns-in-Some-clause-numbers : goal.returns-in-Some-clause-numbers
returns-in-Some-clause-numbers c = λ there. record {
  common = ap (λ (z : Standing). z.common) c.self.view_is;
  names = ap (common_names c.self.inside.is_common) c.swap.ensures.names ∙ ap (λ (z : Standing). z.names) c.self.view_is;
}
