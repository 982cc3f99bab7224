use Rattle.um_model.specs.Service.{dead_unit, with_unit}
use Rattle.um_state.proofs.PutLaws.{units_put}
use Rattle.um_state.proofs.SameLaws.{both_told, not_told}
use Rattle.um_state.proofs.units.Units.is_same.Goals as goal

pub returns-then-units_told_by : goal.returns-then-units_told_by
returns-then-units_told_by c =
    both_told dead_unit with_unit units_put c.args.self.now c.args.other.now c.self.inside.names c.other.inside.names c.self.inside.states.items c.other.inside.states.items c.self.view_is c.other.view_is
    c.self.invariant.1 c.other.invariant.1 c.deref.result.now c.deref.ensures.value c.units_told_by.result c.units_told_by.ensures
    c.deref-then-units_told_by.result.now c.deref-then-units_told_by.ensures.value c.units_told_by-then-units_told_by.result c.units_told_by-then-units_told_by.ensures c.if-units_told_by.true

pub returns-else-units_told_by : goal.returns-else-units_told_by
returns-else-units_told_by c =
    not_told dead_unit with_unit units_put c.args.self.now c.args.other.now c.self.inside.names c.other.inside.names c.self.inside.states.items c.other.inside.states.items c.self.view_is c.other.view_is
    c.self.invariant.1 c.other.invariant.1 c.deref.result.now c.deref.ensures.value c.units_told_by.result c.units_told_by.ensures
    c.if-units_told_by.false
