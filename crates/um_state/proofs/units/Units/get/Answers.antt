use Rattle.std.proofs.Common.{arith}
use Rattle.um_model.specs.Service.{dead_unit, with_unit}
use Rattle.um_state.proofs.PutLaws.{units_put}
use Rattle.um_state.proofs.TableLaws.{tidy_table, told_at, told_none}
use Rattle.um_state.proofs.units.Units.get.Goals as goal

pub returns-in-Some-clause-tidy : goal.returns-in-Some-clause-tidy
returns-in-Some-clause-tidy c = tidy_table dead_unit with_unit units_put c.args.self.now c.self.inside.names c.self.inside.states.items c.self.view_is c.self.invariant.1

pub returns-in-None-clause-tidy : goal.returns-in-None-clause-tidy
returns-in-None-clause-tidy c = tidy_table dead_unit with_unit units_put c.args.self.now c.self.inside.names c.self.inside.states.items c.self.view_is c.self.invariant.1

pub returns-in-None-clause-state : goal.returns-in-None-clause-state
returns-in-None-clause-state c =
    told_none dead_unit with_unit units_put c.args.self.now c.self.inside.names c.self.inside.states.items c.self.view_is c.self.invariant.1
    c.args.unit.now c.in-None.ensures.number

pub returns-in-Some-clause-state : goal.returns-in-Some-clause-state
returns-in-Some-clause-state c =
    let n = c.in-Some.ensures.number in
    told_at dead_unit with_unit units_put c.args.self.now c.self.inside.names c.self.inside.states.items c.self.view_is c.self.invariant.1
    c.in-Some.i c.args.unit.now c.index.result.now n.0 (omega (arith, n.0)) n.1 c.index.ensures
