use Rattle.std.proofs.Common.{◌∙◌, ap, sym, refl, arith}
use Rattle.um_model.specs.Service.{dead_unit, with_unit}
use Rattle.um_state.specs.Tables.{unit_put, units_by}
use Rattle.um_state.proofs.PutLaws.{units_put}
use Rattle.um_state.proofs.TableLaws.{swap_held, swap_back, swap_past}
use Rattle.um_state.proofs.units.Units.swap.Goals as goal

pub returns-then-i-len-clause-held : goal.returns-then-i-len-clause-held
returns-then-i-len-clause-held c =
    ap (units_by c.self.inside.names) c.put.ensures.states
    ∙ swap_held dead_unit with_unit units_put c.args.self.now c.self.inside.names c.self.inside.states.items c.self.view_is c.self.invariant.1
    c.args.i c.args.state.now c.args.state.now (omega arith) (omega arith) refl

pub returns-then-i-len-clause-back : goal.returns-then-i-len-clause-back
returns-then-i-len-clause-back c =
    ap (λ rows. unit_put c.self.inside.names (units_by c.self.inside.names rows) c.args.i c.index-before.result.now) c.put.ensures.states
    ∙ swap_back dead_unit with_unit units_put c.args.self.now c.self.inside.names c.self.inside.states.items c.self.view_is c.self.invariant.1
    c.args.i c.args.state.now c.index-before.result.now c.index-before.result.now (omega arith) (omega arith) refl c.index-before.ensures

pub returns-else-i-len-clause-held : goal.returns-else-i-len-clause-held
returns-else-i-len-clause-held c =
    sym (swap_past dead_unit with_unit units_put c.args.self.now c.self.inside.names c.self.inside.states.items c.self.view_is c.self.invariant.1
    c.args.i c.args.state.now (omega arith) (omega arith))

pub returns-else-i-len-clause-back : goal.returns-else-i-len-clause-back
returns-else-i-len-clause-back c =
    swap_past dead_unit with_unit units_put c.args.self.now c.self.inside.names c.self.inside.states.items c.self.view_is c.self.invariant.1
    c.args.i c.args.state.now (omega arith) (omega arith)
