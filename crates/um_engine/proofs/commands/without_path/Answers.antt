use Rattle.std.proofs.Common.{rules, ◌≢◌}
use Rattle.um_model.specs.Machine as model
use Rattle.um_wire.specs.Refusal.{refused_of}
use Rattle.um_wire.specs.declared.refusal.Refusal.TheVariants.{NoMemory}
use Rattle.um_engine.proofs.PlannedLaws.{refuses_on}
use Rattle.um_engine.proofs.Causes.{removes_to, removes_none_to}
use Rattle.um_state.specs.View.{state_of}
use Rattle.um_engine.proofs.commands.without_path.Goals as goal

pub returns-in_err-remove-clause-refused : goal.returns-in_err-remove-clause-refused
returns-in_err-remove-clause-refused c = λ profile.
    let step =
    removes_none_to (state_of c.args.state.now) (state_of c.in_ok-changed.changed) c.args.path.now c.in_err-remove.field-0.0 c.in_ok-changed.ensures c.in_err-remove.ensures.refused in
    refuses_on (model.Refuses profile (state_of c.args.state.now) (model.Remove c.args.path.now)) c.from_residual-in_err-remove.result c.in_err-remove.field-0.0 c.from_residual-in_err-remove.ensures.1 step

pub returns-clause-changed : goal.returns-clause-changed
returns-clause-changed c = λ profile.
    removes_to (state_of c.args.state.now) (state_of c.in_ok-changed.changed) (state_of c.remove.new.self) c.args.path.now
    c.in_ok-changed.ensures c.in_ok-remove.ensures.ok c.in_ok-remove.ensures.rest
