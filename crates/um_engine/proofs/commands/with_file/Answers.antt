use Rattle.std.proofs.Common.{rules, ◌≢◌}
use Rattle.um_model.specs.Machine as model
use Rattle.um_wire.specs.Refusal.{refused_of}
use Rattle.um_wire.specs.declared.refusal.Refusal.TheVariants.{NoMemory}
use Rattle.um_engine.proofs.PlannedLaws.{refuses_on}
use Rattle.um_engine.proofs.Causes.{puts_to, puts_none_to}
use Rattle.um_state.specs.View.{state_of}
use Rattle.um_engine.proofs.commands.with_file.Goals as goal

pub returns-in_err-put_file-clause-refused : goal.returns-in_err-put_file-clause-refused
returns-in_err-put_file-clause-refused c = λ profile.
    let step =
    puts_none_to (state_of c.args.state.now) (state_of c.in_ok-changed.changed) c.args.path.now c.args.text.now c.in_err-put_file.field-0.0 c.in_ok-changed.ensures c.in_err-put_file.ensures.refused in
    refuses_on (model.Refuses profile (state_of c.args.state.now) (model.PutFile c.args.path.now c.args.text.now)) c.from_residual-in_err-put_file.result c.in_err-put_file.field-0.0 c.from_residual-in_err-put_file.ensures.1 step

pub returns-clause-changed : goal.returns-clause-changed
returns-clause-changed c = λ profile.
    puts_to (state_of c.args.state.now) (state_of c.in_ok-changed.changed) (state_of c.put_file.new.self) c.args.path.now c.args.text.now
    c.in_ok-changed.ensures c.in_ok-put_file.ensures.ok c.in_ok-put_file.ensures.rest
