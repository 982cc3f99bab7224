use Rattle.std.proofs.Common.{rules}
use Rattle.um_state.proofs.input_bytes.command_in.Goals as goal

pub returns-in-Some-2-clause-read : goal.returns-in-Some-2-clause-read
returns-in-Some-2-clause-read c = rw c.in-2.is (search rules)

pub returns-in-None-2-clause-read : goal.returns-in-None-2-clause-read
returns-in-None-2-clause-read c = rw c.in-2.is (search rules)
