use Rattle.std.proofs.Common.{refl}
use Rattle.um_state.proofs.input_bytes.happening_in.Goals as goal

pub returns-in-2-clause-read : goal.returns-in-2-clause-read
returns-in-2-clause-read c = rw c.in-2.is refl
