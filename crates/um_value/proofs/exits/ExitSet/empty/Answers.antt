use Rattle.std.proofs.Common.{refl}
use Rattle.um_value.proofs.ExitLemmas.{holds_none}
use Rattle.um_value.proofs.exits.ExitSet.empty.Goals as goal

pub returns : goal.returns
returns c = holds_none _ refl refl
