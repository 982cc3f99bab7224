use Rattle.std.proofs.Common.{rules}
use Rattle.um_unit.proofs.reasons.is_refused.Goals as goal

pub returns-then-is_refused_key : goal.returns-then-is_refused_key
returns-then-is_refused_key c = rw (← c.if-is_refused_key.ensures) (search rules)
