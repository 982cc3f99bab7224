use Rattle.std.proofs.Common.{refl, rules}
use Rattle.um_unit.proofs.keys.is_never_served.Goals as goal

pub returns-then-is_among : goal.returns-then-is_among
returns-then-is_among c = rw (← c.if-is_among.ensures) refl

pub returns-else-begins_with : goal.returns-else-begins_with
returns-else-begins_with c = rw (← c.if-is_among.ensures, ← c.if-begins_with.ensures) (search rules)
