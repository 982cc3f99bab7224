use Rattle.std.proofs.lemmas.Map.Lookups.{exact_bytes}
use Rattle.um_engine.proofs.known.is_among.Goals as goal

pub returns-in-Ok : goal.returns-in-Ok
returns-in-Ok c = λ yes. (c.in-Ok.field-0, c.in-Ok.ensures.bound, exact_bytes _ _ (c.in-Ok.ensures.ok c.args.unit.now))
