use Rattle.std.proofs.Common.{Some, None, sym, append-nil}
use Rattle.um_fates.proofs.Hearing.{heard_one}
use Rattle.um_fates.proofs.fates.hear_one.Goals as goal

pub returns-in-Ok-clause-hears : goal.returns-in-Ok-clause-hears
returns-in-Ok-clause-hears g c = heard_one _ _ _ _ _ _ _ c.args.number (Some c.in-Ok.fate) _ _ c.in-Ok.ensures.past c.put_fate.ensures.items

pub returns-in-Err-clause-hears : goal.returns-in-Err-clause-hears
returns-in-Err-clause-hears g c = heard_one _ _ _ _ _ _ _ c.args.number None _ _ c.in-Err.ensures.past (sym (append-nil _))
