use Rattle.std.proofs.Common.{sym}
use Rattle.um_transact.proofs.CheckLaws.{none_loadable}
use Rattle.um_transact.proofs.demands.is_loadable.Goals as goal

pub returns-in-None : goal.returns-in-None
returns-in-None c = sym (none_loadable c.args.graph.now c.args.unit (sym c.in-None.ensures))
