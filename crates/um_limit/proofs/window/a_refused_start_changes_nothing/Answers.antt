use Rattle.um_laws.proofs.LimitLaws.{refused_keeps}
use Rattle.um_limit.proofs.window.a_refused_start_changes_nothing.Goals as goal

pub returns : goal.returns
returns c = refused_keeps
