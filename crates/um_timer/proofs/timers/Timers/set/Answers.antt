use Rattle.std.proofs.Common.{◌∙◌, ap}
use Rattle.std.specs.FinMap as map
use Rattle.um_laws.proofs.NameMaps.{seen_inserted}
use Rattle.um_timer.proofs.timers.Timers.set.Goals as goal

pub returns-clause-ok : goal.returns-clause-ok
returns-clause-ok c = seen_inserted c.self.inside.deadlines c.insert.new.self c.args.unit c.args.deadline c.in_ok-insert.ensures.updates ∙ ap (λ m. map.insert m c.args.unit c.args.deadline) c.self.view_is
