use Rattle.std.proofs.Common.{◌∙◌, ap}
use Rattle.std.specs.FinMap as map
use Rattle.um_laws.proofs.NameMaps.{seen_removed}
use Rattle.um_timer.proofs.timers.Timers.clear.Goals as goal

pub returns : goal.returns
returns c = seen_removed c.self.inside.deadlines c.remove.new.self c.args.unit.now c.remove.ensures.updates ∙ ap (λ m. map.remove m c.args.unit.now) c.self.view_is
