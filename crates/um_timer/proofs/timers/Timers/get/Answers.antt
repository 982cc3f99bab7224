use Rattle.std.proofs.Common.{◌∙◌, ap, sym}
use Rattle.std.specs.FinMap as map
use Rattle.um_laws.proofs.NameMaps.{get_seen}
use Rattle.um_timer.proofs.timers.Timers.get.Goals as goal

pub returns : goal.returns
returns c = c.copied.ensures ∙ (c.get.ensures.value ∙ (sym (get_seen c.self.inside.deadlines c.args.unit.now) ∙ ap (λ m. map.get m c.args.unit.now) c.self.view_is))
