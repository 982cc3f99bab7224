use Rattle.std.proofs.Common.{◌∙◌, ap}
use Rattle.std.specs.FinMap as map
use Rattle.um_name.proofs.Clones.{same_entries}
use Rattle.um_timer.proofs.timers.Timers.copy.Goals as goal

pub returns : goal.returns
returns c = ap map.from_entries (same_entries c.self.inside.deadlines.entries c.in_ok-clone.field-0.entries c.in_ok-clone.ensures.cases) ∙ c.self.view_is
