use Rattle.std.proofs.Common.{Some, ap, ◌∙◌}
use Rattle.std.proofs.lemmas.List.{take_all}
use Rattle.um_unit.specs.Sources.{all_assigned}
use Rattle.um_unit.proofs.assignments.assignments.Goals as goal

pub returns : goal.returns
returns c = c.loop-source.invariant ∙ ap (all_assigned (Some c.args.suffix)) (take_all _ c.args.sources.now c.loop-source-test.false)
