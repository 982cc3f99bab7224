use Rattle.um_model.proofs.CutLaws.{after_last_from_split, after_last_whole}
use Rattle.um_tree.proofs.text.unit_in_target.Goals as goal

pub returns-in-Some : goal.returns-in-Some
returns-in-Some c = after_last_from_split c.args.target.now c.in-Some.field-0-0.now c.in-Some.unit.now c.in-Some.ensures.cases

pub returns-in-None : goal.returns-in-None
returns-in-None c = after_last_whole c.args.target.now c.in-None.ensures.cases
