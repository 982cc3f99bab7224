use Rattle.um_model.proofs.CutLaws.{before_from_strip}
use Rattle.um_tree.proofs.text.before.Goals as goal

pub returns : goal.returns
returns c = before_from_strip c.args.end.now c.args.text.now c.strip_suffix.result c.strip_suffix.ensures.cases
