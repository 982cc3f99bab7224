use Rattle.um_model.proofs.CutLaws.{behind_from_strip}
use Rattle.um_tree.proofs.text.behind.Goals as goal

pub returns : goal.returns
returns c = behind_from_strip c.args.front.now c.args.text.now c.strip_prefix.result c.strip_prefix.ensures.cases
