use Rattle.um_model.proofs.CutLaws.{behind_from_strip}
use Rattle.um_resolve.proofs.drop_ins.file_in.Goals as goal

pub returns : goal.returns
returns c = behind_from_strip c.args.folder.now c.args.path.now c.strip_prefix.result c.strip_prefix.ensures.cases
