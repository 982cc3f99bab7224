use Rattle.std.proofs.Common.{map, string_bytes}
use Rattle.um_runner.proofs.RunnerLines.{handed_told}
use Rattle.um_runner.proofs.line.RunnerLine.of.Goals as goal

pub returns-in-None : goal.returns-in-None
returns-in-None c = handed_told (map string_bytes c.args.words.now) c.handed.result c.in-None.ensures c.handed.ensures
