use Rattle.std.proofs.Common.{arith, ◌∙◌, sym}
use Rattle.um_runner.proofs.RunnerLines.{process_read}
use Rattle.um_runner.proofs.line.process_of.Goals as goal

pub returns : goal.returns
returns c = process_read c.args.word.now c.in_ok-number_in.field-0 c.new.result (omega arith) (sym c.as_bytes.ensures.value ∙ c.in_ok-number_in.ensures) c.new.ensures.some
