use Rattle.std.proofs.Common.{codes}
use Rattle.um_runner.proofs.Lines.{has_front, has_end, line_of}
use Rattle.um_runner.proofs.texts.number_behind.Goals as goal

pub returns-clause-line : goal.returns-clause-line
returns-clause-line c =
    line_of c.args.word.now c.args.text.now c.in-Some.line.now c.in-Some-strip_suffix.digits.now c.number_in.result
    (has_front _ _ _ c.in-Some.ensures.cases.0 c.in-Some.ensures.cases.1)
    (has_end (codes "\n") _ _ c.in-Some-strip_suffix.ensures.cases.0 c.in-Some-strip_suffix.ensures.cases.1)
    c.number_in.ensures
