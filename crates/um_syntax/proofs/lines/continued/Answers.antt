use Rattle.std.proofs.Common.{None, arith}
use Rattle.std.proofs.lemmas.Str.Pattern.{strip_suffix_char}
use Rattle.um_syntax.proofs.LineLemmas.{continues_none}
use Rattle.um_syntax.proofs.lines.continued.Goals as goal

pub returns-in_err-front : goal.returns-in_err-front
returns-in_err-front c =
    rw c.from_residual.ensures (continues_none c.args.line.now (strip_suffix_char 92 c.args.line.now None c.in_err-front.ensures.cases (omega arith)))
