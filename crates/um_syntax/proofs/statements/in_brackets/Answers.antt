use Rattle.std.proofs.Common.{Some, None, sym, ap, ◌∙◌, arith}
use Rattle.std.proofs.lemmas.Str.Pattern.{strip_prefix_char, strip_suffix_char}
use Rattle.um_model.specs.Syntax.{in_brackets}
use Rattle.um_syntax.proofs.LineLemmas.{in_brackets_none, before_bracket_is}
use Rattle.um_syntax.proofs.statements.in_brackets.Goals as goal

pub returns-in_err-strip_prefix : goal.returns-in_err-strip_prefix
returns-in_err-strip_prefix c =
    rw c.from_residual.ensures (sym (in_brackets_none c.args.text.now (strip_prefix_char 91 c.args.text.now None c.in_err-strip_prefix.ensures.cases (omega arith))))

pub returns : goal.returns
returns c =
    let rest = c.in_ok-strip_prefix.field-0 in
    before_bracket_is rest.now c.strip_suffix.result (strip_suffix_char 93 rest.now c.strip_suffix.result c.strip_suffix.ensures.cases (omega arith))
    ∙ ap in_brackets (sym (strip_prefix_char 91 c.args.text.now (Some rest) c.in_ok-strip_prefix.ensures.cases (omega arith)))
