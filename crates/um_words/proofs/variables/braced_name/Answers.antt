use Rattle.std.proofs.Common.{None, Some, sym, lit<}
use Rattle.std.proofs.lemmas.Str.Pattern.{strip_prefix_char}
use Rattle.um_words.proofs.VariableLemmas.{no_brace, not_closed}
use Rattle.um_words.proofs.variables.braced_name.Goals as goal

pub returns-in_err-strip_prefix-clause-name : goal.returns-in_err-strip_prefix-clause-name
returns-in_err-strip_prefix-clause-name c =
    rw c.from_residual.ensures (sym (no_brace c.args.text.now (strip_prefix_char 123 c.args.text.now None c.in_err-strip_prefix.ensures.cases (lit< tt))))

pub returns-in_err-rest-clause-name : goal.returns-in_err-rest-clause-name
returns-in_err-rest-clause-name c =
    let inner = c.in_ok-strip_prefix.field-0 in
    let after = c.split_name.result.1.now in
    rw c.from_residual-in_err-rest.ensures (sym (not_closed c.args.text.now inner.now c.split_name.result.0.now after
    (strip_prefix_char 123 c.args.text.now (Some inner) c.in_ok-strip_prefix.ensures.cases (lit< tt)) c.split_name.ensures.name c.split_name.ensures.rest
    (strip_prefix_char 125 after None c.in_err-rest.ensures.cases (lit< tt))))
