use Rattle.std.proofs.Common.{None, sym, lit<}
use Rattle.std.proofs.lemmas.Str.Pattern.{strip_prefix_char}
use Rattle.um_words.proofs.VariableLemmas.{no_whole_name}
use Rattle.um_words.proofs.variables.whole_name.Goals as goal

pub returns-in_err-name : goal.returns-in_err-name
returns-in_err-name c = rw c.from_residual.ensures (sym (no_whole_name c.args.word.now (strip_prefix_char 36 c.args.word.now None c.in_err-name.ensures.cases (lit< tt))))
