use Rattle.std.proofs.Common.{sym, ◌∙◌}
use Rattle.um_runner.proofs.Numerals.{other_text, read_same}
use Rattle.um_runner.proofs.texts.number_in.Goals as goal

pub returns-then-not-is_plain : goal.returns-then-not-is_plain
returns-then-not-is_plain c = other_text c.args.text.now (sym c.is_plain.ensures ∙ c.if-not-is_plain.true)

pub returns-in-Ok : goal.returns-in-Ok
returns-in-Ok c =
    read_same c.args.text.now c.in-Ok.digits.now c.parse.result c.ok.result c.in-Ok.ensures.cases.0 (sym c.is_plain.ensures ∙ c.if-not-is_plain.false) c.parse.ensures.value.0 c.ok.ensures.value
