use Rattle.std.proofs.Common.{Some, None, ◌∷◌, ap, sym, refl, ◌∙◌, arith}
use Rattle.std.specs.Str.Lines.{lines}
use Rattle.std.proofs.lemmas.Str.Pattern.{split_parts, strip_suffix_char}
use Rattle.um_syntax.proofs.LineLemmas.{lines-append, lines_last, stripped}
use Rattle.um_syntax.proofs.lines.cut_line.Goals as goal

pub returns-in-Some-clause-line : goal.returns-in-Some-clause-line
returns-in-Some-clause-line c =
    let parts = split_parts 10 c.args.text.now (Some (c.in-Some.line, c.in-Some.after)) c.in-Some.ensures.cases (omega arith) in
    let stripped_line = stripped c.in-Some.line.now c.in-Some.line c.strip_suffix.result refl (strip_suffix_char 13 c.in-Some.line.now _ c.strip_suffix.ensures.cases (omega arith)) in
    ap lines parts.0 ∙ lines-append c.in-Some.line.now c.in-Some.after.now parts.1
    ∙ ap (λ x. x ∷ lines c.in-Some.after.now) (sym stripped_line ∙ ap (λ x. x.now) (sym c.unwrap_or.ensures))

pub returns-in-None-clause-line : goal.returns-in-None-clause-line
returns-in-None-clause-line c =
    lines_last c.args.text.now c.requires (split_parts 10 c.args.text.now None c.in-None.ensures.cases (omega arith))
