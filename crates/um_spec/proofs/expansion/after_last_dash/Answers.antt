use Rattle.std.proofs.Common.{Some, None, lit<, sym, ◌∙◌}
use Rattle.std.proofs.lemmas.Str.Pattern.{rfind_char}
use Rattle.um_model.proofs.SpecifiersLaws.{after_last-found, after_last-absent}
use Rattle.um_spec.proofs.expansion.after_last_dash.Goals as goal

pub returns-in-Some : goal.returns-in-Some
returns-in-Some c =
    let prefix = c.args.prefix.now in
    let last = rfind_char 45 prefix (Some c.in-Some.place) c.in-Some.ensures.cases (lit< tt) in
    c.range_from.ensures.value ∙ sym (after_last-found 45 prefix c.in-Some.place last.0 last.1 last.2)

pub returns-in-None : goal.returns-in-None
returns-in-None c = sym (after_last-absent 45 c.args.prefix.now (rfind_char 45 c.args.prefix.now None c.in-None.ensures.cases (lit< tt)))
