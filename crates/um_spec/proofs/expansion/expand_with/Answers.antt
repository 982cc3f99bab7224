use Rattle.std.proofs.Common.{◌++◌, Some, None, option_copied, string_bytes, lit<, sym, ap, ◌∙◌, rules}
use Rattle.std.proofs.lemmas.Str.Pattern.{split_parts}
use Rattle.um_spec.proofs.ExpansionLemmas.{told_more, told_none, told_all}
use Rattle.um_spec.proofs.expansion.expand_with.Goals as goal

pub returns-in_default-percent : goal.returns-in_default-percent
returns-in_default-percent c =
    let unescaped = option_copied c.args.unescaped in
    let cut = split_parts 37 c.loop-before.rest.now (Some (c.in-Some.before, c.in-Some.after)) c.in-Some.ensures.cases (lit< tt) in
    let none = told_none c.args.unit.now unescaped (string_bytes c.loop-before.expanded) c.loop-before.rest.now c.in-Some.before.now c.in-Some.after.now cut (sym c.in_default-percent.ensures.front) in
    sym none ∙ c.loop-before.invariant.told

pub loop-before-preserved : goal.loop-before-preserved
loop-before-preserved c =
    let piece = c.in-Some-percent.piece in
    let cut = split_parts 37 c.loop-before.rest.now (Some (c.in-Some.before, c.in-Some.after)) c.in-Some.ensures.cases (lit< tt) in
    record {
      utf8 = search rules;
      told = told_more c.args.unit.now (option_copied c.args.unescaped) (string_bytes c.loop-before.expanded) c.loop-before.rest.now c.in-Some.before.now c.in-Some.after.now piece.text.now
          (string_bytes c.push_str-in-Some.new.self) c.range_from-rest.result.now piece.size _ cut (sym c.in-Some-percent.ensures.front)
          (c.in_ok-push_str-2.ensures.bytes ∙ ap (λ x. x ++ piece.text.now) c.in_ok-push_str.ensures.bytes) c.range_from-rest.ensures.value c.loop-before.invariant.told;
    }

pub returns : goal.returns
returns c =
    let unescaped = option_copied c.args.unescaped in
    let apart = split_parts 37 c.loop-before.rest.now None c.in_default.ensures.cases (lit< tt) in
    ap Some c.in_ok-push_str-3.ensures.bytes
    ∙ sym (told_all c.args.unit.now unescaped (string_bytes c.loop-before.expanded) c.loop-before.rest.now apart)
    ∙ c.loop-before.invariant.told
