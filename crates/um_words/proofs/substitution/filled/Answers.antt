use Rattle.std.proofs.Common.{rules, ◌++◌, ◌-◌, length, None, Some, string_bytes, ap, ◌∙◌, lit<}
use Rattle.std.proofs.lemmas.Str.Pattern.{split_parts}
use Rattle.um_words.proofs.VariableLemmas.{filled_more, filled_end}
use Rattle.um_words.proofs.substitution.filled.Goals as goal

pub loop-before-preserved : goal.loop-before-preserved
loop-before-preserved c =
    let rest = c.loop-before.rest.now in
    let behind = c.in-Some.behind.now in
    let after = c.piece.result.1.now in
    let parts = split_parts 36 rest (Some (c.in-Some.before, c.in-Some.behind)) c.in-Some.ensures.cases (lit< tt) in
    record {
      utf8 = search rules;
      told = λ environment holds. filled_more environment (string_bytes c.loop-before.text) rest c.in-Some.before.now behind c.piece.result.0.now after (string_bytes c.push_str-in-Some.new.self)
          (length behind - length after) _ parts.0 parts.1 (c.piece.ensures.front environment holds) c.piece.ensures.rest
          (c.in_ok-push_str-2.ensures.bytes ∙ ap (λ t. t ++ c.piece.result.0.now) c.in_ok-push_str.ensures.bytes) (c.loop-before.invariant.told environment holds);
    }

pub returns : goal.returns
returns c = λ environment holds.
    let rest = c.loop-before.rest.now in
    filled_end environment (string_bytes c.loop-before.text) rest (string_bytes c.push_str-2.new.self) c.args.word.now
    (split_parts 36 rest None c.in_default.ensures.cases (lit< tt)) c.in_ok-push_str-3.ensures.bytes (c.loop-before.invariant.told environment holds)
