use Rattle.std.proofs.Common.{rules, ◌++◌, ◌-◌, length, None, Some, ap, lit<, arith}
use Rattle.std.proofs.lemmas.List.{length-append}
use Rattle.std.proofs.lemmas.Str.Pattern.{split_parts}
use Rattle.um_words.specs.Substituted.{filled}
use Rattle.um_words.proofs.CountLemmas.{filled_piece, filled_whole}
use Rattle.um_words.proofs.counting.filled_len.Goals as goal

pub loop-before-preserved : goal.loop-before-preserved
loop-before-preserved c =
    let rest = c.loop-before.rest.now in
    let before = c.in-Some.before.now in
    let behind = c.in-Some.behind.now in
    let value = c.piece.result.0.now in
    let after = c.piece.result.1.now in
    let parts = split_parts 36 rest (Some (c.in-Some.before, c.in-Some.behind)) c.in-Some.ensures.cases (lit< tt) in
    record {
      utf8 = search rules;
      told = λ environment holds.
          let more = filled_piece environment rest before behind value after (length behind - length after) parts.0 parts.1 (c.piece.ensures.front environment holds) c.piece.ensures.rest in
          omega (
            arith,
            c.saturating_add.ensures,
            c.saturating_add-length.ensures,
            c.loop-before.invariant.told environment holds,
            ap length more,
            length-append (before ++ value) (filled environment after),
            length-append before value,
          );
    }

pub returns : goal.returns
returns c = λ environment holds.
    let rest = c.loop-before.rest.now in
    omega (
      arith,
      c.saturating_add-2.ensures,
      c.loop-before.invariant.told environment holds,
      ap length (filled_whole environment rest (split_parts 36 rest None c.in_default.ensures.cases (lit< tt))),
    )
