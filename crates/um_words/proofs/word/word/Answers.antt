use Rattle.std.proofs.Common.{rules, arith, [], ◌∷◌, ◌++◌, ◌-◌, ◌+◌, subst, sym, ap, ◌∙◌}
use Rattle.std.specs.Str.{IsUtf8, IsCharBoundary}
use Rattle.std.specs.List.{prefix_len}
use Rattle.std.proofs.lemmas.List.{take_rest}
use Rattle.std.specs.Prelude.{None, string_bytes}
use Rattle.std.proofs.lemmas.Grind.{common_steps}
use Rattle.um_model.proofs.WordsLaws.{read, told_means, told_kept}
use Rattle.um_model.specs.WordSpellings.{is_plain}
use Rattle.um_words.proofs.WordLemmas.{boundary_one, boundary_means, kept_fits, boundary_kept}
use Rattle.um_words.proofs.word.word.Goals as goal

pub range_from-rest-requires : goal.range_from-rest-requires
range_from-rest-requires c = λ _.
    boundary_one c.loop-first.rest.now c.in-Some.more.now c.in-Some.first.now (subst IsUtf8 c.as_bytes.ensures.value c.as_bytes.ensures.utf8)
    (sym c.as_bytes.ensures.value ∙ c.in-Some.ensures.cases.0) c.in-Turn.ensures.there.0

pub range_from-rest-requires-in-Means : goal.range_from-rest-requires-in-Means
range_from-rest-requires-in-Means c = λ _.
    let there = c.in-Means.ensures.there in
    boundary_means c.loop-first.rest.now c.in-Some.more.now c.in-Some.first.now c.in-Means.n (subst IsUtf8 c.as_bytes.ensures.value c.as_bytes.ensures.utf8)
    (sym c.as_bytes.ensures.value ∙ c.in-Some.ensures.cases.0) there.1 there.2 there.3

pub loop-first-preserved-in-Means : goal.loop-first-preserved-in-Means
loop-first-preserved-in-Means c = record {
  utf8 = search rules;
  ascii = c.loop-first.invariant.ascii;
  within = grind (arith, common_steps);
  same = λ e. absurd (grind (arith, common_steps));
  told = told_means c.args.rules c.loop-first.rest.now c.in-Some.more.now (string_bytes c.loop-first.word) c.range_from-rest-in-Means.result.now (string_bytes c.push.new.self)
      c.in-Some.first.now c.in-Means.meaning c.in-Means.n c.loop-first.quote (read c.args.rules 0 None c.args.text.now)
      (sym c.as_bytes.ensures.value ∙ c.in-Some.ensures.cases.0) (sym c.in-Means.ensures.value) c.in-Means.ensures.there.1 c.range_from-rest-in-Means.ensures.value
      (c.in_ok-push-in-Means.ensures.bytes ∙ ap (λ x. string_bytes c.loop-first.word ++ x) (c.push.ensures.ascii (omega (arith, c.from.ensures, c.in-Means.ensures.there.0)) ∙ ap (λ x. x ∷ []) c.from.ensures)) c.loop-first.invariant.told;
}

pub overflow_add-n : goal.overflow_add-n
overflow_add-n c =
    let there = c.in-Kept.ensures.there in
    omega (
      arith,
      c.plain_len-run.ensures ∙ ap (prefix_len (is_plain c.args.rules c.loop-first.quote)) (take_rest c.in-Some.more.now (c.in-Kept.n - 1)),
      kept_fits c.args.rules c.loop-first.rest.now c.in-Some.more.now c.in-Some.first.now c.in-Kept.n c.loop-first.quote
          (sym c.as_bytes.ensures.value ∙ c.in-Some.ensures.cases.0) there.0 there.1,
    )

pub split_at-requires : goal.split_at-requires
split_at-requires c =
    let there = c.in-Kept.ensures.there in
    subst (λ p. IsCharBoundary c.loop-first.rest.now (c.in-Kept.n + p)) (sym (c.plain_len-run.ensures ∙ ap (prefix_len (is_plain c.args.rules c.loop-first.quote)) (take_rest c.in-Some.more.now (c.in-Kept.n - 1))))
    (boundary_kept c.args.rules c.loop-first.rest.now c.in-Some.more.now c.in-Some.first.now c.in-Kept.n c.loop-first.quote
    (sym c.as_bytes.ensures.value ∙ c.in-Some.ensures.cases.0) c.loop-first.invariant.ascii there.0 there.1)

pub loop-first-preserved : goal.loop-first-preserved
loop-first-preserved c = record {
  utf8 = search rules;
  ascii = c.loop-first.invariant.ascii;
  within = grind (arith, common_steps);
  same = λ e. absurd (grind (arith, common_steps));
  told = told_kept c.args.rules c.loop-first.rest.now c.in-Some.more.now (string_bytes c.loop-first.word) c.split_at.result.1.now (string_bytes c.push_str.new.self)
      c.in-Some.first.now c.in-Kept.n c.plain_len-run.result c.loop-first.quote (read c.args.rules 0 None c.args.text.now)
      (sym c.as_bytes.ensures.value ∙ c.in-Some.ensures.cases.0) (sym c.in-Kept.ensures.value) c.in-Kept.ensures.there.0 (c.plain_len-run.ensures ∙ ap (prefix_len (is_plain c.args.rules c.loop-first.quote)) (take_rest c.in-Some.more.now (c.in-Kept.n - 1))) c.split_at.ensures.back
      (c.in_ok-push_str-in-Kept.ensures.bytes ∙ ap (λ x. string_bytes c.loop-first.word ++ x) (c.split_at.ensures.front)) c.loop-first.invariant.told;
}
