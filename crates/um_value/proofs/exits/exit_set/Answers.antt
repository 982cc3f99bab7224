use Rattle.std.proofs.Common.{not, eqb, length, take, refl, sym, ap, ◌∙◌, arith, rules, tests}
use denote.Param.Always.{mut_total}
use Rattle.std.specs.List.{list_any, list_all}
use Rattle.std.proofs.lemmas.List.{length_push, take_all}
use Rattle.std.proofs.lemmas.Iterator.Consumers.{YieldsList-from_filter, YieldsList-turn, YieldsList-end}
use Rattle.std.proofs.lemmas.Iterator.Splits.{YieldsList-from_slice_split}
use Rattle.um_model.specs.Ascii.{is_space}
use Rattle.um_model.specs.Values.{exit_of, is_end, exits_of}
use Rattle.um_model.proofs.FindsLaws.{told_by_relation}
use Rattle.um_model.proofs.ValuesLaws.{exits_of-IsExitSet, finds_exits}
use Rattle.um_model.specs.ValueSpellings.{IsExitSet}
use Rattle.um_model.specs.ValueSpellings.{is_exit}
use Rattle.um_value.specs.ExitSet.{holds}
use Rattle.um_value.proofs.ExitLemmas.{word_more, readable_more, exact_more, unreadable}
use Rattle.um_value.proofs.exits.exit_set.Goals as goal
use Rattle.um_model.specs.FileForms.{words_in}

pub loop-word-init : goal.loop-word-init
loop-word-init c = record { can = (mut_total _ _ (λ s a. tt), search rules, search rules); finite = search rules; readable = refl; exact = c.empty-set.ensures }

pub returns-in_err-exit_of : goal.returns-in_err-exit_of
returns-in_err-exit_of c =
    let text = c.args.text.now in
    let words = YieldsList-from_filter _ (λ word. not (eqb (length word) 0)) (YieldsList-from_slice_split _ is_space text (cc) (cc) (cc) (λ x b q k. search (rules, tests))) (cc) (λ x b q k. search (rules, tests)) in
    let here = YieldsList-turn words c.loop-word.yielded _ c.loop-word.yielded_by _ _ c.in-Some.word c.in-Some.is c.next.ensures.steps in
    told_by_relation (exits_of text) (IsExitSet text) (finds_exits text) holds c.from_residual.result (rw c.from_residual.ensures tt)
    (rw c.from_residual.ensures (λ set is. unreadable (words_in text) (length c.loop-word.yielded) c.in-Some.word.now here (sym c.in_err-exit_of.ensures.value) is.readable))

pub loop-word-preserved : goal.loop-word-preserved
loop-word-preserved c =
    let pieces = YieldsList-from_filter _ (λ word. not (eqb (length word) 0)) (YieldsList-from_slice_split _ is_space c.args.text.now (cc) (cc) (cc) (λ x b q k. search (rules, tests))) (cc) (λ x b q k. search (rules, tests)) in
    let here = YieldsList-turn pieces c.loop-word.yielded _ c.loop-word.yielded_by _ _ c.in-Some.word c.in-Some.is c.next.ensures.steps in
    let words = words_in c.args.text.now in
    let n = length c.loop-word.yielded in
    let word = c.in-Some.word.now in
    let told = sym c.in_ok-exit_of.ensures.value in
    let more = ap (λ k. take k words) (length_push c.loop-word.yielded c.in-Some.word) ∙ word_more words n word here in
    record {
      can = search rules;
      finite = search rules;
      readable = ap (list_all is_exit) more ∙ readable_more (take n words) word c.in_ok-exit_of.field-0 told c.loop-word.invariant.readable;
      exact = λ end. exact_more (take n words) word c.in_ok-exit_of.field-0 end _ _ told (c.loop-word.invariant.exact end) (c.insert.ensures end)
          ∙ ap (list_any (λ w. is_end end (exit_of w))) (sym more);
    }

pub returns : goal.returns
returns c =
    let pieces = YieldsList-from_filter _ (λ word. not (eqb (length word) 0)) (YieldsList-from_slice_split _ is_space c.args.text.now (cc) (cc) (cc) (λ x b q k. search (rules, tests))) (cc) (λ x b q k. search (rules, tests)) in
    let words = words_in c.args.text.now in
    let all = take_all (length c.loop-word.yielded) words (omega (arith, (YieldsList-end pieces c.loop-word.yielded _ c.loop-word.yielded_by _ _ c.in-None.is c.next.ensures.steps).1)) in
    let found : IsExitSet c.args.text.now (holds c.loop-word.set) = record {
      readable = ap (list_all is_exit) (sym all) ∙ c.loop-word.invariant.readable;
      exact = λ end. c.loop-word.invariant.exact end ∙ ap (list_any (λ w. is_end end (exit_of w))) all;
    } in
    sym (exits_of-IsExitSet c.args.text.now (holds c.loop-word.set) found)
