use Rattle.std.proofs.Common.{rules, ◌≡◌, ◌+◌, ◌∷◌, ◌++◌, drop, map, string_bytes, sym, ap, ◌∙◌}
use Rattle.std.specs.List.{flat_map}
use Rattle.std.proofs.lemmas.List.{drop_more}
use Rattle.um_words.specs.Substituted.{becomes}
use Rattle.um_words.proofs.RoomLemmas.{left_more, left_no_more}
use Rattle.um_words.proofs.counting.after_words.Goals as goal

pub returns-in_err-free-2 : goal.returns-in_err-free-2
returns-in_err-free-2 c = λ environment holds.
    let others = c.args.others.now in
    let i = c.loop-word.word-index in
    let word = c.word-item.result in
    let here : drop i others ≡ word ∷ drop (i + 1) others =
    drop_more others i word c.loop-word-test.true ∙ ap (λ w. w ∷ drop (i + 1) others) (search (rules, c.word-item.is)) in
    let later = flat_map (becomes environment) (map string_bytes (drop (i + 1) others)) in
    let all = ap (λ ws. flat_map (becomes environment) (map string_bytes ws)) here ∙ ap (λ w. becomes environment w ++ later) (sym c.deref.ensures) in
    rw c.from_residual-in_err-free-2.ensures
    (left_no_more c.loop-word.free (becomes environment c.deref.result.now) later _ _ all (sym (c.after_word.ensures environment holds) ∙ c.in_err-free-2.was) (c.loop-word.invariant environment holds))

pub loop-word-preserved : goal.loop-word-preserved
loop-word-preserved c = λ environment holds.
    let others = c.args.others.now in
    let i = c.loop-word.word-index in
    let word = c.word-item.result in
    let here : drop i others ≡ word ∷ drop (i + 1) others =
    drop_more others i word c.loop-word-test.true ∙ ap (λ w. w ∷ drop (i + 1) others) (search (rules, c.word-item.is)) in
    let later = flat_map (becomes environment) (map string_bytes (drop (i + 1) others)) in
    let all = ap (λ ws. flat_map (becomes environment) (map string_bytes ws)) here ∙ ap (λ w. becomes environment w ++ later) (sym c.deref.ensures) in
    left_more c.loop-word.free c.in_ok-free-2.free (becomes environment c.deref.result.now) later _ _ all (sym (c.after_word.ensures environment holds) ∙ c.in_ok-free-2.was) (c.loop-word.invariant environment holds)
