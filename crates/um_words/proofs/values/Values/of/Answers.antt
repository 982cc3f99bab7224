use Rattle.std.proofs.Common.{rules, ◌≡◌, ◌∙◌, ◌+◌, ◌++◌, [], ◌∷◌, take, ap}
use Rattle.std.proofs.lemmas.List.{take_more}
use Rattle.um_words.proofs.ValueLemmas.{held_more}
use Rattle.um_words.proofs.values.Values.of.Goals as goal

pub loop-variable-preserved : goal.loop-variable-preserved
loop-variable-preserved c =
    let vs = c.args.environment.now in
    let i = c.loop-variable.variable-index in
    let v = c.variable-item.result in
    let more : take (i + 1) vs ≡ take i vs ++ v ∷ [] = take_more vs i v c.loop-variable-test.true ∙ ap (λ w. take i vs ++ w ∷ []) (search (rules, c.variable-item.is)) in
    held_more c.loop-variable.by_name c.insert.new.self c.in_ok-value.value c.as_str-in-loop-variable.result.now c.as_str.result.now (take i vs) (take (i + 1) vs) v
    c.in_ok-insert.ensures.updates c.as_str-in-loop-variable.ensures.value c.in_ok-value.ensures c.as_str.ensures.value more c.loop-variable.invariant
