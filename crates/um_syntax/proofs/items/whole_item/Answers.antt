use Rattle.std.proofs.Common.{◌≡◌, ◌+◌, ◌-◌, length, take, drop, ap, ◌∙◌, arith}
use Rattle.um_syntax.proofs.LineLemmas.{part_lies}
use Rattle.um_syntax.proofs.items.whole_item.Goals as goal

pub returns-in-Pair-clause-span : goal.returns-in-Pair-clause-span
returns-in-Pair-clause-span c = λ source lies.
    let value = c.in-Pair.value.now in
    let start = c.args.start + c.in-Pair.at in
    let part = part_lies source c.args.text.now value c.args.start c.in-Pair.at lies c.in-Pair.ensures.place in
    let cut : start + length value - start ≡ length value = omega arith in
    (omega (arith, part.within), ap (λ n. take n (drop start source)) cut ∙ part.slice)
