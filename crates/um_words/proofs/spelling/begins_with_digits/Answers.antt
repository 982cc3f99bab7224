use Rattle.std.proofs.Common.{rules, tests, ℕ, length, ltb, take, ◌&&◌, ◌∙◌, sym, ap, arith}
use Rattle.std.specs.Char.{digit_value}
use Rattle.std.specs.List.{list_all}
use Rattle.std.proofs.lemmas.Bool.{le-leb}
use Rattle.std.proofs.lemmas.Iterator.{YieldsList-from_slice}
use Rattle.std.proofs.lemmas.Iterator.Search.{all_from_yields_List}
use Rattle.um_words.proofs.spelling.begins_with_digits.Goals as goal

pub returns-then-bytes-count-clause-value : goal.returns-then-bytes-count-clause-value
returns-then-bytes-count-clause-value c =
    let test = λ (b : ℕ). ltb (digit_value b) c.args.base in
    let digits = take c.args.count c.args.bytes.now in
    all_from_yields_List test _ _ _ c.all.ensures.ran (YieldsList-from_slice digits (search rules)) (λ x b q k. search (rules, tests))
    ∙ sym (ap (λ t. t && list_all test digits) (le-leb c.args.count (length c.args.bytes.now) (omega arith)))
