use Rattle.std.proofs.Common.{not, reverse, rules, tests, ◌∙◌}
use Rattle.std.proofs.lemmas.Iterator.Adapters.{YieldsList-from_rev_slice}
use Rattle.std.proofs.lemmas.Iterator.Consumers.{count_from_yields_List}
use Rattle.std.proofs.lemmas.Iterator.Search.{YieldsList-from_take_while}
use Rattle.std.proofs.lemmas.List.Folds.{length-prefix_len}
use Rattle.um_model.specs.Text.{is_empty}
use Rattle.um_unit.proofs.assignments.said_len.Goals as goal

pub returns : goal.returns
returns c =
    count_from_yields_List _ _ c.count.ensures.ran
    (YieldsList-from_take_while _ (λ v. not (is_empty v.now)) (YieldsList-from_rev_slice c.args.values.now (cc)) c.take_while.ensures.closure c.take_while.ensures.done (λ x b q k. search (rules, tests)))
    ∙ length-prefix_len (λ v. not (is_empty v.now)) (reverse c.args.values.now)
