use Rattle.std.proofs.Common.{rules, tests, eqb, ◌%◌, ap}
use Rattle.std.proofs.lemmas.Iterator.Consumers.{count_from_yields_List}
use Rattle.std.proofs.lemmas.Iterator.Search.{YieldsList-from_take_while}
use Rattle.std.proofs.lemmas.Iterator.Adapters.{YieldsList-from_rev_slice}
use Rattle.um_syntax.proofs.lines.continues.Goals as goal

pub returns : goal.returns
returns c =
    ap (λ n. eqb (n % 2) 1) (count_from_yields_List _ _ c.count-backslashes.ensures.ran
    (YieldsList-from_take_while _ (λ b. eqb b 92) (YieldsList-from_rev_slice c.args.line.now (cc)) c.take_while.ensures.closure c.take_while.ensures.done (λ x b q k. search (rules, tests))))
