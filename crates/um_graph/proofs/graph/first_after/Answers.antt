use Rattle.std.proofs.Common.{rules, tests, ◌≡◌, ◌∙◌, find, sym}
use Rattle.std.proofs.lemmas.Iterator.{YieldsList-from_slice}
use Rattle.std.proofs.lemmas.Iterator.Adapters.{option_map_id}
use Rattle.std.proofs.lemmas.Iterator.Consumers.{YieldsList-from_copied}
use Rattle.std.proofs.lemmas.Iterator.Search.{find_from_yields_List}
use Rattle.um_graph.specs.Kinds.{after_bit, has}
use Rattle.um_graph.specs.declared.row.Neighbour.{Neighbour}
use Rattle.um_graph.proofs.graph.first_after.Goals as goal

pub returns : goal.returns
returns c =
    let after = λ (n : Neighbour). has after_bit n.kinds in
    let found : c.find.result ≡ find after c.args.row.now =
    sym (option_map_id c.find.result)
    ∙ find_from_yields_List after _ _ c.find.result c.find.ensures.ran (YieldsList-from_copied (YieldsList-from_slice c.args.row.now (cc))) (λ x b q k. search (rules, tests)) in
    search (rules, tests, found)
