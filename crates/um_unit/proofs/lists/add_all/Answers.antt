use Rattle.std.proofs.Common.{rules, ◌++◌, sym, ap, ◌∙◌}
use Rattle.std.proofs.lemmas.List.{map-id}
use Rattle.std.proofs.lemmas.Iterator.Adapters.{YieldsList-from_vec, fact_from_extend}
use Rattle.um_unit.proofs.lists.add_all.Goals as goal

pub returns : goal.returns
returns g c =
    fact_from_extend (λ y. y) c.extend.result c.extend.ensures.ran (λ it b. YieldsList-from_vec c.args.more.items (search rules) (search rules))
    (λ xs e gives. gives.0 ∙ ap (λ ys. c.args.all.now.items ++ ys) (sym (map-id xs) ∙ e))
