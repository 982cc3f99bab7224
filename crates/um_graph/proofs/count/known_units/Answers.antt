use Rattle.std.proofs.Common.{◌↔◌, sym, subst}
use Rattle.std.specs.Prelude.{AllPairs, Contains}
use Rattle.um_model.specs.Dependencies.{IsKnown}
use Rattle.um_model.specs.Least.{IsNamedBefore}
use Rattle.um_unit.specs.View.{tree_read}
use Rattle.um_graph.proofs.GraphLaws.{keys_ascend, keys_known}
use Rattle.um_graph.proofs.count.known_units.Goals as goal

pub returns-clause-known : goal.returns-clause-known
returns-clause-known c = λ unit.
    subst (λ names. Contains names unit ↔ IsKnown (tree_read c.args.reading) (Contains c.args.extra.now) unit) (sym c.in_ok-names.ensures.names)
    (keys_known (tree_read c.args.reading) c.args.extra.now c.in_ok-known.known.loaded c.in_ok-known.known.told.items c.in_ok-known.ensures.whole unit)

pub returns-clause-sorted : goal.returns-clause-sorted
returns-clause-sorted c = subst (AllPairs IsNamedBefore) (sym c.in_ok-names.ensures.names) (keys_ascend c.in_ok-known.known.loaded c.in_ok-names.ensures.ordered)
