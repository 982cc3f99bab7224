use Rattle.std.proofs.Common.{List, ℕ, MatchOption, subst}
use Rattle.um_name.specs.Names.{IsApart, HasPlace}
use Rattle.um_name.proofs.NumberLaws.{numbered}
use Rattle.um_name.proofs.ordered.Ordered.number.Goals as goal

pub returns-clause-number : goal.returns-clause-number
returns-clause-number c =
    let x = c.args.name.now in
    let found = numbered c.self.inside.set.keys x c.get_index_of.result c.get_index_of.ensures.index c.get_index_of.ensures.found in
    subst (λ ns. MatchOption c.get_index_of.result (IsApart ns x) (HasPlace ns x)) c.self.view_is found
