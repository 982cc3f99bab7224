use Rattle.std.proofs.Common.{arith, subst, MatchOption}
use Rattle.um_state.specs.Finding.{IsFirstWith, NoneHas}
use Rattle.um_state.proofs.SetLaws.{placed}
use Rattle.um_state.proofs.units.Units.place.Goals as goal

pub returns : goal.returns
returns c =
    placed c.args.self.now c.self.inside.names c.self.inside.states.items c.self.view_is c.self.invariant.1 (omega arith) c.args.number c.row.result
    (subst (λ rows. MatchOption c.row.result (NoneHas rows c.args.number) (IsFirstWith rows c.args.number)) c.deref.ensures.value c.row.ensures)
