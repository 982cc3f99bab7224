use Rattle.std.proofs.Common.{◌∙◌, subst, MatchOption}
use Rattle.um_model.specs.Machine.{IsOver, IsProcessOf}
use Rattle.um_fates.proofs.Numbered.{looked_up}
use Rattle.um_fates.proofs.live.is_live.Goals as goal

pub returns : goal.returns
returns c =
    c.is_some.ensures ∙ looked_up c.args.units.now.held c.args.number c.process.result (λ unit. unit.now)
    (subst (λ n. MatchOption c.process.result (IsOver c.args.units.now.held n) (λ unit. IsProcessOf c.args.units.now.held n unit.now)) c.get.ensures.value c.process.ensures)
