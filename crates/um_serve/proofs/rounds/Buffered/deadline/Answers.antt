use Rattle.std.proofs.Common.{◌∙◌, ap, subst}
use Rattle.std.specs.Option.{MatchOption}
use Rattle.um_model.specs.Machine.{State}
use Rattle.um_serve.specs.Sleep.{IsNextAfter, NoneAfter}
use Rattle.um_serve.proofs.rounds.Buffered.deadline.Goals as goal

pub returns : goal.returns
returns g c =
    let turned = c.args.self.now.turned in
    subst (λ units. MatchOption c.next_deadline.result (NoneAfter units turned) (IsNextAfter units turned))
    (c.units.ensures ∙ ap (λ (s : State). s.units) c.state.ensures)
    c.next_deadline.ensures
