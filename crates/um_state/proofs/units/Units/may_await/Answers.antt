use Rattle.std.proofs.Common.{◌∙◌, ◌≡◌, ◌≢◌, ap, sym, true≢false, Some}
use Rattle.um_state.specs.Awaiting.{awaited_by}
use Rattle.um_state.proofs.AwaitingLaws.{dead_awaits}
use Rattle.um_state.proofs.FindingLaws.{of_each}
use Rattle.um_state.proofs.units.Units.may_await.Goals as goal

pub returns : goal.returns
returns c none =
    of_each c.args.self.now c.self.inside.names c.self.inside.states.items c.self.view_is c.self.invariant.1 (λ u. awaited_by u ≢ Some c.args.number) (dead_awaits c.args.number)
    (λ i is. true≢false (sym (c.self.inside.has i c.args.number is) ∙ (sym c.has.ensures ∙ none)))
