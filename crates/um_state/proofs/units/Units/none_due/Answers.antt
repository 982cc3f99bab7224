use Rattle.std.proofs.Common.{◌∙◌, sym}
use Rattle.um_state.proofs.DueLaws.{later_none_due, none_due_later}
use Rattle.um_state.proofs.units.Units.none_due.Goals as goal

pub returns : goal.returns
returns c = (
  λ is. later_none_due c.args.moment c.args.self.now.held (sym c.are_later.ensures ∙ is),
  λ none. c.are_later.ensures ∙ none_due_later c.args.moment c.args.self.now.held none,
)
