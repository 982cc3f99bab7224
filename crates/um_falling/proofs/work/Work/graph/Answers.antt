use Rattle.std.proofs.Common.{◌≡◌, subst}
use Rattle.um_state.specs.View.{state_of}
use Rattle.um_falling.specs.Over.{Serves}
use Rattle.um_falling.specs.Work.{WorkView}
use Rattle.um_falling.proofs.work.Work.graph.Goals as goal

pub returns-clause-names : goal.returns-clause-names
returns-clause-names c = subst (λ (w : WorkView). w.now.names ≡ w.graph.names) c.self.view_is c.self.invariant.0

pub returns-clause-serves : goal.returns-clause-serves
returns-clause-serves c = subst (λ (w : WorkView). Serves w.graph (state_of w.now)) c.self.view_is c.self.invariant.1
