use Rattle.std.proofs.Common.{◌∙◌, sym}
use Rattle.um_state.specs.View.{state_of}
use Rattle.um_engine.proofs.Causes.{refuses_there}
use Rattle.um_engine.proofs.planning.check_there.Goals as goal

pub returns : goal.returns
returns c =
    refuses_there (state_of c.args.state.now) c.args.verb c.args.asked.now (sym c.wants_it_there.ensures ∙ c.if-not-wants_it_there.false)
    c.check_missing.result c.check_missing.ensures
