use Rattle.um_laws.proofs.FewLaws.{empty_blank}
use Rattle.um_engine.proofs.laws.nothing_is_held_in_the_empty_state.Goals as goal

pub returns : goal.returns
returns c = empty_blank
