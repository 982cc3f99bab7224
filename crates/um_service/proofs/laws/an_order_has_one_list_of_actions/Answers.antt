use Rattle.um_laws.proofs.TransitionLaws.{same_actions}
use Rattle.um_service.proofs.laws.an_order_has_one_list_of_actions.Goals as goal

pub returns : goal.returns
returns c = same_actions
