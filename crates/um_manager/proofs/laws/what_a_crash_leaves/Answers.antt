use Rattle.um_manager.proofs.Clients.{all_turned}
use Rattle.um_manager.proofs.Crashing.{crash_leaves}
use Rattle.um_manager.proofs.laws.what_a_crash_leaves.Goals as goal

pub returns-clause-turns : goal.returns-clause-turns
returns-clause-turns c = all_turned

pub returns-clause-leaves : goal.returns-clause-leaves
returns-clause-leaves c = crash_leaves c.offers_are_parts_of_lives.ensures
