use Rattle.um_resolve.proofs.LeadsLaws.{leads_by_hops, leads_by_eight, unserved_nowhere}
use Rattle.um_resolve.proofs.laws.a_unit_is_found_by_hops.Goals as goal

pub returns-clause-hops : goal.returns-clause-hops
returns-clause-hops c = leads_by_hops

pub returns-clause-eight : goal.returns-clause-eight
returns-clause-eight c = leads_by_eight

pub returns-clause-other : goal.returns-clause-other
returns-clause-other c = unserved_nowhere
