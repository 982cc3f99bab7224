use Rattle.um_runner.proofs.RunnerLaws.{name_without, one_name}
use Rattle.um_runner.proofs.laws.no_path_leads_out.Goals as goal

pub returns-clause-slash : goal.returns-clause-slash
returns-clause-slash c = name_without

pub returns-clause-one : goal.returns-clause-one
returns-clause-one c = one_name
