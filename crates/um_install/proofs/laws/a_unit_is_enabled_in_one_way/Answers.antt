use Rattle.um_laws.proofs.InstallLaws.{an_enabling, one_enabling}
use Rattle.um_install.proofs.laws.a_unit_is_enabled_in_one_way.Goals as goal

pub returns-clause-there : goal.returns-clause-there
returns-clause-there c = an_enabling

pub returns-clause-one : goal.returns-clause-one
returns-clause-one c = one_enabling
