use Rattle.um_laws.proofs.InstallLaws.{an_install, one_install, one_install_refusal}
use Rattle.um_install.proofs.laws.each_verb_has_one_outcome.Goals as goal

pub returns-clause-there : goal.returns-clause-there
returns-clause-there c = an_install

pub returns-clause-tree : goal.returns-clause-tree
returns-clause-tree c = one_install

pub returns-clause-cause : goal.returns-clause-cause
returns-clause-cause c = one_install_refusal
