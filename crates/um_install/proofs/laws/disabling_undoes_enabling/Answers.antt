use Rattle.um_install.proofs.EnablingLaws.{disabling_undoes}
use Rattle.um_install.proofs.laws.disabling_undoes_enabling.Goals as goal

pub returns : goal.returns
returns c = disabling_undoes
