use Rattle.um_service.proofs.StartLemmas.{started_is}
use Rattle.um_service.proofs.laws.what_a_command_is_started_with_is_found.Goals as goal

pub returns : goal.returns
returns c = started_is
