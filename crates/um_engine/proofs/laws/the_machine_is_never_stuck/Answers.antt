use Rattle.um_laws.proofs.LiveLaws.{never_stuck}
use Rattle.um_engine.proofs.laws.the_machine_is_never_stuck.Goals as goal

pub returns : goal.returns
returns c = never_stuck
