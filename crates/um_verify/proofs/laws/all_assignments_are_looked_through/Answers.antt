use Rattle.um_verify.proofs.SpotLaws.{all_same}
use Rattle.um_verify.proofs.laws.all_assignments_are_looked_through.Goals as goal

pub returns : goal.returns
returns c = all_same
