use Rattle.um_verify.proofs.SpotLaws.{first_told}
use Rattle.um_verify.proofs.laws.the_first_refused_key_is_told.Goals as goal

pub returns : goal.returns
returns c = first_told
