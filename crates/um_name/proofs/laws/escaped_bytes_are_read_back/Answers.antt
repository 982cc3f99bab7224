use Rattle.um_model.proofs.EscapesLaws.{escaped-stands}
use Rattle.um_name.proofs.laws.escaped_bytes_are_read_back.Goals as goal

pub returns : goal.returns
returns c = escaped-stands
