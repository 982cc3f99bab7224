use Rattle.um_model.proofs.EscapesLaws.{escaped-bytes}
use Rattle.um_name.proofs.laws.an_escaped_text_fits_a_name.Goals as goal

pub returns : goal.returns
returns c = escaped-bytes
