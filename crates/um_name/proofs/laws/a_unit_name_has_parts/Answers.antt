use Rattle.um_model.proofs.NamesLaws.{named_by_parts, is_unit_name-name}
use Rattle.um_name.proofs.laws.a_unit_name_has_parts.Goals as goal

pub returns : goal.returns
returns c = λ text. (named_by_parts text, λ w. is_unit_name-name text w.0 w.1)
