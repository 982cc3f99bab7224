use Rattle.um_model.proofs.CountsLaws.{a_value_counts_or_warns}
use Rattle.um_unit.proofs.laws.a_value_counts_or_warns.Goals as goal

pub returns : goal.returns
returns c = a_value_counts_or_warns
