use Rattle.um_model.proofs.ValuesLaws.{one_span}
use Rattle.um_value.proofs.laws.a_value_has_one_reading.Goals as goal

pub returns-clause-span : goal.returns-clause-span
returns-clause-span c = one_span
