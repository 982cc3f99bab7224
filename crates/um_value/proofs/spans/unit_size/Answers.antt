use Rattle.um_value.proofs.TableLemmas.{positive_unit}
use Rattle.um_value.proofs.spans.unit_size.Goals as goal

pub returns-clause-positive : goal.returns-clause-positive
returns-clause-positive c = positive_unit c.number_among.result c.as_bytes.result.now c.number_among.ensures
