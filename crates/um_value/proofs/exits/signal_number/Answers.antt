use Rattle.um_value.proofs.TableLemmas.{small_signal}
use Rattle.um_value.proofs.exits.signal_number.Goals as goal

pub returns-clause-small : goal.returns-clause-small
returns-clause-small c = small_signal c.number_among.result c.args.word.now c.number_among.ensures
