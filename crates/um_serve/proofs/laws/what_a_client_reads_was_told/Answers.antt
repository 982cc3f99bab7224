use Rattle.um_serve.proofs.TakingLaws.{opened_takes, rounds_take}
use Rattle.um_serve.proofs.laws.what_a_client_reads_was_told.Goals as goal

pub returns-clause-opened : goal.returns-clause-opened
returns-clause-opened c = λ k low place honest whole moment boot count sectors x disk before past is there. opened_takes k low place honest whole moment boot count sectors x past is there

pub returns-clause-rounds : goal.returns-clause-rounds
returns-clause-rounds c = λ k low took trust place rs result x y disk before past all rounds is. rounds_take k low rs result x y past all took rounds is
