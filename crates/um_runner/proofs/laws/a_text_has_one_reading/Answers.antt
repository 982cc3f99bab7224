use Rattle.um_runner.proofs.EntryTexts.{written_back}
use Rattle.um_runner.proofs.RunnerLaws.{one_pid, one_status, one_end, claim_read}
use Rattle.um_runner.proofs.laws.a_text_has_one_reading.Goals as goal

pub returns-clause-pid : goal.returns-clause-pid
returns-clause-pid c = one_pid

pub returns-clause-status : goal.returns-clause-status
returns-clause-status c = one_status

pub returns-clause-end : goal.returns-clause-end
returns-clause-end c = one_end

pub returns-clause-claim : goal.returns-clause-claim
returns-clause-claim c = claim_read

pub returns-clause-entries : goal.returns-clause-entries
returns-clause-entries c = written_back
