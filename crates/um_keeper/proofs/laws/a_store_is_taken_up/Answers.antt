use Rattle.um_keeper.proofs.Reopening.{a_store_unread, a_store_untaken}
use Rattle.um_keeper.proofs.laws.a_store_is_taken_up.Goals as goal

pub returns-clause-read : goal.returns-clause-read
returns-clause-read c = a_store_unread

pub returns-clause-spent : goal.returns-clause-spent
returns-clause-spent c = a_store_untaken
