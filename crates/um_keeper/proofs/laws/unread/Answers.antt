use Rattle.um_laws.proofs.UnreadLaws.{unread}
use Rattle.um_keeper.proofs.laws.unread.Goals as goal

pub returns : goal.returns
returns c = unread
