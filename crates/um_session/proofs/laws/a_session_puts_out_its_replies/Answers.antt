use Rattle.um_laws.proofs.SessionsLaws.{session_puts_out}
use Rattle.um_session.proofs.laws.a_session_puts_out_its_replies.Goals as goal

pub returns : goal.returns
returns c = session_puts_out
