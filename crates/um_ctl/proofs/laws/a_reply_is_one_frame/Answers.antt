use Rattle.um_ctl.proofs.Taken.{whole_reply, one_reply}
use Rattle.um_ctl.proofs.laws.a_reply_is_one_frame.Goals as goal

pub returns : goal.returns
returns c = record { whole = whole_reply; one = one_reply }
