use Rattle.um_laws.proofs.MachineLaws.{one_reply_to}
use Rattle.um_engine.proofs.laws.a_query_has_one_reply.Goals as goal

pub returns : goal.returns
returns c = one_reply_to
