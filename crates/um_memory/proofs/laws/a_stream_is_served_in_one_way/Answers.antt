use Rattle.um_laws.proofs.FramesLaws.{one_serving}
use Rattle.um_memory.proofs.laws.a_stream_is_served_in_one_way.Goals as goal

pub returns : goal.returns
returns c = one_serving
