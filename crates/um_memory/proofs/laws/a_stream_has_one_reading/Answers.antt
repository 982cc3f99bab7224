use Rattle.um_laws.proofs.FramesLaws.{each_stream, one_stream}
use Rattle.um_memory.proofs.laws.a_stream_has_one_reading.Goals as goal

pub returns : goal.returns
returns c = record { some = each_stream; one = one_stream }
