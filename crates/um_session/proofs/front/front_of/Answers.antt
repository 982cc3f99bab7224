use Rattle.std.proofs.Common.{arith}
use Rattle.um_session.proofs.Headers.{long_front, partial_front, whole_front}
use Rattle.um_session.proofs.front.front_of.Goals as goal

pub returns-then-size-gt-FRAME_LIMIT : goal.returns-then-size-gt-FRAME_LIMIT
returns-then-size-gt-FRAME_LIMIT c = long_front c.args.bytes.now c.read_u32-size.result (omega arith) c.read_u32-size.ensures (omega arith)

pub returns-then-bytes-size : goal.returns-then-bytes-size
returns-then-bytes-size c = partial_front c.args.bytes.now c.read_u32-size.result (omega arith) c.read_u32-size.ensures (omega arith) (omega arith)

pub returns : goal.returns
returns c = (omega arith, whole_front c.args.bytes.now c.read_u32-size.result (omega arith) c.read_u32-size.ensures (omega arith) (omega arith))
