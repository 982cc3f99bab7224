use Rattle.std.proofs.Common.{ap, ◌∙◌, arith}
use Rattle.byteorder.specs.Endian.{big_number}
use Rattle.um_ctl.proofs.Taken.{takes_reply}
use Rattle.um_ctl.proofs.connection.exchange.Goals as goal

pub returns-clause-answered : goal.returns-clause-answered
returns-clause-answered g c =
    takes_reply _ _ _ _ _ c.read_u32-size.result (omega (arith, c.in_ok-header.ensures.bound)) (c.read_u32-size.ensures ∙ ap (big_number 4) c.as_slice.ensures.value) (omega (arith, c.in_ok-reply.ensures.bound)) (omega arith)
    c.in_ok-header.ensures.bytes c.in_ok-reply.ensures.bytes
