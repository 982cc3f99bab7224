use Rattle.std.proofs.Common.{ap, ◌∙◌, arith}
use Rattle.std.proofs.lemmas.Result.{IfOk-weaker}
use Rattle.byteorder.specs.Endian.{big_number}
use Rattle.um_memory.proofs.Pieces.{comes_body}
use Rattle.um_memory.proofs.frames.next_piece.Goals as goal

pub returns : goal.returns
returns g c =
    let header = c.in_ok-header.ensures in
    IfOk-weaker c.next_body.result _ _
    (λ piece body. comes_body _ _ _ c.in_ok-header.header.items c.read_u32-size.result piece header.bytes (omega arith) (c.read_u32-size.ensures ∙ ap (big_number 4) c.as_slice.ensures.value) (omega arith) body)
    c.next_body.ensures.frame
