use Rattle.std.proofs.Common.{rules, arith, ◌≡◌, ◌<◌, Some, drop, length}
use Rattle.um_model.proofs.BytesLaws.{at_some}
use Rattle.um_wire.proofs.Items.{left_over}
use Rattle.um_wire.proofs.whole.read_whole.Goals as goal

pub returns-else-n-bytes : goal.returns-else-n-bytes
returns-else-n-bytes g c =
    let bytes = c.args.bytes.now in
    let read : g.T.Canon.reading bytes ≡ Some (g.T.Canon.value c.in-Some.value, drop c.in-Some.n bytes) = at_some g.T.Canon.value bytes _ _ c.in-Some.value c.in-Some.n c.in_ok-value.ensures.read c.in-Some.is in
    let more : c.in-Some.n < length bytes = search (rules, arith) in
    left_over (g.T.Canon.reading bytes) (g.T.Canon.value c.in-Some.value) bytes c.in-Some.n read more
