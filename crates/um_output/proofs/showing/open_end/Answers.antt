use Rattle.um_output.proofs.OpenEnds.{open_low, open_lower}
use Rattle.um_output.proofs.showing.open_end.Goals as goal

pub returns-then-is_open-2-clause-longest : goal.returns-then-is_open-2-clause-longest
returns-then-is_open-2-clause-longest c =
    λ size is. open_lower c.args.bytes.now size 2 _ c.is_open.ensures c.if-is_open.false (open_low c.args.bytes.now size is) is

pub returns-then-is_open-3-clause-longest : goal.returns-then-is_open-3-clause-longest
returns-then-is_open-3-clause-longest c =
    λ size is. let two = open_lower c.args.bytes.now size 2 _ c.is_open.ensures c.if-is_open.false (open_low c.args.bytes.now size is) is in
    open_lower c.args.bytes.now size 1 _ c.is_open-else-is_open.ensures c.if-is_open-2.false two is

pub returns-else-is_open-3-clause-longest : goal.returns-else-is_open-3-clause-longest
returns-else-is_open-3-clause-longest c =
    λ size is. let two = open_lower c.args.bytes.now size 2 _ c.is_open.ensures c.if-is_open.false (open_low c.args.bytes.now size is) is in
    let one = open_lower c.args.bytes.now size 1 _ c.is_open-else-is_open.ensures c.if-is_open-2.false two is in
    open_lower c.args.bytes.now size 0 _ c.is_open-else-is_open-2.ensures c.if-is_open-3.false one is
