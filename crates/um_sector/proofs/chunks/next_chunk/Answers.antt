use Rattle.std.proofs.Common.{sym, arith}
use Rattle.std.proofs.lemmas.List.{take_all, drop_all}
use Rattle.um_sector.proofs.chunks.next_chunk.Goals as goal

pub returns-then-bytes-most-clause-chunk : goal.returns-then-bytes-most-clause-chunk
returns-then-bytes-most-clause-chunk c = sym (take_all c.args.most c.args.bytes.now (omega (arith, c.if-bytes-most.true)))

pub returns-then-bytes-most-clause-behind : goal.returns-then-bytes-most-clause-behind
returns-then-bytes-most-clause-behind c = sym (drop_all c.args.most c.args.bytes.now (omega (arith, c.if-bytes-most.true)))
