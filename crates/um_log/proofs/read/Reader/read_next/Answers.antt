use Rattle.std.proofs.Common.{subst, arith}
use Rattle.um_model.specs.Disk.{seen}
use Rattle.um_model.specs.Store.{stops}
use Rattle.um_log.specs.Reading.{ReadsRecord}
use Rattle.um_log.proofs.Scanning.{none_behind}
use Rattle.um_log.proofs.read.Reader.read_next.Goals as goal

pub returns-then-next-area_end-clause-found : goal.returns-then-next-area_end-clause-found
returns-then-next-area_end-clause-found g c h =
    let reader = c.args.self.now in
    none_behind reader.format reader.layout reader.generation reader.number reader.next (seen (g.D.Disk.past c.args.disk.now)) (omega (arith, c.if-next-area_end.true, c.area_end.ensures))

pub returns-in_default-clause-found : goal.returns-in_default-clause-found
returns-in_default-clause-found g c h =
    let reader = c.args.self.now in
    stops (subst (ReadsRecord reader.format reader.layout reader.generation (seen (g.D.Disk.past c.args.disk.now)) reader.number reader.next) c.in_default.is (c.in_ok-bytes.ensures.found h))

pub returns-clause-found : goal.returns-clause-found
returns-clause-found g c h =
    let reader = c.args.self.now in
    subst (ReadsRecord reader.format reader.layout reader.generation (seen (g.D.Disk.past c.args.disk.now)) reader.number reader.next) c.in-Some.is (c.in_ok-bytes.ensures.found h)
