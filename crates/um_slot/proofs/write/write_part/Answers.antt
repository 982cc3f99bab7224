use Rattle.um_slot.proofs.Snapshots.{none_beside}
use Rattle.um_slot.proofs.write.write_part.Goals as goal

pub returns-then-body-body_limit-clause-during : goal.returns-then-body-body_limit-clause-during
returns-then-body-body_limit-clause-during g c h = none_beside c.args.layout (g.D.Disk.past c.args.disk.now) c.args.home.slot
