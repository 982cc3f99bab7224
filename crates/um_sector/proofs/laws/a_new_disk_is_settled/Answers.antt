use Rattle.um_laws.proofs.DiskLaws.{settled_at_start}
use Rattle.um_sector.proofs.laws.a_new_disk_is_settled.Goals as goal

pub returns : goal.returns
returns c = settled_at_start
