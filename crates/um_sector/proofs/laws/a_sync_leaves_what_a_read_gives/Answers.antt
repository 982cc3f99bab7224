use Rattle.um_laws.proofs.DiskLaws.{image_synced}
use Rattle.um_sector.proofs.laws.a_sync_leaves_what_a_read_gives.Goals as goal

pub returns : goal.returns
returns c = image_synced
