use Rattle.um_laws.proofs.DiskLaws.{written_image}
use Rattle.um_sector.proofs.laws.a_write_changes_one_sector_or_none.Goals as goal

pub returns : goal.returns
returns c = written_image
