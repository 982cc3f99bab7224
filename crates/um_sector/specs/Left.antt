-- The disk that a stop leaves, as it is found next.
-- No manual page has it: it is the usual model of sectors whose writes reach the disk in any order until a sync
-- answers.
-- `MemDisk::crash`, and the theorem of managers that outlive crashes, stand on this file.
use Rattle.um_model.specs.Disk.{Past, IsImage, Images, seen}

-- The next disk has no image but those that the stop left, and a read of it gives one of them.
pub record IsLeftBy (stop next : Past) : Type 0 where
  pub no_other : Images next (IsImage stop)
  pub read : IsImage next (seen next)
