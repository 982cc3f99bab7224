-- The history of a disk in memory.
-- No manual page has it: it is the disk model of um_model.
-- MemDisk's public calls stand on this file.
use Rattle.um_model.specs.Disk.{Past}
use Rattle.um_sector.specs.Noted.{past_of}
use Rattle.um_sector.specs.declared.memory.MemDisk.{MemDisk}

-- the content the disk was made with, and the calls since
abbrev pub history : MemDisk → Past
history disk = past_of disk.start.items disk.noted.items
