-- The facts of a file as a disk that contracts of other crates use: the number of calls made on it, and of its sectors.
-- No manual page has this: it is the project's own.
-- The making of stores stands on this file.
use Rattle.std.specs.Prelude.{ℕ}
use Rattle.um_filedisk.specs.declared.file.FileDisk.{FileDisk}

-- the calls since it was opened or made, a failing one included
abbrev pub calls_in : {R : Type 0} → FileDisk R → ℕ
calls_in disk = disk.calls

abbrev pub sectors_in : {R : Type 0} → FileDisk R → ℕ
sectors_in disk = disk.sectors
