-- Why no store was made, and the exit statuses of a program that makes one.
-- No manual page has this: it is the program's own (docs/FORMATS.md, "The program").
-- The making of stores stands on this file.
use Rattle.std.specs.Prelude.{⊤, ◌≢◌, ℕ}
use Rattle.um_create.specs.declared.fault.CreateFault.{CreateFault}
use Rattle.um_create.specs.declared.fault.CreateFault.TheVariants.{Exists, File, Store}
use Rattle.um_filedisk.specs.declared.fault.FileFault.{FileFault}
use Rattle.um_filedisk.specs.declared.fault.FileFault.TheVariants as file
use Rattle.um_sector.specs.Refused.{IsLost}
use Rattle.um_wire.specs.declared.refusal.Refusal.TheVariants.{NoMemory}

-- 1 where it was refused, 5 where the file or the disk failed
abbrev pub status_of : CreateFault → ℕ
status_of Exists = 1
status_of (File fault) = 5
status_of (Store NoMemory) = 1
status_of (Store refusal) = 5

-- a file that is there is reported as that alone
abbrev pub fault_of : FileFault → CreateFault
fault_of file.Exists = Exists
fault_of fault = File fault

-- the possible faults: something stands there, the system's own faults of a file, and of the disk want of memory or its
-- own fault
abbrev pub IsMet : CreateFault → Type 0
IsMet Exists = ⊤
IsMet (File fault) = (fault ≢ file.Exists) × (fault ≢ file.TooLarge)
IsMet (Store refusal) = IsLost refusal
