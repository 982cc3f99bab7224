-- How children answer a call that isn't done.
-- No manual page has this: processes under numbers are the project's own.
-- Children and the running manager stand on this file.
use Rattle.std.specs.Prelude.{◌≡◌, ℕ, Bool, IsTrue, Result, Ok, Err}
use Rattle.um_model.specs.Disk.{one_more}
use Rattle.um_children.specs.declared.fault.ChildFault.{ChildFault}
use Rattle.um_children.specs.declared.fault.ChildFault.TheVariants as fault
use Rattle.um_runner.specs.declared.fault.FolderFault.{FolderFault}
use Rattle.um_runner.specs.declared.fault.FolderFault.TheVariants as folder
use Rattle.um_wire.specs.declared.refusal.Refusal.{Refusal}
use Rattle.um_wire.specs.declared.refusal.Refusal.TheVariants as refusal

-- a refusal of the folder of the runners is a failure of the children
abbrev pub fault_of : FolderFault → ChildFault
fault_of folder.NoMemory = fault.NoMemory
fault_of (folder.System error) = fault.Device

-- as the manager refuses it
abbrev pub refusal_of : ChildFault → Refusal
refusal_of fault.NoMemory = refusal.NoMemory
refusal_of fault.Device = refusal.Device
refusal_of fault.TooLong = refusal.Device

-- the count of failures rises exactly where the children failed
abbrev pub CountsFault : {T : Type 0} → Result T ChildFault → ℕ → ℕ → Type 0
CountsFault (Ok x) old new = new ≡ old
CountsFault (Err fault.NoMemory) old new = new ≡ old
CountsFault (Err fault.TooLong) old new = new ≡ old
CountsFault (Err fault.Device) old new = new ≡ one_more old

-- a call can be missing from the history only where the children failed
abbrev pub KeepsWhole : {T : Type 0} → Result T ChildFault → Bool → Bool → Type 0
KeepsWhole (Ok x) old new = new ≡ old
KeepsWhole (Err fault.NoMemory) old new = new ≡ old
KeepsWhole (Err fault.TooLong) old new = new ≡ old
KeepsWhole (Err fault.Device) old new = IsTrue new → IsTrue old
