-- How a call over a disk that can be refused counts the disk's failures.
-- No manual page has it: it is the project's own protocol.
-- The log, the slots and the keeper stand on this file.
use Rattle.std.specs.Prelude.{◌≡◌, ◌⊎◌, ℕ, Result, Ok, Err}
use Rattle.um_model.specs.Disk.{one_more}
use Rattle.um_wire.specs.declared.refusal.Refusal.{Refusal}
use Rattle.um_wire.specs.declared.refusal.Refusal.TheVariants.{Device, NoMemory}

-- the count of failures rises, and by one, exactly where the refusal is that of the device
abbrev pub CountsDevice : {T : Type 0} → Result T Refusal → ℕ → ℕ → Type 0
CountsDevice (Ok x) old new = new ≡ old
CountsDevice (Err e) old new = ((e ≡ Device) × (new ≡ one_more old)) ⊎ ((¬ (e ≡ Device)) × (new ≡ old))

-- a call that only reads or writes is refused for want of memory, or by the device
abbrev pub IsLost : Refusal → Type 0
IsLost e = (e ≡ NoMemory) ⊎ (e ≡ Device)
