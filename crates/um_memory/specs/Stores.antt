-- The state that a store in memory stands for, and its refusals.
use Rattle.std.specs.Prelude.{◌≡◌, ◌≢◌, ℕ}
use Rattle.um_model.specs.Disk.{Image}
use Rattle.um_model.specs.Machine.{State}
use Rattle.um_model.specs.Stands.{IsStoreOf}
use Rattle.um_model.specs.declared.layout.Layout.{Layout}
use Rattle.um_wire.specs.declared.refusal.Refusal.{Refusal}
use Rattle.um_wire.specs.declared.refusal.Refusal.TheVariants.{NoMemory, Device, Reopen, GenerationsSpent}

-- the size of the store that `umd --memory` works over, in bytes
abbrev pub memory_size : ℕ
memory_size = 8388096

-- if the image is a store of a state, then of this layout and of this state
abbrev pub StandsIn : Image → Layout → State → Type 0
StandsIn image layout s = (l : Layout) (t : State) → IsStoreOf l image t → (layout ≡ l) × (s ≡ t)

-- none of the refusals of the store itself that a step may meet
pub record IsOfStep (e : Refusal) : Type 0 where
  pub memory : e ≢ NoMemory
  pub device : e ≢ Device
  pub reopen : e ≢ Reopen
  pub spent : e ≢ GenerationsSpent
