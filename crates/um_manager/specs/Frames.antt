-- The frame of a call over a store and children: the parts it leaves as they were, whatever else it does and whatever it answers.
-- No manual page has it: it is the project's own.
-- The manager's calls and the server's stand on this file.
use Rattle.std.specs.Prelude.{◌≡◌, ◌⊎◌, ◌↔◌, true, Result, Err}
use Rattle.um_children.specs.Frames.{KeepsChildren}
use Rattle.um_children.specs.declared.children.Children as children
use Rattle.um_keeper.specs.Keepers.{disk_in, has_failed, IsSamePlace}
use Rattle.um_keeper.specs.declared.keeper.Keeper.{Keeper}
use Rattle.um_sector.specs.declared.disk.Disk as disk
use Rattle.um_wire.specs.declared.refusal.Refusal.{Refusal}
use Rattle.um_wire.specs.declared.refusal.Refusal.TheVariants.{Device}

-- The store after a call stands where it stood, as it was opened, on a disk that is as honest as before; and it has
-- failed if it had, or if the call answers E16.
pub record KeepsStore {D T : Type 0} {g : _} (d : disk.Ghosts D) (result : Result T Refusal) (old new : Keeper D g) : Type 0 where
  pub place : IsSamePlace old new
  pub disk : d.honest (disk_in new) ≡ d.honest (disk_in old)
  pub failed : (has_failed new ≡ true) ↔ ((has_failed old ≡ true) ⊎ (result ≡ Err Device))

-- the frame of a call: both
pub record Frame {D C T : Type 0} {g : _} (d : disk.Ghosts D) (c : children.Ghosts C) (result : Result T Refusal) (old new : Keeper D g) (before behind : C)
    : Type 0 where
  pub store : KeepsStore d result old new
  pub children : KeepsChildren c before behind
