-- There are lives of which the theorem's premises hold.
-- No manual page has it: crash safety is this project's own promise (docs/HEADLINE.md reads the theorem line by line).
-- The instance of two lives stands on this file.
use Rattle.std.specs.Prelude.{List}
use Rattle.um_manager.specs.Histories.{History, HasGoneOn, AreTrusted}
use Rattle.um_manager.specs.Lives.{DiskPremises, ChildrenPremises}
use Rattle.um_manager.specs.Living.{ManagerLife}
use Rattle.um_manager.specs.Turns.{Now}
use Rattle.um_model.specs.Children.{Call}
use Rattle.um_model.specs.Disk.{Past, seen}
use Rattle.um_model.specs.Machine.{State, empty_state}
use Rattle.um_model.specs.Stands.{StandsFor}
use Rattle.um_model.specs.declared.layout.Layout.{Layout}

-- A life so far, over a disk and children as they were before it: if the disk did what it answers (`Sure`) it goes on,
-- and was opened on a store; if the children did, and no call is missing (`Known`), its history is trusted.
pub record SoFar (layout : Layout) (disk : Past) (before : List Call) (Sure Known : Type 0) (b : Now) : Type 0 where
  pub past : History disk before b
  pub gone : Sure → HasGoneOn layout past
  pub found : Sure → (s : State) × StandsFor layout (seen disk) s
  pub are_trusted : Known → AreTrusted past

-- There are lives that end with this disk and these calls, of which the premises hold: of the disk, and, if `Known`, of
-- the children.
pub record IsInstance (layout : Layout) (stop : Past) (calls : List Call) (Known : Type 0) : Type 0 where
  pub lives : List ManagerLife
  pub disk : DiskPremises layout empty_state lives stop
  pub children : Known → ChildrenPremises lives calls
