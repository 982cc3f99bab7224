-- The summary of the image of a store.
-- No manual page has it: it is the project's own format (docs/FORMATS.md, "The store on its disk").
-- `inspect` and `look` stand on this file.
use Rattle.std.specs.Prelude.{◌≡◌, ◌≤◌, ℕ, length}
use Rattle.um_model.specs.Disk.{Image}
use Rattle.um_model.specs.Machine.{State}
use Rattle.um_model.specs.Stands.{StandsFor}
use Rattle.um_model.specs.Store.{store_sectors}
use Rattle.um_model.specs.declared.layout.Layout.{Layout}
use Rattle.um_keeper.specs.Opening.{TellsCutOff, TellsDamaged}
use Rattle.um_keeper.specs.declared.inspecting.Summary.{Summary}

-- The summary is of a store for which a disk of `count` sectors has room, and of the state for which the store stands.
pub record IsSummed (count : ℕ) (image : Image) (m : Summary) (s : State) : Type 0 where
  pub layout : Layout
  pub room : store_sectors layout ≤ count
  pub stands : StandsFor layout image s
  pub generation_is : m.generation ≡ stands.contents.generation
  pub records_are : m.records ≡ length stands.contents.inputs
  pub clock_is : m.clock ≡ s.clock
  pub next_is : m.next ≡ s.next
  pub cut_off_is : TellsCutOff stands.format layout m.generation image m.cut_off
  pub damaged_is : TellsDamaged stands.format layout stands.contents.slot m.generation image m.damaged

-- the summary is of some state
pub record IsSomeSummed (count : ℕ) (image : Image) (m : Summary) : Type 0 where
  pub state : State
  pub summed : IsSummed count image m state
