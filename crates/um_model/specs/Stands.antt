-- The state that an image of a store stands for: its newest body spells a state, and each record that counts beside it is a step from there.
-- No manual page has it: it is the project's own format (docs/FORMATS.md, "The store on its disk").
-- The lives of a store and the keeper depend on this file.
use Rattle.std.specs.Prelude.{◌≡◌, ℕ, ◌+◌, List, [], ◌∷◌, Option, Some}
use Rattle.um_model.specs.Bytes.{◌>>=◌, nothing_left}
use Rattle.um_model.specs.Disk.{Image}
use Rattle.um_model.specs.InputSpellings.{input_at}
use Rattle.um_model.specs.Machine.{State, Input, Run}
use Rattle.um_model.specs.Servable.{IsServable}
use Rattle.um_model.specs.StateSpellings.{state_at}
use Rattle.um_model.specs.Store.{superblock, body_limit, newest_of, top, all_records, IsNoneAbove}
use Rattle.um_model.specs.declared.layout.Format.{Format}
use Rattle.um_model.specs.declared.layout.Layout.{Layout}
use Rattle.um_model.specs.declared.layout.Slot.{Slot}

-- the inputs that records spell, each the whole of its record
abbrev pub inputs_of : List (List ℕ) → Option (List Input)
inputs_of [] = Some []
inputs_of (bytes ∷ records) = nothing_left (input_at bytes) >>= λ input. inputs_of records >>= λ inputs. Some (input ∷ inputs)

-- The contents of a store: a snapshot of a state with its slot and its generation, and the inputs that were recorded since.
pub record Contents : Type 0 where
  pub slot : Slot
  pub generation : ℕ
  pub start : State
  pub inputs : List Input

-- the newest body spells the state, and each record that counts beside it an input
abbrev pub contents_of : Format → Layout → Image → Option Contents
contents_of format layout image =
    newest_of layout image >>= λ n. nothing_left (state_at n.body) >>= λ s. inputs_of (all_records format layout n.generation image) >>= λ inputs.
    Some (record { slot = n.slot; generation = n.generation; start = s; inputs = inputs })

-- The image of a store of this layout stands for the state: a run over the recorded inputs, from the snapshot on, ends there.
pub record StandsFor (layout : Layout) (image : Image) (s : State) : Type 0 where
  pub format : Format
  pub first : image 0 ≡ superblock format layout
  pub contents : Contents
  pub holds : contents_of format layout image ≡ Some contents
  pub servable : IsServable (body_limit layout) contents.start
  pub run : Run (body_limit layout) contents.start contents.inputs s

-- An image that a store of the state leaves: no sector of its log is of a generation above those that count, which a later snapshot would bring to
-- count.
pub record IsStoreOf (layout : Layout) (image : Image) (s : State) : Type 0 where
  pub stands : StandsFor layout image s
  pub none_later : IsNoneAbove layout image (top stands.format stands.contents.generation)
