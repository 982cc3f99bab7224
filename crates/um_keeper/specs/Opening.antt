-- The opening's reading of a disk, and why a disk isn't taken up.
-- No manual page has it: it is the project's own format (docs/FORMATS.md, "The store on its disk").
-- `Keeper::open` stands on this file.
use Rattle.std.specs.Prelude.{◌≡◌, ◌⊎◌, ◌+◌, ◌-◌, ◌^◌, ◌<◌, ◌≤◌, ℕ, List, [], ◌∷◌, ◌++◌, length, take, Option, Some, None}
use Rattle.um_model.specs.Bytes.{nothing_left}
use Rattle.um_model.specs.Disk.{Image, Past, IsImage, During, seen, after, synced}
use Rattle.um_model.specs.InputSpellings.{input_at}
use Rattle.um_model.specs.Machine.{State, Input, Reply, Step}
use Rattle.um_model.specs.Servable.{IsServable}
use Rattle.um_model.specs.Service.{Action}
use Rattle.um_model.specs.Stands.{StandsFor, IsStoreOf}
use Rattle.um_model.specs.StateSpellings.{state_at}
use Rattle.um_model.specs.Store.{store_name, format_name, superblock, slot_start, body_limit, area_start, area_end, store_sectors, top, Newest, newest_of, records_of, all_records, sectors_of, placed}
use Rattle.um_model.specs.Store as sectors
use Rattle.um_model.specs.declared.layout.Format.{Format}
use Rattle.um_model.specs.declared.layout.Format.TheVariants.{One, Two}
use Rattle.um_model.specs.declared.layout.Layout.{Layout}
use Rattle.um_model.specs.declared.layout.Slot.{Slot}
use Rattle.um_wire.specs.declared.refusal.Refusal.{Refusal}
use Rattle.um_wire.specs.declared.refusal.Refusal.TheVariants.{Damaged, NotFormatted, GenerationsSpent, OtherLayout}
use Rattle.um_log.specs.Greatest.{IsGreatestIn, IsGreatest}
use Rattle.um_log.specs.Uncounted.{Counts, EndsUncounted, EndsLater, StopsAt}
use Rattle.um_log.specs.declared.remains.Remains.{Remains}
use Rattle.um_slot.specs.Reading.{IsDamaged}
use Rattle.um_slot.specs.Snapshots.{HasNewest, WasNewest}
use Rattle.um_keeper.specs.declared.keeper.OpenedStore.{OpenedStore}
use Rattle.um_keeper.specs.declared.keeper.Uncounted.{Uncounted}

-- sector 0 names a format and a layout for which a disk of `count` sectors has room
pub record HasLayout (count : ℕ) (image : Image) (layout : Layout) : Type 0 where
  pub format : Format
  pub first : image 0 ≡ superblock format layout
  pub room : store_sectors layout ≤ count

-- the records that count beside the newest snapshot, each with its first sector
abbrev pub all_placed : Format → Layout → ℕ → Image → List (ℕ × List ℕ)
all_placed One layout newest image = placed (area_start One layout newest) (records_of One layout newest image)
all_placed Two layout newest image =
    placed (area_start Two layout newest) (records_of Two layout newest image)
    ++ placed (area_start Two layout (newest + 1)) (records_of Two layout (newest + 1) image)

-- a body spells a state that a store of this layout may hold
pub record IsStart (layout : Layout) (body : List ℕ) (s : State) : Type 0 where
  pub read : nothing_left (state_at body) ≡ Some s
  pub servable : IsServable (body_limit layout) s

-- an input leads to a state, whatever its answer and its actions are
pub record Leads (size : ℕ) (s : State) (input : Input) (t : State) : Type 0 where
  pub reply : Reply
  pub actions : List Action
  pub step : Step size s input reply actions t

-- the inputs that records spell lead in order from one state to another
pub data Replays (size : ℕ) : List (List ℕ) → State → State → Type 0 where
  no_more : {s : State} → Replays size [] s s
  and_then : {bytes : List ℕ} {records : List (List ℕ)} {input : Input} {s t u : State} → nothing_left (input_at bytes) ≡ Some input
      → Leads size s input t → Replays size records t u → Replays size (bytes ∷ records) s u

-- the first of these records that spells no input is the cause, named by its first sector
pub data IsNoInput : List (ℕ × List ℕ) → Refusal → Type 0 where
  here : {first : ℕ} {bytes : List ℕ} {places : List (ℕ × List ℕ)} → nothing_left (input_at bytes) ≡ None → IsNoInput ((first, bytes) ∷ places) (Damaged first)
  later : {first : ℕ} {bytes : List ℕ} {input : Input} {places : List (ℕ × List ℕ)} {e : Refusal} → nothing_left (input_at bytes) ≡ Some input
      → IsNoInput places e → IsNoInput ((first, bytes) ∷ places) e

-- Why the image that is read of a disk of `count` sectors isn't taken up: the first of these that applies.
pub data IsUnread (count : ℕ) (image : Image) : Refusal → Type 0 where
  no_sector : count ≡ 0 → IsUnread count image NotFormatted
  no_store : 0 < count → ¬ (take 6 (image 0) ≡ store_name) → IsUnread count image NotFormatted
  other_format : 0 < count → take 6 (image 0) ≡ store_name → ((format : Format) → ¬ (take 8 (image 0) ≡ format_name format)) → IsUnread count image OtherLayout
  no_layout : (format : Format) → 0 < count → take 8 (image 0) ≡ format_name format → ((layout : Layout) → ¬ HasLayout count image layout)
      → IsUnread count image (Damaged 0)
  no_header : {layout : Layout} → HasLayout count image layout → newest_of layout image ≡ None → IsUnread count image (Damaged 1)
  no_state : {layout : Layout} {n : Newest} → HasLayout count image layout → newest_of layout image ≡ Some n
      → ((s : State) → ¬ IsStart layout n.body s) → IsUnread count image (Damaged (slot_start layout n.slot + 1))
  no_input : {layout : Layout} {n : Newest} {s : State} {e : Refusal} (has : HasLayout count image layout) → newest_of layout image ≡ Some n
      → IsStart layout n.body s → IsNoInput (all_placed has.format layout n.generation image) e → IsUnread count image e

-- all records of the generation lie before this number and this place
pub record IsBehind (format : Format) (layout : Layout) (generation : ℕ) (image : Image) (number next : ℕ) : Type 0 where
  pub count : number ≡ length (records_of format layout generation image)
  pub place : next ≡ area_start format layout generation + sectors_of (records_of format layout generation image)

-- The image that is read is taken up: a store of this layout on the disk, whose newest snapshot and the records beside
-- it lead to the state.
pub record IsTakenUp (count : ℕ) (image : Image) (layout : Layout) (slot : Slot) (generation : ℕ) (s : State) : Type 0 where
  pub has : HasLayout count image layout
  pub body : List ℕ
  pub newest : sectors.IsNewest layout image slot generation body
  pub start : State
  pub starts : IsStart layout body start
  pub replays : Replays (body_limit layout) (all_records has.format layout generation image) start s

-- the greatest generation that stands there, or None: those whose records count don't all have eight bytes
abbrev pub IsLast : Layout → Image → ℕ → Option ℕ → Type 0
IsLast layout image newest None = 2 ^ 64 - 1 < newest
IsLast layout image newest (Some greatest) = IsGreatest layout image newest greatest

-- The image that is read would be taken up, but the greatest generation that stands there is the last one, or the next
-- whose records would count is past that, so that no next snapshot can be written.
pub record IsSpent (count : ℕ) (image : Image) : Type 0 where
  pub layout : Layout
  pub slot : Slot
  pub generation : ℕ
  pub state : State
  pub taken : IsTakenUp count image layout slot generation state
  pub last : (2 ^ 64 - 1 < top taken.has.format generation) ⊎ IsGreatest layout image (top taken.has.format generation) (2 ^ 64 - 1)

-- The image that is read is taken up, in that format, and the greatest generation that stands there is that one.
pub record IsFound (count : ℕ) (image : Image) (format : Format) (layout : Layout) (slot : Slot) (generation : ℕ) (greatest : Option ℕ) (s : State)
    : Type 0 where
  pub taken : IsTakenUp count image layout slot generation s
  pub format_is : taken.has.format ≡ format
  pub greatest_is : IsLast layout image (top format generation) greatest

-- Why a disk isn't taken up: for a cause of its reading, or by E20.
pub data IsUntaken (count : ℕ) (image : Image) : Refusal → Type 0 where
  unread : {e : Refusal} → IsUnread count image e → IsUntaken count image e
  spent : IsSpent count image → IsUntaken count image GenerationsSpent

-- The state that was taken up of an image, in the other slot, one generation after the greatest that stood there.
pub record IsNextOf (count : ℕ) (image : Image) (layout : Layout) (slot : Slot) (generation : ℕ) (s : State) : Type 0 where
  pub before : Slot
  pub earlier : ℕ
  pub greatest : ℕ
  pub turned : slot ≡ sectors.other before
  pub taken : IsTakenUp count image layout before earlier s
  pub is_greatest : IsGreatest layout image (top taken.has.format earlier) greatest
  pub next : generation ≡ greatest + 1

-- the number of records of a generation that count, and the first sector after them
abbrev pub count_in : Format → Layout → ℕ → Image → ℕ
count_in format layout generation image = length (records_of format layout generation image)

abbrev pub end_in : Format → Layout → ℕ → Image → ℕ
end_in format layout generation image = area_start format layout generation + sectors_of (records_of format layout generation image)

-- after the records of a generation that count stand this many whole ones of it with a greater number
abbrev pub HasUncounted : Format → Layout → ℕ → Image → ℕ → Type 0
HasUncounted format layout generation image =
    Counts (EndsUncounted format layout image (end_in format layout generation image) generation (count_in format layout generation image))
    (end_in format layout generation image) (area_end format layout generation)

-- and this many of later generations
abbrev pub HasLater : Format → Layout → ℕ → Image → ℕ → Type 0
HasLater format layout generation image =
    Counts (EndsLater format layout image (end_in format layout generation image) generation) (end_in format layout generation image)
    (area_end format layout generation)

-- the reading of the records of a generation ends with that sector
abbrev pub EndsAt : Format → Layout → ℕ → Image → ℕ → Type 0
EndsAt format layout generation image =
    StopsAt format layout generation image (count_in format layout generation image) (end_in format layout generation image)

-- The number of whole records that don't count, of the two generations whose records count in format 2, with the sector
-- at which the reading ends of the first that leaves some.
pub record IsCutOff (layout : Layout) (newest : ℕ) (image : Image) (cut : Uncounted) : Type 0 where
  pub here : ℕ
  pub behind : ℕ
  pub some : 0 < cut.records
  pub records_are : cut.records ≡ here + behind
  pub here_is : HasUncounted Two layout newest image here
  pub behind_is : HasUncounted Two layout (newest + 1) image behind
  pub ends_here : 0 < here → EndsAt Two layout newest image cut.sector
  pub ends_behind : here ≡ 0 → EndsAt Two layout (newest + 1) image cut.sector

-- the report on whole records that don't count, of the generations that do: their number, and the sector with which the
-- reading ends; or there are none
abbrev pub TellsCutOff : Format → Layout → ℕ → Image → Option Uncounted → Type 0
TellsCutOff One layout generation image None = HasUncounted One layout generation image 0
TellsCutOff Two layout generation image None = HasUncounted Two layout generation image 0 × HasUncounted Two layout (generation + 1) image 0
TellsCutOff One layout generation image (Some cut) =
    (0 < cut.records) × HasUncounted One layout generation image cut.records × EndsAt One layout generation image cut.sector
TellsCutOff Two layout generation image (Some cut) = IsCutOff layout generation image cut

-- the number of whole records in the log of generations later than those whose records stand in their place and count
abbrev pub HaveLater : Format → Layout → ℕ → Image → ℕ → Type 0
HaveLater One layout generation image count = HasLater One layout generation image count
HaveLater Two layout generation image count =
    (here behind : ℕ) × (count ≡ here + behind) × HasLater Two layout generation image here × HasLater Two layout (generation + 1) image behind

-- the report on the other slot, beside the newest one: its first sector is damaged, and this many whole records of
-- later generations stand in the log; or it isn't damaged
abbrev pub TellsDamaged : Format → Layout → Slot → ℕ → Image → Option Uncounted → Type 0
TellsDamaged format layout slot generation image None = ¬ IsDamaged layout (image (slot_start layout (sectors.other slot)))
TellsDamaged format layout slot generation image (Some damaged) =
    IsDamaged layout (image (slot_start layout (sectors.other slot))) × (damaged.sector ≡ slot_start layout (sectors.other slot))
    × HaveLater format layout generation image damaged.records

-- The findings in an image: the generation of its newest header, the number of records that count beside it, which are
-- replayed, and the reports on records that don't count and on the other slot.
pub record IsRead (layout : Layout) (image : Image) (opened : OpenedStore) : Type 0 where
  pub format : Format
  pub first : image 0 ≡ superblock format layout
  pub newest : Newest
  pub is_newest : newest_of layout image ≡ Some newest
  pub generation_is : opened.generation ≡ newest.generation
  pub records_are : opened.records ≡ length (all_records format layout newest.generation image)
  pub cut_off_is : TellsCutOff format layout newest.generation image opened.cut_off
  pub damaged_is : TellsDamaged format layout newest.slot newest.generation image opened.damaged

-- the remains in a generation's place in the log, after its records
pub record Remain (format : Format) (layout : Layout) (generation : ℕ) (image : Image) (remains : Remains) : Type 0 where
  pub greatest : IsGreatestIn format layout generation image remains.greatest
  pub uncounted : HasUncounted format layout generation image remains.uncounted
  pub later : HasLater format layout generation image remains.later
  pub stop : end_in format layout generation image < area_end format layout generation → EndsAt format layout generation image remains.stop

-- and the remains after the records of the next generation, if they count too and there is one
abbrev pub RemainBehind : Format → Layout → ℕ → Image → Option Remains → Type 0
RemainBehind One layout newest image None = Unit {0}
RemainBehind One layout newest image (Some remains) = ⊥
RemainBehind Two layout newest image None = 2 ^ 64 - 1 < newest + 1
RemainBehind Two layout newest image (Some remains) = Remain Two layout (newest + 1) image remains

-- The number of records that count, all of which were read, with the remains after them.
pub record AreRead (format : Format) (layout : Layout) (newest : ℕ) (image : Image) (records : ℕ) (here : Remains) (behind : Option Remains) : Type 0 where
  pub count : records ≡ length (all_records format layout newest image)
  pub here_is : Remain format layout newest image here
  pub behind_is : RemainBehind format layout newest image behind

-- the states that a store of this layout may hold
pub record IsKept (layout : Layout) (size : ℕ) (s : State) : Type 0 where
  pub size_is : size ≡ body_limit layout
  pub servable : IsServable size s

-- it stands for some state
pub record IsSomeStore (layout : Layout) (image : Image) : Type 0 where
  pub state : State
  pub stands : StandsFor layout image state

-- The image stands for this state; and if the image before was one that a store of the state leaves, so is this one.
pub record IsStill (layout : Layout) (from : Image) (s : State) (image : Image) : Type 0 where
  pub stands : StandsFor layout image s
  pub store : IsStoreOf layout from s → IsStoreOf layout image s

-- it stands for a state that one of the images of before stood for
pub record IsAsBefore (layout : Layout) (past : Past) (image : Image) : Type 0 where
  pub from : Image
  pub was : IsImage past from
  pub state : State
  pub before : StandsFor layout from state
  pub now : IsStill layout from state image

-- The image that a read gave stands for the state; the first call was a sync, and from then on each image stands for
-- that state.
pub record StaysFor (layout : Layout) (s : State) (old new : Past) : Type 0 where
  pub stands : StandsFor layout (seen old) s
  pub during : During (after synced old) new (IsStill layout (seen old) s)

-- the image that a read gave stands for a state, and each image still does from the first sync on
pub record StaysForOne (old new : Past) : Type 0 where
  pub layout : Layout
  pub state : State
  pub stays : StaysFor layout state old new

-- the newest snapshot and the log of an image of before, or a store of the state
abbrev pub WasOrStores : Format → Layout → Past → Slot → ℕ → List ℕ → State → Image → Type 0
WasOrStores format layout past slot newest before s image = WasNewest format layout past slot newest before image ⊎ IsStoreOf layout image s

-- a store with this newest snapshot, in one format or another
pub record HasNewestIn (layout : Layout) (slot : Slot) (newest : ℕ) (body : List ℕ) (last : ℕ) (image : Image) : Type 0 where
  pub format : Format
  pub has : HasNewest format layout slot newest body last image

-- nothing was written: the disk was synced, or not even that
abbrev pub IsUnwritten : Past → Past → Type 0
IsUnwritten old new = (new ≡ old) ⊎ (new ≡ after synced old)
