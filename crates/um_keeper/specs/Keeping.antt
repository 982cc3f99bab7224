-- The invariant of a keeper's disk: whichever image a crash leaves, it is a store of the engine's state, and the log
-- goes on at its place.
-- No manual page has it: it is the project's own format (docs/FORMATS.md, "The store on its disk").
-- The keeper and its opening stand on this file.
use Rattle.std.specs.Prelude.{◌≡◌, ◌+◌, ◌-◌, ◌≤◌, ℕ, length, Bool, true, false, if◌then◌else◌, List, [], ◌∷◌, take, Some, is_some}
use Rattle.um_model.specs.Bytes.{nothing_left}
use Rattle.um_model.specs.Disk.{Past, Image, Images, seen}
use Rattle.um_model.specs.InputSpellings.{input_spelling}
use Rattle.um_model.specs.Machine.{State, Input, Run}
use Rattle.um_model.specs.Servable.{IsServable}
use Rattle.um_model.specs.StateSpellings.{FitState, state_spelling, state_at}
use Rattle.um_model.specs.Stands.{Contents, contents_of, inputs_of, IsStoreOf}
use Rattle.um_model.specs.Store.{current, other, superblock, body_limit, log_start, log_end, store_sectors, Newest, newest_of, records_of, sectors_of, sector_count, part_count, IsNoneAbove, IsFree}
use Rattle.um_model.specs.declared.layout.Layout.{Layout}
use Rattle.um_model.specs.declared.layout.Slot.{Slot}
use Rattle.um_slot.specs.Snapshots.{IsWritten}

-- ---- a snapshot under way

-- there is one where its bytes are kept: no state has none
abbrev pub has_bytes : List ℕ → Bool
has_bytes [] = false
has_bytes (x ∷ kept) = true

-- the number of sectors of its body that are left, after those that were written
abbrev pub left_of : List ℕ → ℕ → ℕ
left_of kept written = sector_count (length kept) - written

-- the number of calls that finish it: one a sector that is left, a sync, its header, a sync
abbrev pub finish_calls : List ℕ → ℕ → ℕ
finish_calls kept written = if has_bytes kept then left_of kept written + 3 else 0

-- records go on as the newest snapshot's generation, with one under way as the next
abbrev pub log_generation : ℕ → List ℕ → ℕ
log_generation newest kept = newest + (if has_bytes kept then 1 else 0)

-- ---- facts that always hold

-- Facts that always hold of a keeper's state: a store of this layout may hold it, and it has bytes, from which it is
-- read again.
pub record MayHold (layout : Layout) (size : ℕ) (s : State) : Type 0 where
  pub size_is : size ≡ body_limit layout
  pub servable : IsServable size s
  pub fits : ∥ FitState s ∥₁

-- Facts that always hold of the disk of a keeper that hasn't failed, if the disk does what it answers. They are stated
-- by the image that is read alone, without saying of any state or input that there is one, so that each is the same fact
-- however it was established.
pub record Keeps (past : Past) (sectors : ℕ) (layout : Layout) (slot : Slot) (newest : ℕ) (kept : List ℕ) (written generation number next : ℕ) (s : State)
    : Type 0 where
  -- the log takes records of the newest snapshot's generation, or of the next, with a snapshot under way
  pub same : generation ≡ log_generation newest kept
  -- each image that a crash may leave is a store of this layout, with the newest snapshot and the records of both
  -- generations that a read gives
  pub first : Images past (λ image. image 0 ≡ superblock current layout)
  pub newest_is : Images past (λ image. newest_of layout image ≡ newest_of layout (seen past))
  pub front : Images past (λ image. records_of current layout newest image ≡ records_of current layout newest (seen past))
  pub logged : Images past (λ image. records_of current layout generation image ≡ records_of current layout generation (seen past))
  -- no sector of the log is of a generation above that of the log, and from the next record's on none is of this one
  pub above : Images past (λ image. IsNoneAbove layout image generation)
  pub free : Images past (λ image. IsFree layout generation image next)
  -- the snapshot and the records that count spell a state and inputs, and the run over them ends in the state
  pub holds : is_some (contents_of current layout (seen past)) ≡ true
  pub home : (c : Contents) → contents_of current layout (seen past) ≡ Some c → (c.slot ≡ slot) × (c.generation ≡ newest)
  pub start : (c : Contents) → contents_of current layout (seen past) ≡ Some c → IsServable (body_limit layout) c.start
  pub run : (c : Contents) → contents_of current layout (seen past) ≡ Some c → (t : State) → Run (body_limit layout) c.start c.inputs t → t ≡ s
  -- the next record goes after those of the log's generation
  pub count : number ≡ length (records_of current layout generation (seen past))
  pub place : next ≡ log_start layout generation + sectors_of (records_of current layout generation (seen past))
  pub within : next ≤ log_end layout generation
  pub on_disk : store_sectors layout ≤ sectors
  -- a snapshot under way is of the state after the records of the newest one's generation, whatever state that is
  pub aside : has_bytes kept ≡ true → (n : Newest) → newest_of layout (seen past) ≡ Some n → (start : State) (inputs : List Input)
      → nothing_left (state_at n.body) ≡ Some start → inputs_of (records_of current layout newest (seen past)) ≡ Some inputs
      → (t : State) → Run (body_limit layout) start inputs t → (nothing_left (state_at kept) ≡ Some t) × IsServable (body_limit layout) t
  -- and a read gives this many of its sectors in the other slot
  pub written_is : IsWritten layout (seen past) (other slot) kept written

-- a store of the state after a beginning of these inputs
pub record IsBegun (layout : Layout) (s : State) (inputs : List Input) (image : Image) : Type 0 where
  pub count : ℕ
  pub state : State
  pub run : Run (body_limit layout) s (take count inputs) state
  pub store : IsStoreOf layout image state

-- The most calls on the disk that a record of the input takes: one a part, and a sync.
abbrev pub record_calls : Input → ℕ
record_calls input = part_count (length (input_spelling input)) + 1

-- The most that a snapshot of the state takes: one a sector of the body, one for the header, and two syncs.
abbrev pub snapshot_calls : State → ℕ
snapshot_calls s = sector_count (length (state_spelling s)) + 3
