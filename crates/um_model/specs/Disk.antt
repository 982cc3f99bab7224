-- The disk model: the calls on a disk since it was made, the values that a read gives, and the images that a crash may leave.
-- No manual page has it: it is the usual model of sectors whose writes reach the disk in any order until a sync answers.
-- The trait `Disk` and its devices, the log, the slots and the keeper depend on this file.
use Rattle.std.specs.Prelude.{◌≡◌, ◌⊎◌, ◌+◌, ◌≤◌, min, ℕ, suc, ◌==◌, if◌then◌else◌, List, [], ◌∷◌, ◌++◌, length}
use Rattle.std.specs.Prelude.{Result, Ok, Err}
use Rattle.std.specs.List.{Contains}
use Rattle.um_model.specs.Moments.{last_of_64_bits}

-- the 512 bytes of a sector
abbrev pub Sector : Type 0
Sector = List ℕ

-- the bytes of each sector
abbrev pub Image : Type 0
Image = ℕ → Sector

-- the image with one sector changed
abbrev pub with_sector : Image → ℕ → Sector → Image
with_sector image k value = λ j. if j == k then value else image j

-- A call that changes what a crash may leave.
pub data Call : Type 0 where
  -- sector, value, and the value that a read gives from then on
  wrote : ℕ → Sector → Sector → Call
  -- a sync that answered Ok
  synced : Call

-- the image that the disk was made with, and the calls since, the newest first
pub record Past : Type 0 where
  pub start : Image
  pub calls : List Call

-- the value that a read gives of each sector after these calls
abbrev pub seen_after : Image → List Call → Image
seen_after start [] = start
seen_after start (wrote k value kept ∷ calls) = with_sector (seen_after start calls) k kept
seen_after start (synced ∷ calls) = seen_after start calls

-- the value that a read gives of each sector now
abbrev pub seen : Past → Image
seen past = seen_after past.start past.calls

-- A sector's candidates after these calls: a write adds its value at the end, a sync leaves just the value that a read gives.
abbrev pub candidates_after : Image → List Call → ℕ → List Sector
candidates_after start [] k = start k ∷ []
candidates_after start (wrote j value kept ∷ calls) k = if k == j then candidates_after start calls k ++ value ∷ [] else candidates_after start calls k
candidates_after start (synced ∷ calls) k = seen_after start calls k ∷ []

-- a sector's candidates now, the value at the last sync first
abbrev pub candidates : Past → ℕ → List Sector
candidates past k = candidates_after past.start past.calls k

-- an image picks a candidate of each sector, of each independently
abbrev pub IsImage : Past → Image → Type 0
IsImage past image = (k : ℕ) → Contains (candidates past k) (image k)

-- the moment: how many such calls were made (a call that changes nothing shares the images of the moment before)
abbrev pub moment : Past → ℕ
moment past = length past.calls

-- an image of some moment from t on, after these calls
abbrev pub ImageSince : Image → List Call → ℕ → Image → Type 0
ImageSince start [] t image = (t ≤ 0) × IsImage (record { start = start; calls = [] }) image
ImageSince start (call ∷ calls) t image =
    ((t ≤ suc (length calls)) × IsImage (record { start = start; calls = call ∷ calls }) image) ⊎ ImageSince start calls t image

-- one call more
abbrev pub after : Call → Past → Past
after call past = record { start = past.start; calls = call ∷ past.calls }

-- A write that failed but was made: a read gives one candidate from then on, the same until the next write.
pub record MaybeWrote (old : Past) (k : ℕ) (value : Sector) (new : Past) : Type 0 where
  pub kept : Sector
  pub candidate : Contains (candidates old k ++ value ∷ []) kept
  pub is : new ≡ after (wrote k value kept) old

-- a write answered: at Ok a read gives its value from then on, at Err it was made or it wasn't
abbrev pub Wrote : {T E : Type 0} → Result T E → Past → ℕ → Sector → Past → Type 0
Wrote (Ok x) old k value new = new ≡ after (wrote k value value) old
Wrote (Err e) old k value new = (new ≡ old) ⊎ MaybeWrote old k value new

-- a sync answered: at Err it has done nothing
abbrev pub Synced : {T E : Type 0} → Result T E → Past → Past → Type 0
Synced (Ok x) old new = new ≡ after synced old
Synced (Err e) old new = new ≡ old

-- one more, in a count that stays at the last value of a `u64`
abbrev pub one_more : ℕ → ℕ
one_more count = min (count + 1) last_of_64_bits

-- each image now has P
abbrev pub Images : Past → (Image → Type 0) → Type 0
Images past P = (image : Image) → IsImage past image → P image

-- after these calls, the newest first
abbrev pub onto : List Call → Past → Past
onto calls past = record { start = past.start; calls = calls ++ past.calls }

-- The disk went on from old to new, and each image of each moment from old on has P.
pub record During (old new : Past) (P : Image → Type 0) : Type 0 where
  pub calls : List Call
  pub is : new ≡ onto calls old
  pub each : (image : Image) → ImageSince new.start new.calls (moment old) image → P image

-- a crash leaves just the image that reads give
abbrev pub IsSettled : Past → Type 0
IsSettled past = Images past (λ image. image ≡ seen past)
