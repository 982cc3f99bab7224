-- The fields of a part of a record, and which parts follow each other.
-- No manual page has it: it is the project's own format.
-- `Reader::remains` stands on this file.
use Rattle.std.specs.Prelude.{◌≡◌, ◌⊎◌, ◌+◌, ◌^◌, ◌<◌, ◌≤◌, ℕ, suc, Option, Some, None}
use Rattle.um_model.specs.Disk.{Sector, Image}
use Rattle.um_model.specs.Store.{area_start, area_end, part_count, longest, IsPart}
use Rattle.um_model.specs.declared.layout.Format.{Format}
use Rattle.um_model.specs.declared.layout.Layout.{Layout}
use Rattle.um_log.specs.Reading.{FitsIn}
use Rattle.um_log.specs.declared.part.Part.{Part}

-- a record may have such a part
pub record IsPossible (format : Format) (generation number part size : ℕ) : Type 0 where
  pub generation_fits : generation < 2 ^ 64
  pub number_fits : number < 2 ^ 64
  pub short : size ≤ longest format
  pub below : part < part_count size

-- a sector is that part, or no part of that generation or a later one
abbrev pub ReadsPart : Format → ℕ → Sector → Option Part → Type 0
ReadsPart format least sector None =
    (generation number part size : ℕ) → least ≤ generation → IsPossible format generation number part size → ¬ IsPart generation number part size sector
ReadsPart format least sector (Some p) =
    (least ≤ p.generation) × IsPossible format p.generation p.number p.part p.size × IsPart p.generation p.number p.part p.size sector

-- the parts of a record up to this one stand in a row directly before a sector, the first not before sector `from`
pub record Stand (image : Image) (from next generation number part size : ℕ) : Type 0 where
  pub at : ℕ
  pub low : from ≤ at
  pub end : at + suc part ≡ next
  pub parts : (i : ℕ) → i ≤ part → IsPart generation number i size (image (at + i))

-- these parts stand there, or none of that generation or a later one
abbrev pub Follows : Format → ℕ → Image → ℕ → ℕ → Option Part → Type 0
Follows format least image from next None =
    (generation number part size : ℕ) → least ≤ generation → IsPossible format generation number part size → ¬ Stand image from next generation number part size
Follows format least image from next (Some p) =
    (least ≤ p.generation) × IsPossible format p.generation p.number p.part p.size × Stand image from next p.generation p.number p.part p.size

-- a part directly follows another one of the same record
pub record IsNextPart (before here : Part) : Type 0 where
  pub generation : here.generation ≡ before.generation
  pub number : here.number ≡ before.number
  pub size : here.size ≡ before.size
  pub part : here.part ≡ suc before.part

-- a part, where there is one, is of that kind
abbrev pub IsSomeWith : (Part → Type 0) → Option Part → Type 0
IsSomeWith Is None = ⊥
IsSomeWith Is (Some p) = Is p

-- with a part a record ends that is of that generation and has that number or a greater one
pub record IsLastUncounted (generation least : ℕ) (p : Part) : Type 0 where
  pub generation_is : p.generation ≡ generation
  pub greater : least ≤ p.number
  pub all : suc p.part ≡ part_count p.size

-- or one of a later generation, which has the same place in the log
pub record IsLastLater (format : Format) (layout : Layout) (generation : ℕ) (p : Part) : Type 0 where
  pub greater : generation < p.generation
  pub place : area_start format layout p.generation ≡ area_start format layout generation
  pub all : suc p.part ≡ part_count p.size

-- a part is, in its place, that of a record which has room from a sector on
pub record IsInPlace (format : Format) (layout : Layout) (generation number next j : ℕ) (p : Part) : Type 0 where
  pub generation_is : p.generation ≡ generation
  pub number_is : p.number ≡ number
  pub part_is : next + p.part ≡ j
  pub fits : FitsIn format layout generation next p.size

-- the sectors from one on, before another, are the first parts of a record that has room there
pub record AreParts (format : Format) (layout : Layout) (generation : ℕ) (image : Image) (number next stop : ℕ) : Type 0 where
  pub size : ℕ
  pub short : size ≤ longest format
  pub within : next + part_count size ≤ area_end format layout generation
  pub below : stop ≤ next + part_count size
  pub parts : (i : ℕ) → next + i < stop → IsPart generation number i size (image (next + i))

-- the end of such parts, as far as the sectors before one show
pub record StopsBefore (format : Format) (layout : Layout) (generation : ℕ) (image : Image) (number next j stop : ℕ) : Type 0 where
  pub low : next ≤ stop
  pub high : stop ≤ j
  pub stand : (stop ≡ next) ⊎ AreParts format layout generation image number next stop
  pub ends : stop < j → ¬ AreParts format layout generation image number next (suc stop)
