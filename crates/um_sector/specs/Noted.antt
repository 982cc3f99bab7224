-- The history that the notes of a disk in memory stand for.
-- No manual page has it: it is the disk model of um_model, kept as a list.
-- MemDisk stands on this file.
use Rattle.std.specs.Prelude.{ℕ, Bool, false, nat_lt, List, [], ◌∷◌, map, reverse, replicate, slice_index_or}
use Rattle.std.specs.List.{Contains}
use Rattle.std.proofs.Common.{sym, subst, ⊎_elim}
use Rattle.std.proofs.lemmas.Bool.{cases_eq}
use Rattle.std.proofs.lemmas.List.Elements.{Contains-push}
use Rattle.um_model.specs.Disk.{Sector, Image, Call, wrote, synced, Past, seen_after, candidates_after, IsImage, seen}
use Rattle.um_laws.proofs.DiskLaws.{with_same, with_other, candidates-wrote_same, candidates-wrote_other}
use Rattle.um_sector.specs.declared.noted.Noted.{Noted}
use Rattle.um_sector.specs.declared.noted.Noted.TheVariants.{Write, Sync}

-- the call that was noted: each write that was noted was made
abbrev pub call_of : Noted → Call
call_of (Write k value) = wrote k value value
call_of Sync = synced

-- whether it is a write of one of the first n sectors
abbrev pub is_write_within : ℕ → Noted → Bool
is_write_within n (Write k value) = nat_lt k n
is_write_within n Sync = false

-- the image of these sectors: a sector that isn't there has no bytes
abbrev pub image_of : List Sector → Image
image_of sectors = λ k. slice_index_or sectors k []

-- the history of a disk that was made with these sectors and has noted these calls, the oldest first
abbrev pub past_of : List Sector → List Noted → Past
past_of start calls = record { start = image_of start; calls = map call_of (reverse calls) }

-- a sector of zeros
abbrev pub blank : Sector
blank = replicate 512 0

-- the value that a read gives is a candidate of each sector
seen_candidate : (start : Image) (calls : List Noted) (k : ℕ) → Contains (candidates_after start (map call_of calls) k) (seen_after start (map call_of calls) k)
seen_candidate start [] k = Contains-push [] (start k)
seen_candidate start (Sync ∷ calls) k = Contains-push [] (seen_after start (map call_of calls) k)
seen_candidate start (Write j value ∷ calls) k = ⊎_elim
    (λ same.
    subst
    (λ n.
    Contains (candidates_after start (wrote n value value ∷ map call_of calls) k)
    (seen_after start (wrote n value value ∷ map call_of calls) k))
    same
    (subst (λ v. Contains (candidates_after start (wrote k value value ∷ map call_of calls) k) v)
    (sym (with_same (seen_after start (map call_of calls)) k value))
    (subst (λ l. Contains l value) (sym (candidates-wrote_same start (map call_of calls) k value value))
    (Contains-push (candidates_after start (map call_of calls) k) value))))
    (λ ne.
    subst (λ v. Contains (candidates_after start (wrote j value value ∷ map call_of calls) k) v)
    (sym (with_other (seen_after start (map call_of calls)) j k value ne))
    (subst (λ l. Contains l (seen_after start (map call_of calls) k))
    (sym (candidates-wrote_other start (map call_of calls) j k value value ne)) (seen_candidate start calls k)))
    (cases_eq k j)

-- the image that a read gives is among those that a crash may leave
pub seen_is_image : (start : List Sector) (calls : List Noted) → IsImage (past_of start calls) (seen (past_of start calls))
seen_is_image start calls k = seen_candidate (image_of start) (reverse calls) k
