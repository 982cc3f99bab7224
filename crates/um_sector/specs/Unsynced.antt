-- The unsynced part of a disk: how many syncs there were, the sectors with several candidates, and the images that
-- picks of these choose.
use Rattle.std.specs.Prelude.{ℕ, Bool, true, false, nat_lt, List, [], length, map, filter, count_by, slice_index_or}
use Rattle.std.specs.List.{range_with_len}
use Rattle.um_model.specs.Disk.{Image, Call, wrote, synced, Past, candidates}

-- whether a call is a sync
abbrev pub is_sync : Call → Bool
is_sync synced = true
is_sync (wrote k value kept) = false

-- how many syncs answered Ok
abbrev pub sync_count : Past → ℕ
sync_count past = count_by is_sync past.calls

-- a sector with the number of its candidates
abbrev pub candidate_count : Past → ℕ → ℕ × ℕ
candidate_count past k = (k, length (candidates past k))

-- the sectors below n with more than one candidate, ascending, with the number of candidates
abbrev pub unsynced : Past → ℕ → List (ℕ × ℕ)
unsynced past n = filter (λ sector. nat_lt 1 sector.1) (map (candidate_count past) (range_with_len 0 n))

-- The image that these picks choose: of each sector with more than one candidate, ascending, the index of its candidate
-- (0, the value at the last sync, where the pick is missing or there is no such candidate).
abbrev pub picked : Past → List ℕ → Image
picked past picks k =
    let choices = candidates past k in
    slice_index_or choices (slice_index_or picks (length (unsynced past k)) 0) (slice_index_or choices 0 [])
