-- The notes after the last sync of a disk in memory, one more at a time, and the content of it at that sync.
use Rattle.std.proofs.Common.{◌≡◌, ◌≢◌, ⊎_elim, ℕ, zero, suc, zero-add, ◌+◌, ◌-◌, ◌<◌, ◌≤◌, List, [], ◌∷◌, ◌++◌, length, take, drop, set, get_or, map, reverse, refl, sym, ◌∙◌, ap, subst, arith, true, length-append}
use Rattle.std.specs.List.{Contains, range_with_len, slice_range, AllPass}
use Rattle.std.proofs.lemmas.Bool.{cases_eq, cases_lt, false≢true}
use Rattle.std.proofs.lemmas.Bool.Decides.{nat_tests}
use Rattle.std.specs.Prelude.{nat_lt}
use Rattle.std.proofs.Math.Seq.{take-length, drop-length, take-append_seam}
use Rattle.std.proofs.lemmas.List.{get_or-drop, length-drop, get_or-set_same, get_or-set_other, get_or_append_left, get_or-append-add, get_or_past, take-append-drop, drop-append-le, take_rest, ext_get_or, reverse-append, map-append}
use Rattle.std.proofs.lemmas.List.FromFn.{length-map-range_with_len, get_or-map-range_with_len}
use Rattle.std.proofs.lemmas.List.Elements.{All-nil}
use Rattle.um_model.specs.Disk.{Sector, Image, with_sector, Call, wrote, synced, Past, seen_after, seen, candidates, after}
use Rattle.um_sector.specs.Unsynced.{unsynced, picked}
use Rattle.um_laws.proofs.DiskLaws.{same_image, one_only, candidates-wrote_same, candidates-wrote_other}
use Rattle.um_sector.specs.declared.noted.Noted.{Noted}
use Rattle.um_sector.specs.declared.noted.Noted.TheVariants.{Write, Sync}
use Rattle.um_sector.specs.Noted.{call_of, image_of, past_of, seen_is_image, is_write_within}
use Rattle.um_sector.proofs.Notes.{noted_more}
use Rattle.um_sector.proofs.Picks.{some_length}

-- the notes from there on, as a range of them
pub behind_is : (xs notes : List Noted) (since : ℕ) → xs ≡ notes → take (length xs - since) (drop since xs) ≡ drop since notes
behind_is xs notes since is = take_rest xs since ∙ ap (drop since) is

-- the calls up to the next note after the last sync
pub past_more : (start : List Sector) (notes rest : List Noted) (since i : ℕ) (note d : Noted) → rest ≡ drop since notes → i < length rest → get_or rest i d ≡ note
    → past_of start (take (since + (i + 1)) notes) ≡ after (call_of note) (past_of start (take (since + i) notes))
past_more start notes rest since i note d from below is =
    let inside : since + i < length notes = omega (arith, below, ap length from, length-drop since notes) in
    let next : get_or notes (since + i) d ≡ note = sym (get_or-drop since notes i d) ∙ ap (λ l. get_or l i d) (sym from) ∙ is in
    let one : since + (i + 1) ≡ since + i + 1 = omega arith in
    ap (λ n. past_of start (take n notes)) one
    ∙ ap (λ calls. record { start = image_of start; calls = calls })
    (noted_more notes (since + i) d inside ∙ ap (λ n. call_of n ∷ map call_of (reverse (take (since + i) notes))) next)

-- each note after the last sync is a write of a sector that is there
module _ (n : ℕ) (rest : List Noted) (i : ℕ) (d : Noted) (all : AllPass (is_write_within n) rest) (below : i < length rest) where
  pub written_within : (k : ℕ) (value : Sector) → get_or rest i d ≡ Write k value → k < n
  written_within k value is = let here : nat_lt k n ≡ true = ap (is_write_within n) (sym is) ∙ all i d below in grind (arith, nat_tests, here)

  pub only_writes : ((k : ℕ) (value : Sector) → get_or rest i d ≡ Write k value → ⊥) → ⊥
  only_writes none = no (get_or rest i d) (all i d below) none
    where
      no : (note : Noted) → is_write_within n note ≡ true → ((k : ℕ) (value : Sector) → note ≡ Write k value → ⊥) → ⊥
      no (Write k value) is none = none k value refl
      no Sync is none = false≢true is

-- after the last of them all notes are taken
pub all_taken : (notes rest : List Noted) (since i : ℕ) → rest ≡ drop since notes → since ≤ length notes → i ≡ length rest → take (since + i) notes ≡ notes
all_taken notes rest since i from le end =
    let all : since + i ≡ length notes = omega (arith, le, end, ap length from, length-drop since notes) in ap (λ n. take n notes) all ∙ take-length notes

-- a write is one candidate more of its sector
pub counts_more : (past : Past) (list : List ℕ) (j : ℕ) (v : Sector) → j < length list → ((k : ℕ) → k < length list → get_or list k 0 ≡ length (candidates past k))
    → (k : ℕ) → k < length list → get_or (set list j (get_or list j 0 + 1)) k 0 ≡ length (candidates (after (wrote j v v) past) k)
counts_more past list j v within so_far k below = ⊎_elim
    (λ same. subst (λ n. get_or (set list j (get_or list j 0 + 1)) n 0 ≡ length (candidates (after (wrote j v v) past) n)) (sym same)
    (get_or-set_same list j (get_or list j 0 + 1) 0 within ∙ ap (λ n. n + 1) (so_far j within)
    ∙ sym (ap length (candidates-wrote_same past.start past.calls j v v) ∙ length-append (candidates past j) (v ∷ []))))
    (λ ne. get_or-set_other list j k (get_or list j 0 + 1) 0 ne ∙ so_far k below ∙ sym (ap length (candidates-wrote_other past.start past.calls j k v v ne)))
    (cases_eq k j)

pub most_more : (list : List ℕ) (j most : ℕ) → j < length list → ((k : ℕ) → k < length list → get_or list k 0 ≤ most)
    → (k : ℕ) → k < length list → get_or (set list j (get_or list j 0 + 1)) k 0 ≤ most + 1
most_more list j most within so_far k below = ⊎_elim
    (λ same. subst (λ n. get_or (set list j (get_or list j 0 + 1)) n 0 ≤ most + 1) (sym same)
    (omega (arith, get_or-set_same list j (get_or list j 0 + 1) 0 within, so_far j within)))
    (λ ne. omega (arith, get_or-set_other list j k (get_or list j 0 + 1) 0 ne, so_far k below))
    (cases_eq k j)

-- the count that is left of each pick, one candidate later
pub left_more : (past : Past) (pick : ℕ → ℕ) (left : List ℕ) (j : ℕ) (v : Sector) → j < length left
    → ((k : ℕ) → k < length left → get_or left k 0 ≡ pick k + 1 - length (candidates past k))
    → (k : ℕ) → k < length left → get_or (set left j (get_or left j 0 - 1)) k 0 ≡ pick k + 1 - length (candidates (after (wrote j v v) past) k)
left_more past pick left j v within so_far k below = ⊎_elim
    (λ same. subst (λ n. get_or (set left j (get_or left j 0 - 1)) n 0 ≡ pick n + 1 - length (candidates (after (wrote j v v) past) n)) (sym same) at_j)
    (λ ne. get_or-set_other left j k (get_or left j 0 - 1) 0 ne ∙ so_far k below ∙ sym (ap (λ l. pick k + 1 - length l) (candidates-wrote_other past.start past.calls j k v v ne)))
    (cases_eq k j)
  where
    at_j : get_or (set left j (get_or left j 0 - 1)) j 0 ≡ pick j + 1 - length (candidates (after (wrote j v v) past) j)
    at_j =
        let more : length (candidates (after (wrote j v v) past) j) ≡ length (candidates past j) + 1 =
        ap length (candidates-wrote_same past.start past.calls j v v) ∙ length-append (candidates past j) (v ∷ []) in
        get_or-set_same left j (get_or left j 0 - 1) 0 within ∙ omega (arith, more, so_far j within)

-- the choice among one candidate more
choice_more : (c : List Sector) (p : ℕ) (v w : Sector) → 0 < length c → (p + 1 - length c ≡ 1 → w ≡ v) → (p + 1 - length c ≢ 1 → w ≡ get_or c p (get_or c 0 []))
    → w ≡ get_or (c ++ v ∷ []) p (get_or (c ++ v ∷ []) 0 [])
choice_more c p v w some last other =
    let first : get_or (c ++ v ∷ []) 0 [] ≡ get_or c 0 [] = get_or_append_left c (v ∷ []) [] 0 some in
    ⊎_elim
    (λ below. other (λ e. omega (arith, e, below)) ∙ sym (ap (get_or (c ++ v ∷ []) p) first ∙ get_or_append_left c (v ∷ []) (get_or c 0 []) p below))
    (λ le. ⊎_elim
    (λ same. last (omega (arith, same))
    ∙ sym (subst (λ n. get_or (c ++ v ∷ []) n (get_or (c ++ v ∷ []) 0 []) ≡ v) (let at_end : length c + 0 ≡ p = omega (arith, same) in at_end) (get_or-append-add c (v ∷ []) 0 (get_or (c ++ v ∷ []) 0 []))))
    (λ ne. let past_end : length (c ++ v ∷ []) ≤ p = omega (arith, le, ne, length-append c (v ∷ [])) in
    other (λ e. ne (omega (arith, e))) ∙ get_or_past c p (get_or c 0 []) le ∙ sym (ap (get_or (c ++ v ∷ []) p) first ∙ get_or_past (c ++ v ∷ []) p (get_or c 0 []) past_end))
    (cases_eq p (length c)))
    (cases_lt p (length c))

-- the value picked of each sector, one candidate later
pub list_more : (past : Past) (pick : ℕ → ℕ) (list : List Sector) (j left : ℕ) (v w : Sector) → j < length list → left ≡ pick j + 1 - length (candidates past j)
    → (left ≡ 1 → w ≡ v) → (left ≢ 1 → w ≡ get_or list j [])
    → ((k : ℕ) → k < length list → get_or list k [] ≡ get_or (candidates past k) (pick k) (get_or (candidates past k) 0 []))
    → (k : ℕ) → k < length list
    → get_or (set list j w) k [] ≡ get_or (candidates (after (wrote j v v) past) k) (pick k) (get_or (candidates (after (wrote j v v) past) k) 0 [])
list_more past pick list j left v w within is last other so_far k below = ⊎_elim
    (λ same. subst (λ n. get_or (set list j w) n [] ≡ choice (candidates (after (wrote j v v) past) n) n) (sym same)
    (get_or-set_same list j w [] within
    ∙ choice_more (candidates past j) (pick j) v w (some_length past j) (λ e. last (is ∙ e)) (λ ne. other (λ e. ne (sym is ∙ e)) ∙ so_far j within)
    ∙ sym (ap (λ l. choice l j) (candidates-wrote_same past.start past.calls j v v))))
    (λ ne. get_or-set_other list j k w [] ne ∙ so_far k below ∙ sym (ap (λ l. choice l k) (candidates-wrote_other past.start past.calls j k v v ne)))
    (cases_eq k j)
  where
    choice : List Sector → ℕ → Sector
    choice l n = get_or l (pick n) (get_or l 0 [])

-- the pick of a sector
abbrev pub pick_of : Past → List ℕ → ℕ → ℕ
pick_of past picks k = get_or picks (length (unsynced past k)) 0

-- a sector with one candidate
module _ (past : Past) (k : ℕ) (v : Sector) (one : candidates past k ≡ v ∷ []) where
  pub left_at_first : (p : ℕ) → p ≡ p + 1 - length (candidates past k)
  left_at_first p = omega (arith, ap length one)

  only : (p : ℕ) → get_or (v ∷ []) p v ≡ v
  only zero = refl
  only (suc p) = refl

  pub choice_at_first : (p : ℕ) → v ≡ get_or (candidates past k) p (get_or (candidates past k) 0 [])
  choice_at_first p = sym (ap (λ l. get_or l p (get_or l 0 [])) one ∙ only p)

-- the sectors of an image are those that are picked
pub all_picked : (past : Past) (picks : List ℕ) (list : List Sector) (n : ℕ) → length list ≡ n
    → ((k : ℕ) → k < length list → get_or list k [] ≡ get_or (candidates past k) (pick_of past picks k) (get_or (candidates past k) 0 []))
    → list ≡ map (picked past picks) (range_with_len 0 n)
all_picked past picks list n long each =
    ext_get_or [] list (map (picked past picks) (range_with_len 0 n)) (long ∙ sym (length-map-range_with_len (picked past picks) 0 n))
    (λ k below. each k below ∙ sym (get_or-map-range_with_len (picked past picks) 0 n k k [] (omega (arith, below, long)) (zero-add k)))

-- the image that a read gives after some calls and then others
seen_onto : (start : Image) (late early : List Call) → seen_after start (late ++ early) ≡ seen_after (seen_after start early) late
seen_onto start [] early = refl
seen_onto start (wrote k v kept ∷ late) early = ap (λ image. with_sector image k kept) (seen_onto start late early)
seen_onto start (synced ∷ late) early = seen_onto start late early

-- the synced content, with the notes after it
pub replayed : (start sectors : List Sector) (notes : List Noted) (since : ℕ)
    → ((k : ℕ) → candidates (past_of start (take since notes)) k ≡ get_or sectors k [] ∷ [])
    → (k : ℕ) → seen (past_of sectors (drop since notes)) k ≡ seen (past_of start notes) k
replayed start sectors notes since at_sync k =
    ap (λ image. seen_after image late k) base ∙ sym (ap (λ (image : Image). image k) (seen_onto (image_of start) late early)) ∙ sym (ap (λ calls. seen_after (image_of start) calls k) parts)
  where
    late : List Call
    late = map call_of (reverse (drop since notes))

    early : List Call
    early = map call_of (reverse (take since notes))

    base : image_of sectors ≡ seen_after (image_of start) early
    base = same_image _ _ (λ j. sym (one_only (get_or sectors j []) (seen_after (image_of start) early j)
        (subst (λ l. Contains l (seen_after (image_of start) early j)) (at_sync j) (seen_is_image start (take since notes) j))))

    parts : map call_of (reverse notes) ≡ late ++ early
    parts = ap (λ l. map call_of (reverse l)) (sym (take-append-drop since notes)) ∙ ap (map call_of) (reverse-append (take since notes) (drop since notes))
        ∙ map-append call_of (reverse (drop since notes)) (reverse (take since notes))

-- the notes after the last sync, without one that is added
pub without_last : (notes : List Noted) (note : Noted) (since : ℕ) → since ≤ length notes → slice_range (notes ++ note ∷ []) since (length notes) ≡ drop since notes
without_last notes note since le =
    ap (take (length notes - since)) (drop-append-le since notes (note ∷ []) le)
    ∙ subst (λ n. take n (drop since notes ++ note ∷ []) ≡ drop since notes) (length-drop since notes) (take-append_seam (drop since notes) (note ∷ []))

-- a sync changes nothing of the image that a read gives
pub seen_synced : (start : List Sector) (notes : List Noted) (k : ℕ) → seen (past_of start (notes ++ Sync ∷ [])) k ≡ seen (past_of start notes) k
seen_synced start notes k = ap (λ calls. seen_after (image_of start) (map call_of calls) k) (reverse-append notes (Sync ∷ []))

-- after a sync the synced content is the one that a read gives: the sectors of the last sync, with the notes from there
-- on
pub at_sync_replayed : (start sectors made : List Sector) (notes : List Noted) (since : ℕ) → since ≤ length notes
    → ((k : ℕ) → candidates (past_of start (take since notes)) k ≡ get_or sectors k [] ∷ [])
    → ((k : ℕ) → get_or made k [] ≡ seen (past_of sectors (slice_range (notes ++ Sync ∷ []) since (length notes))) k)
    → (k : ℕ) → candidates (past_of start (notes ++ Sync ∷ [])) k ≡ get_or made k [] ∷ []
at_sync_replayed start sectors made notes since le at_sync from k =
    ap (λ calls. candidates (record { start = image_of start; calls = map call_of calls }) k) (reverse-append notes (Sync ∷ []))
    ∙ ap (λ v. v ∷ []) (sym (from k ∙ ap (λ l. seen (past_of sectors l) k) (without_last notes Sync since le) ∙ replayed start sectors notes since at_sync k))

-- nothing stands after the last note
pub none_behind : (n : ℕ) (notes : List Noted) (since : ℕ) → since ≡ length notes → AllPass (is_write_within n) (drop since notes)
none_behind n notes since end =
    subst (λ i. AllPass (is_write_within n) (drop i notes)) (sym end) (subst (AllPass (is_write_within n)) (sym (drop-length notes)) (All-nil (λ x. is_write_within n x ≡ true)))
