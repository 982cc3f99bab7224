-- A snapshot that is being written is there whole or not at all, and the store with it is the next generation.
use Rattle.std.specs.Prelude.{◌≡◌, ◌+◌, ◌*◌, ◌^◌, ◌<◌, ◌≤◌, ℕ, zero, suc, List, [], ◌++◌, length, take, drop}
use Rattle.std.proofs.Common.{refl, sym, ◌∙◌, ap, subst, inl, inr, ⊎_elim, arith}
use Rattle.std.proofs.Math.Seq.{take-append-add}
use Rattle.std.proofs.lemmas.Bool.{cases_lt}
use Rattle.std.proofs.lemmas.List.{take-append-drop, length-drop, length-take, nil_from_length, take_all, drop-drop}
use Rattle.um_model.specs.Disk.{Sector, Image, Past, seen, IsImage, Images, During, IsSettled}
use Rattle.um_laws.proofs.DiskLaws.{weaker, followed, at_end, started}
use Rattle.um_model.specs.declared.layout.Format.{Format}
use Rattle.um_model.specs.declared.layout.Layout.{Layout}
use Rattle.um_model.specs.declared.layout.Slot.{Slot}
use Rattle.um_model.specs.declared.layout.Slot.TheVariants.{A, B}
use Rattle.um_model.specs.Store.{current, first_log_sector, all_records, records_of, log_start, IsOf, IsNoneAbove, IsLogEnd, IsStore, GoesOn, filled, superblock, slot_start, other, body_limit, IsHeader, sector_count, joined, body_at, IsNewest, HasNoHeader}
use Rattle.um_laws.proofs.CountedLaws.{none_counts, same_all, same_log, below_top, top_later, above_later, counts_own, log_anew}
use Rattle.um_laws.proofs.StoreLaws.{area_within, same_header, filled_whole, take-filled, behind_slot, before_slot, home_same, kept_newest, same_above}
use Rattle.um_slot.specs.Snapshots.{body_sector, IsBeside, IsSnapshot, MaybeSnapshot, AfterSeal, HasStore, EitherSnapshot, HasNewest, EitherNewest}

-- ---- a body that is written

-- a body's next sector is the first of the rest
next_sector : (bytes : List ℕ) (i : ℕ) → body_sector bytes (suc i) ≡ body_sector (drop 512 bytes) i
next_sector bytes i =
    let moved : 512 * suc i ≡ 512 + 512 * i = omega arith in
    ap (λ (l : List ℕ). filled (take 512 l)) (ap (λ (n : ℕ). drop n bytes) moved ∙ sym (drop-drop (512 * i) 512 bytes))

-- the first sector of a body, and then the rest
body_step : (bytes : List ℕ) (sector : Sector) (rest : List ℕ) → sector ≡ filled (take 512 bytes) → take (length (drop 512 bytes)) rest ≡ drop 512 bytes
    → take (length bytes) (sector ++ rest) ≡ bytes
body_step bytes sector rest is back = ⊎_elim long short (cases_lt 512 (length bytes))
  where
    long : 512 < length bytes → take (length bytes) (sector ++ rest) ≡ bytes
    long more =
        let size : length (take 512 bytes) ≡ 512 = omega (arith, length-take 512 bytes, more) in
        let whole : sector ≡ take 512 bytes = is ∙ filled_whole (take 512 bytes) size in
        let count : length bytes ≡ length (take 512 bytes) + length (drop 512 bytes) = omega (arith, size, length-drop 512 bytes, more) in
        (λ k. take (count k) (whole k ++ rest))
        ∙ take-append-add (take 512 bytes) rest (length (drop 512 bytes))
        ∙ ap (λ (l : List ℕ). take 512 bytes ++ l) back ∙ take-append-drop 512 bytes

    short : length bytes ≤ 512 → take (length bytes) (sector ++ rest) ≡ bytes
    short few =
        let all : take 512 bytes ≡ bytes = take_all 512 bytes few in
        ap (λ (s : Sector). take (length bytes) (s ++ rest)) (is ∙ ap filled all) ∙ take-filled bytes rest

-- A body that stands as it is written is read back.
pub body_back : (n : ℕ) (bytes : List ℕ) (image : Image) (at : ℕ) → length bytes ≤ 512 * n → ((i : ℕ) → i < n → image (at + i) ≡ body_sector bytes i)
    → take (length bytes) (joined n image at) ≡ bytes
body_back zero bytes image at fits stands =
    let none : bytes ≡ [] = nil_from_length bytes (omega (arith, fits)) in ap (λ (l : List ℕ). take (length l) []) none ∙ sym none
body_back (suc n) bytes image at fits stands =
    let here : at ≡ at + 0 = omega arith in
    body_step bytes (image at) (joined n image (suc at)) (ap image here ∙ stands 0 (omega arith))
    (body_back n (drop 512 bytes) image (suc at) (omega (arith, fits, length-drop 512 bytes))
    (λ i below. let moved : suc at + i ≡ at + suc i = omega arith in ap image moved ∙ stands (suc i) (omega (arith, below)) ∙ next_sector bytes i))

-- ---- the snapshot in its slot

-- a header that is written there is well-formed
written_header : {layout : Layout} {image : Image} {slot : Slot} {generation : ℕ} {body : List ℕ} → 1 ≤ generation → generation < 2 ^ 64 → length body ≤ body_limit layout
    → IsSnapshot layout image slot generation body → IsHeader layout (image (slot_start layout slot)) generation (length body)
written_header first last fits snapshot = record { first = first; last = last; fits = fits; is = snapshot.header }

-- and the body after it is read back
written_body : {layout : Layout} {image : Image} {slot : Slot} {generation : ℕ} {body : List ℕ} → IsSnapshot layout image slot generation body → body ≡ body_at layout image slot (length body)
written_body {layout} {image} {slot} {generation} {body} snapshot = sym (body_back (sector_count (length body)) body image (slot_start layout slot + 1) (omega arith) snapshot.sectors)

-- The snapshot of a later generation in the other slot is the newest.
pub new_newest : {layout : Layout} {old image : Image} {slot : Slot} {generation later : ℕ} {before body : List ℕ} → IsNewest layout old slot generation before
    → image (slot_start layout slot) ≡ old (slot_start layout slot) → generation < later → later < 2 ^ 64 → length body ≤ body_limit layout
    → IsSnapshot layout image (other slot) later body → IsNewest layout image (other slot) later body
new_newest {layout} {old} {image} {slot = A} {generation} {later} {before} {body} newest same above last fits snapshot = record {
  size = length body;
  header = written_header (omega (arith, above)) last fits snapshot;
  newer = λ theirs size header. let g = same_header (subst (λ (s : Sector). IsHeader layout s theirs size) same header) newest.header in omega (arith, g.0, above);
  body_is = written_body snapshot;
}
new_newest {layout} {old} {image} {slot = B} {generation} {later} {before} {body} newest same above last fits snapshot = record {
  size = length body;
  header = written_header (omega (arith, above)) last fits snapshot;
  newer = λ theirs size header. let g = same_header (subst (λ (s : Sector). IsHeader layout s theirs size) same header) newest.header in omega (arith, g.0, above);
  body_is = written_body snapshot;
}

-- On a disk without a header the first snapshot in slot A is the newest.
pub first_newest : {layout : Layout} {old image : Image} {generation : ℕ} {body : List ℕ} → HasNoHeader layout old → 1 ≤ generation → generation < 2 ^ 64 → length body ≤ body_limit layout
    → MaybeSnapshot layout old A generation body image → IsSnapshot layout image A generation body → IsNewest layout image A generation body
first_newest {layout} {old} {image} nothing first last fits maybe snapshot = record {
  size = _;
  header = written_header first last fits snapshot;
  newer = λ theirs size header. absurd (nothing B theirs size (subst (λ (s : Sector). IsHeader layout s theirs size) (maybe.outside (slot_start layout B) (inr (omega arith))) header));
  body_is = written_body snapshot;
}

-- No later generation is added to the log.
pub kept_above : {layout : Layout} {old image : Image} {slot : Slot} {generation last : ℕ} {body : List ℕ} → MaybeSnapshot layout old slot generation body image
    → IsNoneAbove layout old last → IsNoneAbove layout image last
kept_above {layout} {slot} maybe none = same_above layout (λ j low high. maybe.outside j (inr (behind_slot layout slot j low))) none

-- ---- the whole store while a snapshot is written into the other slot

module _ {layout : Layout} {old image : Image} (slot : Slot) {later : ℕ} {body : List ℕ} (maybe : MaybeSnapshot layout old (other slot) later body image) where
  log_same : (j : ℕ) → first_log_sector layout ≤ j → image j ≡ old j
  log_same j low = maybe.outside j (inr (behind_slot layout (other slot) j low))

  first_same : (format : Format) → old 0 ≡ superblock format layout → image 0 ≡ superblock format layout
  first_same format is = maybe.outside 0 (inl (before_slot layout (other slot))) ∙ is

  above_same : {last : ℕ} → IsNoneAbove layout old last → IsNoneAbove layout image last
  above_same none = same_above layout (λ j low high. log_same j low) none

  all_same : (format : Format) (newest : ℕ) → all_records format layout newest image ≡ all_records format layout newest old
  all_same format newest = same_all format layout newest old image (λ j low high. log_same j low)

  module _ {newest : ℕ} {before : List ℕ} (snapshot : IsNewest layout old slot newest before) where
    snapshot_same : image (slot_start layout (other slot)) ≡ old (slot_start layout (other slot)) → IsNewest layout image slot newest before
    snapshot_same same = kept_newest snapshot maybe.outside same

    snapshot_new : newest < later → later < 2 ^ 64 → length body ≤ body_limit layout → IsSnapshot layout image (other slot) later body → IsNewest layout image (other slot) later body
    snapshot_new above small fits there = new_newest snapshot (home_same snapshot maybe.outside) above small fits there

module _ {format : Format} {layout : Layout} {old image : Image} {slot : Slot} {newest last : ℕ} {before body : List ℕ} (above : newest ≤ last)
    (has : HasNewest format layout slot newest before last old) (maybe : MaybeSnapshot layout old (other slot) (last + 1) body image) where
  -- no log sector is of the next generation
  next_above : IsNoneAbove layout image last
  next_above = above_same slot maybe has.none_later

  -- the whole snapshot is the newest
  renewed : last + 1 < 2 ^ 64 → length body ≤ body_limit layout → IsSnapshot layout image (other slot) (last + 1) body → HasNewest format layout (other slot) (last + 1) body last image
  renewed small fits there = record {
    first = first_same slot maybe format has.first;
    snapshot = snapshot_new slot maybe has.snapshot (omega (arith, above)) small fits there;
    none_later = next_above;
  }

  -- and nothing of its generation stands in the log
  new_store : last + 1 < 2 ^ 64 → length body ≤ body_limit layout → IsSnapshot layout image (other slot) (last + 1) body → IsStore format layout image (other slot) (last + 1) body []
  new_store small fits there =
      let now = renewed small fits there in
      record {
        first = now.first;
        newest = now.snapshot;
        records_are = sym (none_counts format layout (last + 1) last image (omega arith) next_above);
        none_later = above_later layout (let low = below_top format (last + 1) in omega (arith, low)) next_above;
      }

  -- An image that a crash leaves meanwhile has the newest snapshot and the log of before, or the new snapshot and no
  -- record.
  either_newest : {past : Past} → IsImage past old → last + 1 < 2 ^ 64 → length body ≤ body_limit layout → EitherNewest format layout past slot newest before last body image
  either_newest {past} was small fits = ⊎_elim {C = EitherNewest format layout past slot newest before last body image}
      (λ same. inl (record { from = old; was = was; first = first_same slot maybe format has.first; snapshot = snapshot_same slot maybe has.snapshot same; log = log_same slot maybe }))
      (λ there. inr (new_store small fits there)) maybe.inside

module _ {layout : Layout} {old image : Image} {slot : Slot} {generation : ℕ} {before body : List ℕ} {records : List (List ℕ)} (store : IsStore current layout old slot generation before records)
    (maybe : MaybeSnapshot layout old (other slot) (generation + 1) body image) where
  kept_store : image (slot_start layout (other slot)) ≡ old (slot_start layout (other slot)) → IsStore current layout image slot generation before records
  kept_store same = record {
    first = first_same slot maybe current store.first;
    newest = snapshot_same slot maybe store.newest same;
    records_are = store.records_are ∙ sym (all_same slot maybe current generation);
    none_later = above_same slot maybe store.none_later;
  }

  -- with the whole snapshot the records beside it count
  next_store : generation + 1 < 2 ^ 64 → length body ≤ body_limit layout → IsSnapshot layout image (other slot) (generation + 1) body
      → IsStore current layout image (other slot) (generation + 1) body (all_records current layout (generation + 1) old)
  next_store last fits there = record {
    first = first_same slot maybe current store.first;
    newest = snapshot_new slot maybe store.newest (omega arith) last fits there;
    records_are = sym (all_same slot maybe current (generation + 1));
    none_later = above_later layout (top_later current generation (generation + 1) (omega arith)) (above_same slot maybe store.none_later);
  }

  -- the log goes on where it did
  end_same : {number next : ℕ} → IsLogEnd layout (generation + 1) old (records_of current layout (generation + 1) old) number next
      → IsLogEnd layout (generation + 1) image (records_of current layout (generation + 1) image) number next
  end_same {number} {next} end =
      let within = area_within current layout (generation + 1) in
      let place = end.place in
      subst (λ (l : List (List ℕ)). IsLogEnd layout (generation + 1) image l number next)
      (sym (same_log current layout (generation + 1) old image (λ j low high. log_same slot maybe j low)))
      (record {
        count = end.count;
        place = end.place;
        within = end.within;
        free = λ theirs j low high is. end.free theirs j low high (subst (IsOf theirs) (log_same slot maybe j (omega (arith, low, place, within.0))) is);
      })

-- ---- the same of whole runs of calls

module _ {format : Format} {layout : Layout} (past : Past) {slot : Slot} {newest last : ℕ} {before : List ℕ} (above : newest ≤ last)
    (all : Images past (HasNewest format layout slot newest before last)) where
  -- while a snapshot is written into the other slot
  pub during_newest : {new : Past} {body : List ℕ} → last + 1 < 2 ^ 64 → length body ≤ body_limit layout → IsImage past (seen past)
      → During past new (AfterSeal layout past (other slot) (last + 1) body) → During past new (EitherNewest format layout past slot newest before last body)
  during_newest {new} {body} small fits is run = weaker past new _ _
      (λ image m. ⊎_elim {C = EitherNewest format layout past slot newest before last body image}
      (λ was. let has = all image was in inl (record { from = image; was = was; first = has.first; snapshot = has.snapshot; log = λ j low. refl }))
      (λ maybe. either_newest above (all (seen past) is) maybe is small fits) m) run

  -- and after it
  pub renewed_newest : (new : Past) {body : List ℕ} → last + 1 < 2 ^ 64 → length body ≤ body_limit layout → IsImage past (seen past)
      → MaybeSnapshot layout (seen past) (other slot) (last + 1) body (seen new) → IsSnapshot layout (seen new) (other slot) (last + 1) body → IsSettled new
      → Images new (HasNewest format layout (other slot) (last + 1) body last)
  renewed_newest new {body} small fits is maybe there done image at =
      subst (HasNewest format layout (other slot) (last + 1) body last) (sym (done image at)) (renewed above (all (seen past) is) maybe small fits there)

module _ {layout : Layout} (past : Past) {slot : Slot} {newest last : ℕ} {before : List ℕ} (above : newest ≤ last) (all : Images past (HasNewest current layout slot newest before last)) where
  -- where the log then goes on
  pub goes_on_newest : {new : Past} {body : List ℕ} → last + 1 < 2 ^ 64 → length body ≤ body_limit layout → IsImage past (seen past)
      → MaybeSnapshot layout (seen past) (other slot) (last + 1) body (seen new) → IsSnapshot layout (seen new) (other slot) (last + 1) body → IsSettled new
      → GoesOn layout new (other slot) (last + 1) body [] (last + 1) 0 (log_start layout (last + 1))
  goes_on_newest {new} {body} small fits is maybe there done =
      let none : IsNoneAbove layout (seen new) last = next_above above (all (seen past) is) maybe in
      record {
        counts = counts_own current (last + 1);
        store = λ image at. subst (λ i. IsStore current layout i (other slot) (last + 1) body []) (sym (done image at)) (new_store above (all (seen past) is) maybe small fits there);
        above = λ image at. subst (λ (i : Image). IsNoneAbove layout i (last + 1)) (sym (done image at)) (above_later layout (omega arith) none);
        end = λ image at. subst (λ i. IsLogEnd layout (last + 1) i (records_of current layout (last + 1) i) 0 (log_start layout (last + 1))) (sym (done image at))
            (log_anew layout (last + 1) last (seen new) (omega arith) none);
      }

module _ {layout : Layout} (past : Past) {slot : Slot} {generation : ℕ} {before : List ℕ} (stores : Images past (HasStore layout slot generation before)) where
  -- while a snapshot is written into the other slot
  pub during_other : {new : Past} {body : List ℕ} → generation + 1 < 2 ^ 64 → length body ≤ body_limit layout → IsImage past (seen past)
      → During past new (AfterSeal layout past (other slot) (generation + 1) body) → During past new (EitherSnapshot layout past slot generation before body)
  during_other {new} {body} last fits is run = weaker past new _ _
      (λ image m. ⊎_elim {C = EitherSnapshot layout past slot generation before body image}
      (λ was. inl (record { from = image; was = was; store = stores image was }))
      (λ maybe. ⊎_elim {C = EitherSnapshot layout past slot generation before body image}
      (λ same. inl (record { from = seen past; was = is; store = kept_store (stores (seen past) is) maybe same }))
      (λ there. inr (next_store (stores (seen past) is) maybe last fits there)) maybe.inside) m) run

  -- and after it
  pub goes_on_other : {new : Past} {body : List ℕ} → generation + 1 < 2 ^ 64 → length body ≤ body_limit layout → IsImage past (seen past)
      → MaybeSnapshot layout (seen past) (other slot) (generation + 1) body (seen new) → IsSnapshot layout (seen new) (other slot) (generation + 1) body → IsSettled new
      → (number next : ℕ) → IsLogEnd layout (generation + 1) (seen past) (records_of current layout (generation + 1) (seen past)) number next
      → GoesOn layout new (other slot) (generation + 1) body (all_records current layout (generation + 1) (seen past)) (generation + 1) number next
  goes_on_other {new} {body} last fits is maybe there done number next end =
      let store = stores (seen past) is in
      record {
        counts = counts_own current (generation + 1);
        store = λ image at. subst (λ i. IsStore current layout i (other slot) (generation + 1) body (all_records current layout (generation + 1) (seen past))) (sym (done image at))
            (next_store store maybe last fits there);
        above = λ image at. subst (λ (i : Image). IsNoneAbove layout i (generation + 1)) (sym (done image at)) (above_same slot maybe store.none_later);
        end = λ image at. subst (λ i. IsLogEnd layout (generation + 1) i (records_of current layout (generation + 1) i) number next) (sym (done image at)) (end_same store maybe end);
      }

-- ---- parts of a body, and then its header

-- where nothing is written each image is one of before
pub none_beside : (layout : Layout) (past : Past) (slot : Slot) → During past past (IsBeside layout past slot)
none_beside layout past slot = started past (IsBeside layout past slot) (λ image at. record { from = image; was = at; same = λ j out. refl })

module _ {layout : Layout} {past : Past} {slot : Slot} {image : Image} (b : IsBeside layout past slot image) where
  -- where only the other slot's body differs, the log is the same
  log_beside : (j : ℕ) → first_log_sector layout ≤ j → image j ≡ b.from j
  log_beside j low = b.same j (inr (behind_slot layout (other slot) j low))

  all_beside : (generation : ℕ) → all_records current layout generation image ≡ all_records current layout generation b.from
  all_beside generation = same_all current layout generation b.from image (λ j low high. log_beside j low)

  -- and so are sector 0 and the newest snapshot
  beside_snapshot : {newest : ℕ} {before : List ℕ} → IsNewest layout b.from slot newest before → IsNewest layout image slot newest before
  beside_snapshot snapshot =
      kept_newest snapshot (λ j out. b.same j (⊎_elim (λ low. inl (omega (arith, low))) (λ high. inr high) out)) (b.same (slot_start layout (other slot)) (inl (omega arith)))

  beside_newest : {format : Format} {newest last : ℕ} {before : List ℕ} → HasNewest format layout slot newest before last b.from → HasNewest format layout slot newest before last image
  beside_newest has = record {
    first = b.same 0 (inl (omega arith)) ∙ has.first;
    snapshot = beside_snapshot has.snapshot;
    none_later = same_above layout (λ j low high. log_beside j low) has.none_later;
  }

  -- so it is the same store
  beside_store : {newest : ℕ} {before : List ℕ} → HasStore layout slot newest before b.from → IsStore current layout image slot newest before (all_records current layout newest b.from)
  beside_store {newest} store = record {
    first = b.same 0 (inl (omega arith)) ∙ store.first;
    newest = beside_snapshot store.newest;
    records_are = sym (all_beside newest);
    none_later = same_above layout (λ j low high. log_beside j low) store.none_later;
  }

module _ {layout : Layout} {old mid : Past} {slot : Slot} (parts : During old mid (IsBeside layout old slot)) where
  module _ {generation : ℕ} {before : List ℕ} (stores : Images old (HasStore layout slot generation before)) where
    -- after the parts each image is that of a store with its newest snapshot
    pub stores_beside : Images mid (HasStore layout slot generation before)
    stores_beside image is =
        let b = at_end old mid _ parts image is in
        subst (IsStore current layout image slot generation before) (sym (all_beside b generation)) (beside_store b (stores b.from b.was))

    -- while they are written it is that of before
    pub parts_other : (body : List ℕ) → During old mid (EitherSnapshot layout old slot generation before body)
    parts_other body = weaker old mid _ _ (λ image b. inl (record { from = b.from; was = b.was; store = beside_store b (stores b.from b.was) })) parts

    -- and then the header
    pub then_other : {new : Past} {body : List ℕ} → ((j : ℕ) → first_log_sector layout ≤ j → seen mid j ≡ seen old j)
        → During mid new (EitherSnapshot layout mid slot generation before body) → During old new (EitherSnapshot layout old slot generation before body)
    then_other {new} {body} log rest = followed old mid new _ (parts_other body) (weaker mid new _ _ from_old rest)
      where
        from_old : (image : Image) → EitherSnapshot layout mid slot generation before body image → EitherSnapshot layout old slot generation before body image
        from_old image (inl was) =
            let b = at_end old mid _ parts was.from was.was in
            inl (record { from = b.from; was = b.was; store = subst (IsStore current layout image slot generation before) (all_beside b generation) was.store })
        from_old image (inr done) =
            inr (subst (IsStore current layout image (other slot) (generation + 1) body) (same_all current layout (generation + 1) (seen old) (seen mid) (λ j low high. log j low)) done)

  module _ {format : Format} {newest last : ℕ} {before : List ℕ} (all : Images old (HasNewest format layout slot newest before last)) where
    -- the same of the newest snapshot and the log alone
    pub newest_beside : Images mid (HasNewest format layout slot newest before last)
    newest_beside image is = let b = at_end old mid _ parts image is in beside_newest b (all b.from b.was)

    pub parts_newest : (body : List ℕ) → During old mid (EitherNewest format layout old slot newest before last body)
    parts_newest body = weaker old mid _ _ (λ image b.
        let has = beside_newest b (all b.from b.was) in
        inl (record { from = b.from; was = b.was; first = has.first; snapshot = has.snapshot; log = λ j low. log_beside b j low })) parts

    pub then_newest : {new : Past} {body : List ℕ} → During mid new (EitherNewest format layout mid slot newest before last body)
        → During old new (EitherNewest format layout old slot newest before last body)
    then_newest {new} {body} rest = followed old mid new _ (parts_newest body) (weaker mid new _ _ from_old rest)
      where
        from_old : (image : Image) → EitherNewest format layout mid slot newest before last body image → EitherNewest format layout old slot newest before last body image
        from_old image (inl was) =
            let b = at_end old mid _ parts was.from was.was in
            inl (record { from = b.from; was = b.was; first = was.first; snapshot = was.snapshot; log = λ j low. was.log j low ∙ log_beside b j low })
        from_old image (inr done) = inr done
