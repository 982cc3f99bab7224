-- Records after others that weren't synced: each image has a beginning of them, and a sync makes them all stand.
use Rattle.std.specs.Prelude.{◌≡◌, ◌+◌, ◌^◌, ◌<◌, ◌≤◌, ℕ, List, [], ◌∷◌, ◌++◌, length, take, slice_index_or, Result}
use Rattle.std.proofs.Common.{sym, ◌∙◌, ap, subst, inl, inr, ⊎_elim, arith, append_assoc, refl}
use Rattle.std.proofs.lemmas.List.{length-append, append-nil, take-append-le, take_all}
use Rattle.um_model.specs.Disk.{Image, Past, seen, IsImage, During, Synced, after, synced}
use Rattle.um_laws.proofs.DiskLaws.{started, weaker, at_end, during_sync, image_synced}
use Rattle.um_model.specs.declared.layout.Layout.{Layout}
use Rattle.um_model.specs.declared.layout.Slot.{Slot}
use Rattle.um_model.specs.Store.{current, log_start, log_end, record_limit, part_count, records_of, Counts, HasRecords, IsNoneAbove, IsLogEnd, IsStore, GoesOn}
use Rattle.um_laws.proofs.ImageLaws.{records_are, only_records}
use Rattle.um_laws.proofs.LogLaws.{all_or_one}
use Rattle.um_sector.specs.Runs.{IsLaid, MaybeLaid, AfterRun}
use Rattle.um_log.specs.Appending.{record_run}
use Rattle.um_log.specs.Ahead.{EndsWith, HasSome, HasBegun, GoesOnAhead}
use Rattle.um_sector.proofs.RunLaws.{laid_maybe}
use Rattle.um_log.proofs.Appending.{ends, above_more, with_same_records, record_store, record_end}

-- a beginning of the records is one of those with one more
pub some_more : {layout : Layout} {slot : Slot} {newest : ℕ} {body : List ℕ} {records more : List (List ℕ)} {image : Image} (bytes : List ℕ)
    → HasSome layout slot newest body records more image → HasSome layout slot newest body records (more ++ bytes ∷ []) image
some_more {layout} {slot} {newest} {body} {records} {more} {image} bytes has = record {
  count = has.count;
  within = omega (arith, has.within, length-append more (bytes ∷ []));
  store = subst (λ (l : List (List ℕ)). IsStore current layout image slot newest body (records ++ l)) (sym (take-append-le has.count more (bytes ∷ []) has.within)) has.store;
}

-- all of them are a beginning
abbrev pub all_some : {layout : Layout} {slot : Slot} {newest : ℕ} {body : List ℕ} {records : List (List ℕ)} (more : List (List ℕ)) {image : Image}
    → IsStore current layout image slot newest body (records ++ more) → HasSome layout slot newest body records more image
all_some {layout} {slot} {newest} {body} {records} more {image} store = record {
  count = length more;
  within = omega arith;
  store = subst (λ (l : List (List ℕ)). IsStore current layout image slot newest body (records ++ l)) (sym (take_all (length more) more (omega arith))) store;
}

module _ (layout : Layout) (generation number next : ℕ) (bytes : List ℕ) (last : generation < 2 ^ 64) (some : 0 < length bytes) (short : length bytes ≤ record_limit layout generation)
    (room : next + part_count (length bytes) ≤ log_end layout generation) (slot : Slot) (newest : ℕ) (counts : Counts current newest generation) (body : List ℕ) (records more : List (List ℕ)) where
  abbrev size : ℕ
  size = part_count (length bytes)

  abbrev longer : List (List ℕ)
  longer = more ++ bytes ∷ []

  one_more : length longer ≡ length more + 1
  one_more = length-append more (bytes ∷ [])

  behind_all : (records ++ more) ++ bytes ∷ [] ≡ records ++ longer
  behind_all = append_assoc records more (bytes ∷ [])

  -- the records of the log's generation
  abbrev logged : Image → List (List ℕ)
  logged image = records_of current layout generation image

  module _ (from image : Image) (maybe : MaybeLaid from next (record_run generation number bytes) image) where
    -- where the reading of the log ends as before, whatever stands after this record
    stays : (low : log_start layout generation ≤ next) (has : HasSome layout slot newest body records more from) → has.count ≤ length more → IsNoneAbove layout from generation
        → EndsWith layout generation image (logged from) (next + size) → HasBegun layout slot newest body records longer generation (number + 1) (next + size) image
    stays low has few above reads =
        let same : records ++ take has.count more ≡ records ++ take has.count longer = ap (λ (l : List (List ℕ)). records ++ l) (sym (take-append-le has.count more (bytes ∷ []) has.within)) in
        let now : HasRecords current layout generation image (logged from) = reads image (λ j l h. refl) in
        let told : logged from ≡ logged image = sym (only_records current layout generation image (logged from) now) in
        record {
          some = record {
            count = has.count;
            within = omega (arith, has.within, one_more);
            store = subst (IsStore current layout image slot newest body) same
                (with_same_records layout generation number next bytes last some short room newest counts from slot body (records ++ take has.count more) has.store above low image maybe now);
          };
          above = above_more layout generation number next bytes last some short room from image maybe generation (omega arith) above;
          rest = inr (omega (arith, few, one_more), subst (λ (l : List (List ℕ)). EndsWith layout generation image l (next + size)) told reads);
        }

    -- where the reading ended before, it still does
    ended : (low : log_start layout generation ≤ next) (has : HasSome layout slot newest body records more from) → has.count < length more → IsNoneAbove layout from generation
        → EndsWith layout generation from (logged from) next → HasBegun layout slot newest body records longer generation (number + 1) (next + size) image
    ended low has fewer above reads = stays low has (omega (arith, fewer)) above (λ other agrees. reads other (λ j l h. agrees j l (omega (arith, h)) ∙ maybe.outside j (inl h)))

    module _ (store : IsStore current layout from slot newest body (records ++ more)) (above : IsNoneAbove layout from generation) (end : IsLogEnd layout generation from (logged from) number next) where
      -- the record is whole
      whole : ((i : ℕ) → i < length (record_run generation number bytes) → image (next + i) ≡ slice_index_or (record_run generation number bytes) i [])
          → HasBegun layout slot newest body records longer generation (number + 1) (next + size) image
      whole all =
          let laid : IsLaid from next (record_run generation number bytes) image = record { inside = all; outside = maybe.outside } in
          record {
            some = all_some longer (subst (IsStore current layout image slot newest body) behind_all
                (record_store layout generation number next bytes last some short room newest counts from slot body (records ++ more) store above end image laid));
            above = above_more layout generation number next bytes last some short room from image maybe generation (omega arith) above;
            rest = inl (refl, record_end layout generation number next bytes last some short room newest counts from slot body (records ++ more) store above end image laid);
          }

      -- the record is torn, and stays so whatever stands after it
      torn : (i : ℕ) → i < length (record_run generation number bytes) → image (next + i) ≡ from (next + i)
          → HasBegun layout slot newest body records longer generation (number + 1) (next + size) image
      torn i below kept = stays (omega (arith, end.place)) (all_some more store) (omega arith) above
          (λ other agrees. ends layout generation number next bytes last some short room from (logged from) end (records_are current layout generation from) image other maybe i below kept agrees)

      written : HasBegun layout slot newest body records longer generation (number + 1) (next + size) image
      written = ⊎_elim whole (λ found. torn found.0 found.1 found.2)
          (all_or_one (length (record_run generation number bytes)) (λ i. image (next + i) ≡ slice_index_or (record_run generation number bytes) i []) (λ i. image (next + i) ≡ from (next + i))
          (λ i below. ⊎_elim (λ o. inr o) (λ n. inl n) (maybe.inside i below)))

    -- A record is written after others that weren't synced: the image has a beginning of all of them.
    pub written_behind : log_start layout generation ≤ next → HasBegun layout slot newest body records more generation number next from
        → HasBegun layout slot newest body records longer generation (number + 1) (next + size) image
    written_behind low has = ⊎_elim
        (λ log. written (subst (λ (l : List (List ℕ)). IsStore current layout from slot newest body (records ++ l)) (take_all has.some.count more (omega (arith, log.0))) has.some.store) has.above log.1)
        (λ fewer. ended low has.some fewer.0 has.above fewer.1)
        has.rest

  -- ---- the same of whole runs of calls

  module _ (past new : Past) (ahead : GoesOnAhead layout past slot newest body records more generation number next) (run : During past new (AfterRun past next (record_run generation number bytes))) where
    low : log_start layout generation ≤ next
    low = omega (arith, ahead.end.place)

    begun : During past new (HasBegun layout slot newest body records longer generation (number + 1) (next + size))
    begun = weaker past new _ _ (λ image m. written_behind m.from image m.laid low (ahead.images m.from m.was)) run

    -- while the record is written
    pub written_some : During past new (HasSome layout slot newest body records longer)
    written_some = weaker past new _ _ (λ image has. has.some) begun

    -- and after it
    pub written_ahead : IsLaid (seen past) next (record_run generation number bytes) (seen new) → GoesOnAhead layout new slot newest body records longer generation (number + 1) (next + size)
    written_ahead laid = record {
      counts = counts;
      images = at_end past new _ begun;
      store = subst (IsStore current layout (seen new) slot newest body) behind_all
          (record_store layout generation number next bytes last some short room newest counts (seen past) slot body (records ++ more) ahead.store ahead.above ahead.end (seen new) laid);
      above = above_more layout generation number next bytes last some short room (seen past) (seen new) (laid_maybe (seen past) next (record_run generation number bytes) (seen new) laid) generation (omega arith) ahead.above;
      end = record_end layout generation number next bytes last some short room newest counts (seen past) slot body (records ++ more) ahead.store ahead.above ahead.end (seen new) laid;
    }

module _ {layout : Layout} {past : Past} {slot : Slot} {newest : ℕ} {body : List ℕ} {records more : List (List ℕ)} {generation number next : ℕ}
    (ahead : GoesOnAhead layout past slot newest body records more generation number next) where
  pub still_more : (bytes : List ℕ) → During past past (HasSome layout slot newest body records (more ++ bytes ∷ []))
  still_more bytes = started past _ (λ image is. some_more bytes (ahead.images image is).some)

  -- while the records are synced
  pub flush_some : {T E : Type 0} (result : Result T E) (new : Past) → Synced result past new → During past new (HasSome layout slot newest body records more)
  flush_some result new is = during_sync result past new _ is (all_some more ahead.store) (λ image at. (ahead.images image at).some)

  -- and after that they all stand
  pub flushed : (new : Past) → new ≡ after synced past → GoesOn layout new slot newest body (records ++ more) generation number next
  flushed new is = subst (λ (p : Past). GoesOn layout p slot newest body (records ++ more) generation number next) (sym is) (record {
    counts = ahead.counts;
    store = λ image at. subst (λ i. IsStore current layout i slot newest body (records ++ more)) (sym (image_synced past image at)) ahead.store;
    above = λ image at. subst (λ (i : Image). IsNoneAbove layout i generation) (sym (image_synced past image at)) ahead.above;
    end = λ image at. subst (λ i. IsLogEnd layout generation i (records_of current layout generation i) number next) (sym (image_synced past image at)) ahead.end;
  })

-- a log of which all is synced is ahead by nothing
pub ahead_by_nothing : {layout : Layout} {past : Past} {slot : Slot} {newest : ℕ} {body : List ℕ} {records : List (List ℕ)} {generation number next : ℕ} → IsImage past (seen past)
    → GoesOn layout past slot newest body records generation number next → GoesOnAhead layout past slot newest body records [] generation number next
ahead_by_nothing {layout} {past} {slot} {newest} {body} {records} here whole =
    let none : records ≡ records ++ [] = sym (append-nil records) in
    let store : (image : Image) → IsImage past image → IsStore current layout image slot newest body (records ++ []) =
    λ image is. subst (IsStore current layout image slot newest body) none (whole.store image is) in
    record {
      counts = whole.counts;
      images = λ image is. record { some = all_some [] (store image is); above = whole.above image is; rest = inl (refl, whole.end image is) };
      store = store (seen past) here;
      above = whole.above (seen past) here;
      end = whole.end (seen past) here;
    }

-- and one that is ahead by nothing is all synced
pub nothing_ahead : {layout : Layout} {past : Past} {slot : Slot} {newest : ℕ} {body : List ℕ} {records : List (List ℕ)} {generation number next : ℕ}
    → GoesOnAhead layout past slot newest body records [] generation number next → GoesOn layout past slot newest body records generation number next
nothing_ahead {layout} {past} {slot} {newest} {body} {records} ahead =
    let none : (n : ℕ) → records ++ take n [] ≡ records = λ n. ap (λ (l : List (List ℕ)). records ++ l) (take_all n [] (omega arith)) ∙ append-nil records in
    record {
      counts = ahead.counts;
      store = λ image is. subst (IsStore current layout image slot newest body) (none (ahead.images image is).some.count) (ahead.images image is).some.store;
      above = λ image is. (ahead.images image is).above;
      end = λ image is. ⊎_elim (λ all. all.1) (λ fewer. absurd (omega (arith, fewer.0))) (ahead.images image is).rest;
    }
