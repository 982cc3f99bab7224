-- A record that is being written is there whole or not at all, and the log goes on after it.
use Rattle.std.specs.Prelude.{◌≡◌, ◌⊎◌, ◌+◌, ◌-◌, ◌^◌, ◌<◌, ◌≤◌, ℕ, suc, List, [], ◌∷◌, ◌++◌, length, drop, slice_index_or}
use Rattle.std.proofs.Common.{sym, ◌∙◌, ap, subst, inl, inr, ⊎_elim, arith, refl}
use Rattle.std.proofs.lemmas.Bool.{cases_lt}
use Rattle.std.proofs.lemmas.List.{length-append, append-nil}
use Rattle.byteorder.specs.Endian.{big_number}
use Rattle.um_model.specs.Disk.{Sector, Image, Past, seen, IsImage, During, IsSettled}
use Rattle.um_laws.proofs.DiskLaws.{started, weaker}
use Rattle.um_model.specs.declared.layout.Layout.{Layout}
use Rattle.um_model.specs.declared.layout.Slot.{Slot}
use Rattle.um_model.specs.Store.{current, log_start, log_end, record_limit, top, Counts, records_of, part_count, part_of, log_sector, IsRecord, AreRecords, stops, goes_on, HasRecords, sectors_of, IsOf, IsNoneAbove, IsFree, IsLogEnd, IsStore, GoesOn}
use Rattle.um_laws.proofs.CountedLaws.{counts_top, all_more}
use Rattle.um_laws.proofs.ImageLaws.{records_are, only_records}
use Rattle.um_laws.proofs.StoreLaws.{area_within, log_generation, log_size, is_of, none_of, unread_newest}
use Rattle.um_laws.proofs.LogLaws.{record_size, all_or_one, read_below, records_front, sectors_push}
use Rattle.um_sector.specs.Runs.{IsLaid, MaybeLaid, AfterRun}
use Rattle.um_sector.proofs.RunLaws.{laid_maybe}
use Rattle.um_log.specs.Appending.{record_run, EitherRecord, IsElsewhere}
use Rattle.std.proofs.lemmas.List.FromFn.{length-map-range_with_len, get_or-map-range_with_len}

-- the number of sectors of a record, each in its place
pub record_count : (generation number : ℕ) (bytes : List ℕ) → length (record_run generation number bytes) ≡ part_count (length bytes)
record_count generation number bytes = length-map-range_with_len (λ part. log_sector generation number part (length bytes) (part_of bytes part)) 0 (part_count (length bytes))

pub record_each : (generation number : ℕ) (bytes : List ℕ) (part : ℕ) → part < part_count (length bytes)
    → slice_index_or (record_run generation number bytes) part [] ≡ log_sector generation number part (length bytes) (part_of bytes part)
record_each generation number bytes part low =
    get_or-map-range_with_len (λ i. log_sector generation number i (length bytes) (part_of bytes i)) 0 (part_count (length bytes)) part part [] low (omega arith)

module _ (layout : Layout) (generation number next : ℕ) (bytes : List ℕ) (last : generation < 2 ^ 64) (some : 0 < length bytes) (short : length bytes ≤ record_limit layout generation)
    (room : next + part_count (length bytes) ≤ log_end layout generation) where
  abbrev size : ℕ
  size = part_count (length bytes)

  abbrev run : List Sector
  run = record_run generation number bytes

  count : length run ≡ size
  count = record_count generation number bytes

  each : (i : ℕ) → i < length run → slice_index_or run i [] ≡ log_sector generation number i (length bytes) (part_of bytes i)
  each i below = record_each generation number bytes i (omega (arith, below, count))

  module _ (old : Image) (records : List (List ℕ)) (end : IsLogEnd layout generation old records number next) (are : HasRecords current layout generation old records) where
    -- the sectors past the run are as before
    module _ (image : Image) (outside : (j : ℕ) → (j < next) ⊎ (next + length run ≤ j) → image j ≡ old j) where
      before_same : (j : ℕ) → log_start layout generation ≤ j → j < log_start layout generation + sectors_of records → image j ≡ old j
      before_same j low high = let place = end.place in outside j (inl (omega (arith, high, place)))

      -- nothing of the generation stands after it
      free_behind : IsFree layout generation image (next + size)
      free_behind theirs j low high is =
          end.free theirs j (omega (arith, low)) high (subst (IsOf theirs) (outside j (inr (omega (arith, low, count)))) is)

      with_more : (more : List (List ℕ)) → AreRecords current layout generation image number next more → HasRecords current layout generation image (records ++ more)
      with_more more behind_it = records_front 0 (log_start layout generation) records more number next are before_same (omega (arith, end.count)) end.place behind_it

      -- the whole run is the record
      whole : ((i : ℕ) → i < length run → image (next + i) ≡ slice_index_or run i []) → HasRecords current layout generation image (records ++ bytes ∷ [])
      whole all = with_more (bytes ∷ [])
          (goes_on (record { last = last; some = some; short = short; within = room; parts = λ part below. let low : part < length run = omega (arith, below, count) in all part low ∙ each part low })
          (stops (λ x. none_of free_behind (suc number) (next + size) x (omega arith))))

    -- where a sector of it is old, no record stands there
    torn : (image : Image) (i : ℕ) → i < length run → image (next + i) ≡ old (next + i) → (image (next + 0) ≡ old (next + 0)) ⊎ (image (next + 0) ≡ slice_index_or run 0 [])
        → (x : List ℕ) → IsRecord current layout generation image number next x → ⊥
    torn image i below kept zero_is x is = ⊎_elim {C = ⊥} (λ old_one. old_of 0 old_one (omega (arith, is.some))) (λ new. old_of i kept (omega (arith, below, count, same_size new))) zero_is
      where
        old_of : (k : ℕ) → image (next + k) ≡ old (next + k) → k < part_count (length x) → ⊥
        old_of k as_before low =
            let within = is.within in
            let smaller : generation < generation = end.free generation (next + k) (omega arith) (omega (arith, low, within))
            (subst (IsOf generation) (sym (is.parts k low) ∙ as_before) (is_of generation number k (length x) (part_of x k) last)) in
            omega (arith, smaller)

        same_size : image (next + 0) ≡ slice_index_or run 0 [] → length x ≡ length bytes
        same_size new =
            let here : next ≡ next + 0 = omega arith in
            let sector : image next ≡ log_sector generation number 0 (length bytes) (part_of bytes 0) = ap image here ∙ new ∙ each 0 (omega (arith, below)) in
            sym (record_size is) ∙ ap (λ (s : Sector). big_number 4 (drop 28 s)) sector ∙ log_size generation number 0 (length bytes) (part_of bytes 0) (omega (arith, short))

    -- the reading then ends with the records before it, whatever stands after it
    pub ends : (image other : Image) → MaybeLaid old next run image → (i : ℕ) → i < length run → image (next + i) ≡ old (next + i)
        → ((j : ℕ) → log_start layout generation ≤ j → j < next + size → other j ≡ image j) → HasRecords current layout generation other records
    ends image other maybe i below kept same =
        let here : (k : ℕ) → k < length run → other (next + k) ≡ image (next + k) = λ k low. same (next + k) (omega (arith, end.place)) (omega (arith, low, count)) in
        let first : 0 < length run = omega (arith, count, some) in
        let place = end.place in
        subst (HasRecords current layout generation other) (append-nil records)
        (records_front 0 (log_start layout generation) records [] number next are (λ j low high. same j low (omega (arith, high, place)) ∙ maybe.outside j (inl (omega (arith, high, place)))) (omega (arith, end.count)) end.place
        (stops (torn other i below (here i below ∙ kept) (⊎_elim (λ o. inl (here 0 first ∙ o)) (λ n. inr (here 0 first ∙ n)) (maybe.inside 0 first)))))

    -- While the record is written, it is there or it isn't.
    pub maybe_appended : (image : Image) → MaybeLaid old next run image → HasRecords current layout generation image records ⊎ HasRecords current layout generation image (records ++ bytes ∷ [])
    maybe_appended image maybe = ⊎_elim
        (λ all. inr (whole image maybe.outside all))
        (λ found. inl (subst (HasRecords current layout generation image) (append-nil records)
        (with_more image maybe.outside [] (stops (torn image found.0 found.1 found.2 (maybe.inside 0 (omega (arith, count, some))))))))
        (all_or_one (length run) (λ i. image (next + i) ≡ slice_index_or run i []) (λ i. image (next + i) ≡ old (next + i)) (λ i below. ⊎_elim (λ o. inr o) (λ n. inl n) (maybe.inside i below)))

    -- Afterwards it is there, and the log goes on after it.
    pub appended : (image : Image) → IsLaid old next run image → HasRecords current layout generation image (records ++ bytes ∷ [])
    appended image laid = whole image laid.outside laid.inside

    pub end_behind : (image : Image) → IsLaid old next run image → IsLogEnd layout generation image (records ++ bytes ∷ []) (number + 1) (next + size)
    end_behind image laid = record {
      count = omega (arith, end.count, length-append records (bytes ∷ []));
      place = omega (arith, end.place, sectors_push records bytes);
      within = room;
      free = free_behind image laid.outside;
    }

  -- no sector of the log is of a later generation than one that is none below the record's
  pub above_more : (old image : Image) → MaybeLaid old next run image → (most : ℕ) → generation ≤ most → IsNoneAbove layout old most → IsNoneAbove layout image most
  above_more old image maybe most few before theirs j low high is = ⊎_elim
      (λ under. before theirs j low high (subst (IsOf theirs) (maybe.outside j (inl under)) is))
      (λ over. ⊎_elim
      (λ inside. in_run (j - next) (omega (arith, inside, over)) (omega (arith, over)))
      (λ behind_it. before theirs j low high (subst (IsOf theirs) (maybe.outside j (inr behind_it)) is))
      (cases_lt j (next + length run)))
      (cases_lt j next)
    where
      in_run : (i : ℕ) → i < length run → j ≡ next + i → theirs ≤ most
      in_run i below place = ⊎_elim
          (λ old_one. before theirs j low high (subst (IsOf theirs) (ap image place ∙ old_one ∙ sym (ap old place)) is))
          (λ new. let says = (subst (IsOf theirs) (ap image place ∙ new ∙ each i below) is).generation_is in
          let ours : theirs ≡ generation = sym says ∙ log_generation generation number i (length bytes) (part_of bytes i) last in omega (arith, ours, few))
          (maybe.inside i below)

  -- ---- the whole store meanwhile

  module _ (newest : ℕ) (counts : Counts current newest generation) (old : Image) (slot : Slot) (body : List ℕ) (records : List (List ℕ))
      (store : IsStore current layout old slot newest body records) (above : IsNoneAbove layout old generation) where
    -- where the log has more after its records, the store has
    pub with_more_records : log_start layout generation ≤ next → (image : Image) → MaybeLaid old next run image → (x : List (List ℕ))
        → HasRecords current layout generation image (records_of current layout generation old ++ x) → IsStore current layout image slot newest body (records ++ x)
    with_more_records low image maybe x are =
        let within = area_within current layout generation in
        record {
          first = maybe.outside 0 (inl (omega (arith, low, within.0))) ∙ store.first;
          newest = unread_newest layout old image (λ j read. maybe.outside j (inl (let under = read_below layout old j read in omega (arith, under, low, within.0)))) store.newest;
          records_are = ap (λ (l : List (List ℕ)). l ++ x) store.records_are
              ∙ sym (all_more layout newest generation old image counts above (above_more old image maybe generation (omega arith) above)
              (λ j first out. maybe.outside j (⊎_elim (λ before. inl (omega (arith, before, low))) (λ behind. inr (omega (arith, behind, room, count))) out)) x
              (only_records current layout generation image _ are));
          none_later = above_more old image maybe (top current newest) (counts_top current newest generation counts) store.none_later;
        }

    -- and where it has the same, the store has too
    pub with_same_records : log_start layout generation ≤ next → (image : Image) → MaybeLaid old next run image
        → HasRecords current layout generation image (records_of current layout generation old) → IsStore current layout image slot newest body records
    with_same_records low image maybe are =
        subst (IsStore current layout image slot newest body) (append-nil records)
        (with_more_records low image maybe [] (subst (HasRecords current layout generation image) (sym (append-nil (records_of current layout generation old))) are))

    module _ (end : IsLogEnd layout generation old (records_of current layout generation old) number next) where
      low : log_start layout generation ≤ next
      low = omega (arith, end.place)

      are : HasRecords current layout generation old (records_of current layout generation old)
      are = records_are current layout generation old

      pub either_record : (image : Image) → MaybeLaid old next run image → EitherRecord layout slot newest body records bytes image
      either_record image maybe = ⊎_elim (λ same. inl (with_same_records low image maybe same)) (λ more. inr (with_more_records low image maybe (bytes ∷ []) more))
          (maybe_appended old (records_of current layout generation old) end are image maybe)

      pub record_store : (image : Image) → IsLaid old next run image → IsStore current layout image slot newest body (records ++ bytes ∷ [])
      record_store image laid = with_more_records low image (laid_maybe old next run image laid) (bytes ∷ []) (appended old (records_of current layout generation old) end are image laid)

      -- after it the log goes on
      pub record_end : (image : Image) → IsLaid old next run image → IsLogEnd layout generation image (records_of current layout generation image) (number + 1) (next + size)
      record_end image laid =
          subst (λ (l : List (List ℕ)). IsLogEnd layout generation image l (number + 1) (next + size))
          (sym (only_records current layout generation image _ (appended old (records_of current layout generation old) end are image laid)))
          (end_behind old (records_of current layout generation old) end are image laid)

  -- ---- the same of whole runs of calls

  module _ (past new : Past) (slot : Slot) (newest : ℕ) (body : List ℕ) (records : List (List ℕ)) (ready : GoesOn layout past slot newest body records generation number next) where
    -- while the record is written
    pub during_record : During past new (AfterRun past next run) → During past new (EitherRecord layout slot newest body records bytes)
    during_record written = weaker past new _ _
        (λ image m. either_record newest ready.counts m.from slot body records (ready.store m.from m.was) (ready.above m.from m.was) (ready.end m.from m.was) image m.laid) written

    -- and after it
    pub goes_on_record : IsImage past (seen past) → IsLaid (seen past) next run (seen new) → IsSettled new → GoesOn layout new slot newest body (records ++ bytes ∷ []) generation (number + 1) (next + size)
    goes_on_record is laid settled =
        let store = ready.store (seen past) is in
        let end = ready.end (seen past) is in
        record {
          counts = ready.counts;
          store = λ image at. subst (λ i. IsStore current layout i slot newest body (records ++ bytes ∷ [])) (sym (settled image at))
              (record_store newest ready.counts (seen past) slot body records store (ready.above (seen past) is) end (seen new) laid);
          above = λ image at. subst (λ (i : Image). IsNoneAbove layout i generation) (sym (settled image at))
              (above_more (seen past) (seen new) (laid_maybe (seen past) next run (seen new) laid) generation (omega arith) (ready.above (seen past) is));
          end = λ image at. subst (λ i. IsLogEnd layout generation i (records_of current layout generation i) (number + 1) (next + size)) (sym (settled image at))
              (record_end newest ready.counts (seen past) slot body records store (ready.above (seen past) is) end (seen new) laid);
        }

-- before the first call
pub before_record : {layout : Layout} (past : Past) {slot : Slot} {newest : ℕ} {body : List ℕ} {records : List (List ℕ)} {generation number next : ℕ} (bytes : List ℕ)
    → GoesOn layout past slot newest body records generation number next → During past past (EitherRecord layout slot newest body records bytes)
before_record {layout} past {slot} {newest} {body} {records} bytes ready = started past _ (λ image is. inl (ready.store image is))

-- outside the run all is as in an image of before
pub before_elsewhere : (past : Past) (at count : ℕ) → During past past (IsElsewhere past at count)
before_elsewhere past at _ = started past _ (λ image is. record { from = image; was = is; same = λ j out. refl })

pub during_elsewhere : (old new : Past) (at count : ℕ) (run : List Sector) → length run ≡ count → During old new (AfterRun old at run) → During old new (IsElsewhere old at count)
during_elsewhere old new at _ _ is =
    weaker old new _ _ (λ image m. record { from = m.from; was = m.was; same = λ j out. m.laid.outside j (subst (λ (n : ℕ). (j < at) ⊎ (at + n ≤ j)) (sym is) out) })

-- a read gives elsewhere what it gave
pub read_elsewhere : (past new : Past) (at count : ℕ) (sectors : List Sector) → length sectors ≡ count → IsLaid (seen past) at sectors (seen new)
    → (j : ℕ) → (j < at) ⊎ (at + count ≤ j) → seen new j ≡ seen past j
read_elsewhere past new at _ sectors is laid j out = laid.outside j (subst (λ (n : ℕ). (j < at) ⊎ (at + n ≤ j)) (sym is) out)
