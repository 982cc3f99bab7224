-- The disk after a part of a snapshot's body: as before except for the other slot's body, which isn't read.
use Rattle.std.proofs.Common.{◌≡◌, ◌⊎◌, ◌∙◌, ℕ, ◌+◌, ◌<◌, ◌≤◌, List, length, sym, subst, inl, inr, ⊎_elim, arith}
use Rattle.um_model.specs.Disk.{Past, Image, IsImage, During, seen}
use Rattle.um_model.specs.Store.{current, other, slot_start, first_log_sector, records_of, IsOf, IsNewest, IsNoneAbove, IsLogEnd, IsStore}
use Rattle.um_model.specs.declared.layout.Layout.{Layout}
use Rattle.um_model.specs.declared.layout.Slot.{Slot}
use Rattle.um_laws.proofs.CountedLaws.{same_all, same_log}
use Rattle.um_laws.proofs.DiskLaws.{weaker, at_end}
use Rattle.um_laws.proofs.StoreLaws.{area_within, behind_slot, kept_newest, same_above}
use Rattle.um_slot.specs.Snapshots.{IsBeside}
use Rattle.um_log.specs.Ahead.{EndsWith, HasSome, HasBegun, GoesOnAhead}

-- ---- the log, where its sectors are the same

module _ (layout : Layout) (generation : ℕ) (a b : Image) (same : (j : ℕ) → first_log_sector layout ≤ j → b j ≡ a j) where
  pub records_same : records_of current layout generation b ≡ records_of current layout generation a
  records_same = same_log current layout generation a b (λ j low high. same j low)

  -- it goes on where it did
  pub end_same : {number next : ℕ} → IsLogEnd layout generation a (records_of current layout generation a) number next → IsLogEnd layout generation b (records_of current layout generation b) number next
  end_same {number} {next} end =
      let within = area_within current layout generation in
      let place = end.place in
      subst (λ (l : List (List ℕ)). IsLogEnd layout generation b l number next) (sym records_same) (record {
        count = end.count;
        place = end.place;
        within = end.within;
        free = λ theirs j low high is. end.free theirs j low high (subst (IsOf theirs) (same j (omega (arith, low, place, within.0))) is);
      })

  ends_same : {next : ℕ} → EndsWith layout generation a (records_of current layout generation a) next → EndsWith layout generation b (records_of current layout generation b) next
  ends_same {next} ends =
      let within = area_within current layout generation in
      subst (λ (l : List (List ℕ)). EndsWith layout generation b l next) (sym records_same)
      (λ other agrees. ends other (λ j low high. agrees j low high ∙ same j (omega (arith, low, within.0))))

-- ---- an image beside one of before

module _ {layout : Layout} {past : Past} {slot : Slot} {image : Image} (b : IsBeside layout past slot image) where
  log_beside : (j : ℕ) → first_log_sector layout ≤ j → image j ≡ b.from j
  log_beside j low = b.same j (inr (behind_slot layout (other slot) j low))

  newest_beside : {newest : ℕ} {body : List ℕ} → IsNewest layout b.from slot newest body → IsNewest layout image slot newest body
  newest_beside there =
      kept_newest there (λ j out. b.same j (⊎_elim {C = (j ≤ slot_start layout (other slot)) ⊎ (slot_start layout (other slot) + layout.slot_sectors ≤ j)} (λ low. inl (omega (arith, low))) (λ high. inr high) out))
      (b.same (slot_start layout (other slot)) (inl (omega arith)))

  -- it is the same store
  pub store_beside : {newest : ℕ} {body : List ℕ} {records : List (List ℕ)} → IsStore current layout b.from slot newest body records → IsStore current layout image slot newest body records
  store_beside {newest} store = record {
    first = b.same 0 (inl (omega arith)) ∙ store.first;
    newest = newest_beside store.newest;
    records_are = store.records_are ∙ sym (same_all current layout newest b.from image (λ j low high. log_beside j low));
    none_later = same_above layout (λ j low high. log_beside j low) store.none_later;
  }

  pub above_beside : {generation : ℕ} → IsNoneAbove layout b.from generation → IsNoneAbove layout image generation
  above_beside none = same_above layout (λ j low high. log_beside j low) none

  pub some_beside : {newest : ℕ} {body : List ℕ} {records more : List (List ℕ)} → HasSome layout slot newest body records more b.from → HasSome layout slot newest body records more image
  some_beside has = record { count = has.count; within = has.within; store = store_beside has.store }

  -- and its log goes on in the same way
  pub begun_beside : {newest : ℕ} {body : List ℕ} {records more : List (List ℕ)} {generation number next : ℕ} → HasBegun layout slot newest body records more generation number next b.from
      → HasBegun layout slot newest body records more generation number next image
  unfolding some_beside
  begun_beside {more = more} {generation} {number} {next} has = record {
    some = some_beside has.some;
    above = above_beside has.above;
    rest = ⊎_elim {C = ((has.some.count ≡ length more) × IsLogEnd layout generation image (records_of current layout generation image) number next)
        ⊎ ((has.some.count < length more) × EndsWith layout generation image (records_of current layout generation image) next)}
        (λ all. inl (all.0, end_same layout generation b.from image log_beside all.1))
        (λ fewer. inr (fewer.0, ends_same layout generation b.from image log_beside fewer.1)) has.rest;
  }

-- ---- after the calls that write a part

module _ {layout : Layout} {past new : Past} {slot : Slot} {newest : ℕ} {body : List ℕ} {records more : List (List ℕ)} {generation number next : ℕ} (here : IsImage past (seen past))
    (ahead : GoesOnAhead layout past slot newest body records more generation number next) (run : During past new (IsBeside layout past slot)) where
  pub part_some : During past new (HasSome layout slot newest body records more)
  part_some = weaker past new _ _ (λ image b. some_beside b (ahead.images b.from b.was).some) run

  pub part_ahead : ((j : ℕ) → (j ≤ slot_start layout (other slot)) ⊎ (slot_start layout (other slot) + layout.slot_sectors ≤ j) → seen new j ≡ seen past j)
      → GoesOnAhead layout new slot newest body records more generation number next
  part_ahead same =
      let b : IsBeside layout past slot (seen new) = record { from = seen past; was = here; same = same } in
      record {
        counts = ahead.counts;
        images = λ image is. let c = at_end past new _ run image is in begun_beside c (ahead.images c.from c.was);
        store = store_beside b ahead.store;
        above = above_beside b ahead.above;
        end = end_same layout generation (seen past) (seen new) (λ j low. same j (inr (behind_slot layout (other slot) j low))) ahead.end;
      }
