-- The images that a crash leaves while a snapshot is written into a slot.
use Rattle.std.specs.Prelude.{◌≡◌, ◌⊎◌, ◌+◌, ◌-◌, ◌<◌, ◌≤◌, ℕ, List, [], ◌∷◌, length, slice_index_or, Result, Ok, refl}
use Rattle.std.proofs.Common.{sym, ◌∙◌, ap, subst, inl, inr, ⊎_elim, arith}
use Rattle.std.proofs.lemmas.Bool.{cases_lt}
use Rattle.um_model.specs.Disk.{Sector, Image, Past, seen, IsImage, Images, During, Synced, after, synced}
use Rattle.um_sector.specs.Runs.{IsLaid, MaybeLaid, AfterRun}
use Rattle.um_laws.proofs.DiskLaws.{weaker, followed, at_end, during_sync}
use Rattle.um_model.specs.declared.layout.Layout.{Layout}
use Rattle.um_model.specs.declared.layout.Slot.{Slot}
use Rattle.um_laws.proofs.StoreLaws.{before_slot}
use Rattle.um_model.specs.Store.{slot_start, other, body_limit, sector_count, header_sector}
use Rattle.um_slot.specs.Snapshots.{body_sector, part_run, IsWritten, IsBeside, IsSnapshot, MaybeSnapshot, AfterSnapshot, AfterSeal}
use Rattle.std.proofs.lemmas.List.FromFn.{length-map-range_with_len, get_or-map-range_with_len}

-- the number of sectors of a part of a body, each in its place
pub part_count : (body : List ℕ) (from count : ℕ) → length (part_run body from count) ≡ count
part_count body from count = length-map-range_with_len (body_sector body) from count

pub part_each : (body : List ℕ) (from count i : ℕ) → i < count → slice_index_or (part_run body from count) i [] ≡ body_sector body (from + i)
part_each body from count i low = get_or-map-range_with_len (body_sector body) from count i (from + i) [] low refl

-- sector 0 stays
pub first_kept : (layout : Layout) (old new : Past) (slot : Slot) (generation : ℕ) (body : List ℕ) (first : Sector) → Images old (λ image. image 0 ≡ first)
    → During old new (AfterSnapshot layout old slot generation body) → During old new (λ image. image 0 ≡ first)
first_kept layout old new slot generation body first all run = weaker old new _ _ (λ image m. m.maybe.outside 0 (inl (before_slot layout slot)) ∙ all m.from m.was) run

-- ---- a part of a body

module _ (layout : Layout) (home : Slot) (body : List ℕ) (from count : ℕ) (fits : length body ≤ body_limit layout) (low : from + count ≤ sector_count (length body)) where
  abbrev place : ℕ
  place = slot_start layout (other home) + 1 + from

  -- outside the body's place it isn't written
  out_of_part : (j : ℕ) → (j ≤ slot_start layout (other home)) ⊎ (slot_start layout (other home) + layout.slot_sectors ≤ j) → (j < place) ⊎ (place + length (part_run body from count) ≤ j)
  out_of_part j out = ⊎_elim (λ under. inl (omega (arith, under))) (λ over. inr (omega (arith, over, low, fits, part_count body from count, layout.slot_least))) out

  -- while it is written
  pub part_during : (old new : Past) → During old new (AfterRun old place (part_run body from count)) → During old new (IsBeside layout old home)
  part_during old new run = weaker old new _ _ (λ image m. record { from = m.from; was = m.was; same = λ j out. m.laid.outside j (out_of_part j out) }) run

  -- and after it
  pub part_beside : (old new : Image) → IsLaid old place (part_run body from count) new
      → (j : ℕ) → (j ≤ slot_start layout (other home)) ⊎ (slot_start layout (other home) + layout.slot_sectors ≤ j) → new j ≡ old j
  part_beside old new laid j out = laid.outside j (out_of_part j out)

  pub part_written : (old new : Image) → IsLaid old place (part_run body from count) new → IsWritten layout old (other home) body from → IsWritten layout new (other home) body (from + count)
  part_written old new laid before i below = ⊎_elim
      (λ earlier. laid.outside (slot_start layout (other home) + 1 + i) (inl (omega (arith, earlier))) ∙ before i earlier)
      (λ later.
      let k : from + (i - from) ≡ i = omega (arith, later) in
      let at : slot_start layout (other home) + 1 + i ≡ place + (i - from) = omega (arith, later) in
      let inside : i - from < count = omega (arith, below, later) in
      ap new at ∙ laid.inside (i - from) (omega (arith, inside, part_count body from count)) ∙ part_each body from count (i - from) inside ∙ ap (body_sector body) k)
      (cases_lt i from)

-- ---- its header

module _ (layout : Layout) (slot : Slot) (generation : ℕ) (body : List ℕ) where
  abbrev start : ℕ
  start = slot_start layout slot

  -- an image is a snapshot that isn't there yet
  pub as_it_was : (image : Image) → MaybeSnapshot layout image slot generation body image
  as_it_was image = record { outside = λ j out. refl; inside = inl refl }

  module _ (old : Image) (all : IsWritten layout old slot body (sector_count (length body))) where
    header_beside : (j : ℕ) → (j < start) ⊎ (start + layout.slot_sectors ≤ j) → (j < start) ⊎ (start + 1 ≤ j)
    header_beside j out = ⊎_elim (λ low. inl low) (λ high. inr (omega (arith, high, layout.slot_least))) out

    whole : (image : Image) → image start ≡ header_sector generation (length body) → ((j : ℕ) → (j < start) ⊎ (start + 1 ≤ j) → image j ≡ old j) → IsSnapshot layout image slot generation body
    whole image header same = record {
      header = header;
      sectors = λ i below. same (start + 1 + i) (inr (omega arith)) ∙ all i below;
    }

    here : start + 0 ≡ start
    here = omega arith

    -- while its header is written
    pub header_maybe : (image : Image) → MaybeLaid old start (header_sector generation (length body) ∷ []) image → MaybeSnapshot layout old slot generation body image
    header_maybe image maybe = record {
      outside = λ j out. maybe.outside j (header_beside j out);
      inside = ⊎_elim
          (λ kept. inl (sym (ap image here) ∙ kept ∙ ap old here))
          (λ new. inr (whole image (sym (ap image here) ∙ new) maybe.outside))
          (maybe.inside 0 (omega arith));
    }

    -- and after it
    pub header_done : (image : Image) → IsLaid old start (header_sector generation (length body) ∷ []) image → IsSnapshot layout image slot generation body
    header_done image laid = whole image (sym (ap image here) ∙ laid.inside 0 (omega arith)) laid.outside

    pub done_maybe : (image : Image) → IsLaid old start (header_sector generation (length body) ∷ []) image → MaybeSnapshot layout old slot generation body image
    done_maybe image laid = record { outside = λ j out. laid.outside j (header_beside j out); inside = inr (header_done image laid) }

  -- the sync before it
  pub sealing : {T E : Type 0} (result : Result T E) (old mid : Past) → IsImage old (seen old) → Synced result old mid → During old mid (AfterSeal layout old slot generation body)
  sealing result old mid is sync = during_sync result old mid (AfterSeal layout old slot generation body) sync (inl is) (λ image at. inl at)

  -- and then the header
  pub sealed : (old mid new : Past) → IsImage old (seen old) → mid ≡ after synced old → IsWritten layout (seen old) slot body (sector_count (length body))
      → During mid new (MaybeLaid (seen mid) start (header_sector generation (length body) ∷ [])) → During old new (AfterSeal layout old slot generation body)
  sealed old mid new is sync all run =
      let result : Result (Unit {0}) (Unit {0}) = Ok tt in
      followed old mid new (AfterSeal layout old slot generation body) (sealing result old mid is sync)
      (weaker mid new _ _ (λ image maybe.
      inr (header_maybe (seen old) all image (subst (λ (p : Past). MaybeLaid (seen p) start (header_sector generation (length body) ∷ []) image) sync maybe))) run)

  -- either way it is of an image of before
  pub of_before : (past : Past) (image : Image) → IsImage past (seen past) → AfterSeal layout past slot generation body image → AfterSnapshot layout past slot generation body image
  of_before past image is (inl was) = record { from = image; was = was; maybe = as_it_was image }
  of_before past image is (inr maybe) = record { from = seen past; was = is; maybe = maybe }

-- ---- both

module _ (layout : Layout) (home : Slot) (generation : ℕ) (body : List ℕ) where
  -- outside the slot
  out_of_slot : (j : ℕ) → (j < slot_start layout (other home)) ⊎ (slot_start layout (other home) + layout.slot_sectors ≤ j)
      → (j ≤ slot_start layout (other home)) ⊎ (slot_start layout (other home) + layout.slot_sectors ≤ j)
  out_of_slot j out = ⊎_elim (λ low. inl (omega (arith, low))) (λ high. inr high) out

  -- while the body is written
  pub parts_maybe : (old mid : Past) → During old mid (IsBeside layout old home) → During old mid (AfterSnapshot layout old (other home) generation body)
  parts_maybe old mid run = weaker old mid _ _ (λ image m. record {
    from = m.from;
    was = m.was;
    maybe = record { outside = λ j out. m.same j (out_of_slot j out); inside = inl (m.same (slot_start layout (other home)) (inl (omega arith))) };
  }) run

  -- and after that its header
  maybe_on : (from mid image : Image) → ((j : ℕ) → (j ≤ slot_start layout (other home)) ⊎ (slot_start layout (other home) + layout.slot_sectors ≤ j) → mid j ≡ from j)
      → MaybeSnapshot layout mid (other home) generation body image → MaybeSnapshot layout from (other home) generation body image
  maybe_on from mid image same maybe = record {
    outside = λ j out. maybe.outside j out ∙ same j (out_of_slot j out);
    inside = ⊎_elim (λ kept. inl (kept ∙ same (slot_start layout (other home)) (inl (omega arith)))) (λ there. inr there) maybe.inside;
  }

  pub both_maybe : (old mid new : Past) → IsImage mid (seen mid) → During old mid (IsBeside layout old home) → During mid new (AfterSeal layout mid (other home) generation body)
      → During old new (AfterSnapshot layout old (other home) generation body)
  both_maybe old mid new is first second = followed old mid new (AfterSnapshot layout old (other home) generation body) (parts_maybe old mid first)
      (weaker mid new _ _ (λ image after.
      let m = of_before layout (other home) generation body mid image is after in
      let there = at_end old mid _ first m.from m.was in
      record { from = there.from; was = there.was; maybe = maybe_on there.from m.from image there.same m.maybe }) second)

  pub both_beside : (old mid new : Image) → ((j : ℕ) → (j ≤ slot_start layout (other home)) ⊎ (slot_start layout (other home) + layout.slot_sectors ≤ j) → mid j ≡ old j)
      → MaybeSnapshot layout mid (other home) generation body new → MaybeSnapshot layout old (other home) generation body new
  both_beside old mid new same maybe = maybe_on old mid new same maybe

-- none of a body stands there yet
pub none_written : (layout : Layout) (image : Image) (slot : Slot) (body : List ℕ) → IsWritten layout image slot body 0
none_written layout image slot body i below = absurd (omega (arith, below))
