-- The images that a crash leaves while a store is made.
use Rattle.std.proofs.Common.{◌≡◌, ◌⊎◌, inl, inr, ⊎_elim, ℕ, ◌+◌, ◌-◌, ◌<◌, ◌≤◌, List, [], ◌∷◌, length, refl, sym, ◌∙◌, ap, subst, arith}
use Rattle.std.specs.Prelude.{Result, Ok, Err, OnOk, OnErr, replicate, take, codes, cond}
use Rattle.std.proofs.lemmas.List.Sums.{sum_by-cons}
use Rattle.std.proofs.lemmas.List.{length-replicate, get_or-replicate}
use Rattle.um_model.specs.Disk.{Sector, Image, Past, seen, IsImage, Images, synced as synced_call, with_sector, Wrote, Synced, During}
use Rattle.um_sector.specs.Runs.{IsLaid, MaybeLaid, AfterRun}
use Rattle.um_model.specs.Machine.{empty_state}
use Rattle.um_model.specs.Profiles as profiles
use Rattle.um_model.specs.StateSpellings.{state_spelling}
use Rattle.um_model.specs.Store.{current, superblock, slot_start, body_limit, first_log_sector, HasNoHeader, IsHeader, IsNewest, IsOf, IsNoneAbove}
use Rattle.um_model.specs.declared.layout.Layout.{Layout}
use Rattle.um_model.specs.declared.layout.Slot.{Slot}
use Rattle.um_model.specs.declared.layout.Slot.TheVariants.{A, B}
use Rattle.um_laws.proofs.DiskLaws.{with_same, during_write, during_sync, followed, weaker, started, at_end, image_synced}
use Rattle.um_laws.proofs.FitStateLaws.{empty_fit}
use Rattle.um_laws.proofs.StandsLaws.{contents_are, empty_store, empty_back, empty_may}
use Rattle.um_laws.proofs.StoreLaws.{blank_header, blank_log}
use Rattle.um_laws.proofs.CountedLaws.{made_store}
use Rattle.um_laws.proofs.WholeLaws.{spelled_room}
use Rattle.um_sector.specs.Unsynced.{is_sync, sync_count}
use Rattle.um_keeper.specs.Creating.{blank, IsNoStore, WasOrIsNone, IsEmptyStore, NoneOrEmpty, WhileCreated, synced, IsWiped}

-- sector 0 is zeros
abbrev pub IsZeroed : Image → Type 0
IsZeroed image = image 0 ≡ blank

-- zeros begin as no store
zeros_none : 0 ∷ 0 ∷ 0 ∷ 0 ∷ 0 ∷ 0 ∷ [] ≡ codes "UMDISK" → ⊥
zeros_none e = absurd (cc)

pub zeroed_none : (image : Image) → IsZeroed image → IsNoStore image
zeroed_none image zero is = zeros_none (ap (λ (s : Sector). take 6 s) (sym zero) ∙ is)

-- ---- sector 0 is zeroed

pub unformat_write : {T E : Type 0} (result : Result T E) (past new : Past) → Wrote result past 0 blank new → During past new (WasOrIsNone past)
unformat_write result past new wrote =
    during_write result past 0 blank new (IsImage past) (WasOrIsNone past) wrote (λ image is. is) (λ d is. inl is) (λ d is. inr (zeroed_none (with_sector d 0 blank) (with_same d 0 blank)))

pub unformat_sync : {T E : Type 0} (result : Result T E) (past mid new : Past) → During past mid (WasOrIsNone past) → IsZeroed (seen mid) → Synced result mid new → During past new (WasOrIsNone past)
unformat_sync result past mid new so_far zero is =
    followed past mid new (WasOrIsNone past) so_far (during_sync result mid new (WasOrIsNone past) is (inr (zeroed_none (seen mid) zero)) (at_end past mid (WasOrIsNone past) so_far))

-- a write is no sync
pub wrote_count : {T E : Type 0} (result : Result T E) (past : Past) (k : ℕ) (v : Sector) (new : Past) → Wrote result past k v new → sync_count new ≡ sync_count past
wrote_count (Ok x) past k v new is = ap sync_count is
wrote_count (Err e) past k v new (inl same) = ap sync_count same
wrote_count (Err e) past k v new (inr maybe) = ap sync_count maybe.is

-- a sync that answers Ok is one more
pub synced_count : {T E : Type 0} (result : Result T E) (H : Type 0) (first past new : Past) → (H → Synced result past new) → (H → sync_count past ≡ sync_count first) → OnOk result (H → sync_count new ≡ sync_count first + 1)
synced_count (Ok x) H first past new is same =
    λ h. let one : sync_count new ≡ 1 + sync_count past = ap sync_count (is h) ∙ sum_by-cons (λ call. cond (is_sync call) 1 0) synced_call past.calls in
    let two = same h in omega (arith, one, two)
synced_count (Err e) H first past new is same = tt

-- another isn't
pub failed_count : {T E : Type 0} (result : Result T E) (H : Type 0) (first past new : Past) → (H → Synced result past new) → (H → sync_count past ≡ sync_count first) → OnErr result (H → sync_count new ≡ sync_count first)
failed_count (Ok x) H first past new is same = tt
failed_count (Err e) H first past new is same = λ h. ap sync_count (is h) ∙ same h

-- after it sector 0 is zeros in each image
pub zeroed_ok : {T E : Type 0} (result : Result T E) (H : Type 0) (past new : Past) → (H → Synced result past new) → (H → IsZeroed (seen past)) → OnOk result (H → Images new IsZeroed)
zeroed_ok (Ok x) H past new is here = λ h. subst (λ p. Images p IsZeroed) (sym (is h)) (λ image at. ap (λ (i : Image). i 0) (image_synced past image at) ∙ here h)
zeroed_ok (Err e) H past new is here = tt

-- ---- headers and log are zeroed

-- a write after sector 0 leaves it
pub zero_goes_on : (old mid new : Past) (at : ℕ) (run : List Sector) → 0 < at → During old mid IsZeroed → During mid new (AfterRun mid at run) → During old new IsZeroed
zero_goes_on old mid new at run some so_far more =
    followed old mid new IsZeroed so_far (weaker mid new _ _ (λ image m. m.laid.outside 0 (inl some) ∙ at_end old mid IsZeroed so_far m.from m.was) more)

pub zero_first : (old new : Past) (at : ℕ) (run : List Sector) → 0 < at → Images old IsZeroed → During old new (AfterRun old at run) → During old new IsZeroed
zero_first old new at run some all more = zero_goes_on old old new at run some (started old IsZeroed all) more

-- zeros inside, all else as before
blank_inside : (old image : Image) (at n : ℕ) → IsLaid old at (replicate n blank) image → (j : ℕ) → at ≤ j → j < at + n → image j ≡ blank
blank_inside old image at n laid j low high =
    let e : at + (j - at) ≡ j = omega arith in
    let below : j - at < n = omega arith in
    sym (ap image e) ∙ laid.inside (j - at) (omega (arith, below, length-replicate n blank)) ∙ get_or-replicate n (j - at) blank [] below

blank_outside : (old image : Image) (at n : ℕ) → IsLaid old at (replicate n blank) image → (j : ℕ) → (j < at) ⊎ (at + n ≤ j) → image j ≡ old j
blank_outside old image at n laid j out = laid.outside j (⊎_elim (λ low. inl low) (λ high. inr (omega (arith, high, length-replicate n blank))) out)

pub wiped : (layout : Layout) (a b c d : Image) → IsZeroed a → IsLaid a (slot_start layout A) (replicate 1 blank) b → IsLaid b (slot_start layout B) (replicate 1 blank) c
    → IsLaid c (first_log_sector layout) (replicate layout.log_sectors blank) d → IsWiped layout d
wiped layout a b c d zero one two three = record {
  first = low 0 (omega arith) ∙ blank_outside b c (slot_start layout B) 1 two 0 (inl (omega arith)) ∙ blank_outside a b 1 1 one 0 (inl (omega arith)) ∙ zero;
  headers = headers;
  log = λ j l h. blank_inside c d (first_log_sector layout) layout.log_sectors three j l h;
}
  where
    low : (j : ℕ) → j < first_log_sector layout → d j ≡ c j
    low j l = blank_outside c d (first_log_sector layout) layout.log_sectors three j (inl l)

    headers : (slot : Slot) → d (slot_start layout slot) ≡ blank
    headers A = low 1 (omega (arith, layout.slot_least)) ∙ blank_outside b c (slot_start layout B) 1 two 1 (inl (omega (arith, layout.slot_least))) ∙ blank_inside a b 1 1 one 1 (omega arith) (omega arith)
    headers B = low (slot_start layout B) (omega (arith, layout.slot_least)) ∙ blank_inside b c (slot_start layout B) 1 two (slot_start layout B) (omega arith) (omega arith)

-- so there is no header, and none of the log is of any generation
pub wiped_none : (layout : Layout) (image : Image) → IsWiped layout image → HasNoHeader layout image
wiped_none layout image w slot generation size is = blank_header layout generation size (subst (λ (s : Sector). IsHeader layout s generation size) (w.headers slot) is)

pub wiped_above : (layout : Layout) (image : Image) → IsWiped layout image → IsNoneAbove layout image 0
wiped_above layout image w theirs j low high is = absurd (blank_log theirs (subst (IsOf theirs) (w.log j low high) is))

-- ---- sector 0 makes it the store of the empty state

-- whose bytes have room
pub empty_room : (layout : Layout) → length (state_spelling empty_state) ≤ body_limit layout
empty_room layout = spelled_room (body_limit layout) empty_state (empty_fit profiles.current) (empty_may layout)

module _ (layout : Layout) (mid : Image) (newest : IsNewest layout mid A 1 (state_spelling empty_state)) (none : IsNoneAbove layout mid 0) where
  makes : (image : Image) → image 0 ≡ superblock current layout → ((j : ℕ) → 1 ≤ j → image j ≡ mid j) → IsEmptyStore layout image
  makes image first same =
      let store = made_store newest (omega arith) none same first in
      record { store = empty_store store; holds = contents_are store empty_back refl }

  pub made : (image : Image) → IsLaid mid 0 (superblock current layout ∷ []) image → IsEmptyStore layout image
  made image laid = makes image (laid.inside 0 (omega arith)) (λ j above. laid.outside j (inr above))

  pub made_maybe : IsZeroed mid → (image : Image) → MaybeLaid mid 0 (superblock current layout ∷ []) image → NoneOrEmpty layout image
  made_maybe zero image maybe = ⊎_elim {C = NoneOrEmpty layout image}
      (λ old. inl (zeroed_none image (old ∙ zero)))
      (λ new. inr (makes image new (λ j above. maybe.outside j (inr above))))
      (maybe.inside 0 (omega arith))

-- ---- all of it

module _ (layout : Layout) (old first : Past) (count : sync_count first ≡ sync_count old + 1) (begun : During old first (WasOrIsNone old)) where
  -- while sector 0 is zeros
  pub while_zeroed : (new : Past) → During first new IsZeroed → WhileCreated layout old new
  while_zeroed new run = synced first count begun (weaker first new _ _ (λ image zero. inl (zeroed_none image zero)) run)

  -- while sector 0 is written
  pub while_made : (mid new : Past) → During first mid IsZeroed → During mid new (NoneOrEmpty layout) → WhileCreated layout old new
  while_made mid new run last =
      synced first count begun (followed first mid new (NoneOrEmpty layout) (weaker first mid _ _ (λ image zero. inl (zeroed_none image zero)) run) last)
