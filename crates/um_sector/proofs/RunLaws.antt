-- How the writing of a run goes on: each write and sync keeps the facts shown of the run so far.
use Rattle.std.specs.Prelude.{◌≡◌, ◌≢◌, ◌⊎◌, ◌+◌, ◌<◌, ◌≤◌, ℕ, zero, suc, List, [], length, take, Result, Ok, Err, refl}
use Rattle.std.proofs.Common.{cond, get_or, length-take, sym, ◌∙◌, ap, subst, inl, inr, ⊎_elim, arith, add-one}
use Rattle.std.proofs.lemmas.Bool.{cases_eq}
use Rattle.std.proofs.lemmas.List.{get_or-take}
use Rattle.um_model.specs.Disk.{Sector, Image, with_sector, Past, seen, IsImage, after, synced, Wrote, Synced, During, IsSettled, one_more}
use Rattle.um_laws.proofs.DiskLaws.{with_same, with_other, started, followed, weaker, at_end, during_write, during_sync}
use Rattle.um_sector.specs.Runs.{IsLaid, MaybeLaid, AfterRun, more}
use Rattle.std.proofs.lemmas.List.Sums.{sum_by-cons}
use Rattle.um_sector.specs.Unsynced.{is_sync, sync_count}

-- a run of which nothing was written yet
pub laid_start : (d : Image) (at : ℕ) → IsLaid d at [] d
laid_start d at = record { inside = λ i below. absurd (omega arith); outside = λ j out. refl }

pub maybe_start : (d : Image) (at : ℕ) (run : List Sector) → MaybeLaid d at run d
maybe_start d at run = record { inside = λ i below. inl refl; outside = λ j out. refl }

-- one sector of the run more, or again
pub maybe_write : (d : Image) (at : ℕ) (run : List Sector) (image : Image) (i : ℕ) (v : Sector) → i < length run → v ≡ get_or run i [] → MaybeLaid d at run image → MaybeLaid d at run (with_sector image (at + i) v)
maybe_write d at run image i v below is so_far = record {
  inside = λ k inside. ⊎_elim
      (λ same. inr (subst (λ n. with_sector image (at + i) v (at + n) ≡ get_or run n []) (sym same) (with_same image (at + i) v ∙ is)))
      (λ ne. let apart : at + k ≢ at + i = λ e. ne (omega (arith, e)) in subst (λ s. (s ≡ d (at + k)) ⊎ (s ≡ get_or run k [])) (sym (with_other image (at + i) (at + k) v apart)) (so_far.inside k inside))
      (cases_eq k i);
  outside = λ j out. let apart : j ≢ at + i = λ e. ⊎_elim {C = ⊥} (λ low. omega (arith, e, low, below)) (λ high. omega (arith, e, high, below)) out in with_other image (at + i) j v apart ∙ so_far.outside j out;
}

-- a whole run is some of it
pub laid_maybe : (d : Image) (at : ℕ) (run : List Sector) (image : Image) → IsLaid d at run image → MaybeLaid d at run image
laid_maybe d at run image all = record { inside = λ i below. inr (all.inside i below); outside = all.outside }

-- the run's next sector after those that stand there
pub laid_write : (d : Image) (at : ℕ) (run : List Sector) (image : Image) (i : ℕ) (v : Sector) → i < length run → v ≡ get_or run i [] → IsLaid d at (take i run) image → IsLaid d at (take (i + 1) run) (with_sector image (at + i) v)
laid_write d at run image i v below is so_far =
    let short : length (take i run) ≡ i = omega (arith, length-take i run) in
    let longer : length (take (i + 1) run) ≡ i + 1 = omega (arith, length-take (i + 1) run) in
    record {
      inside = λ k inside. ⊎_elim
          (λ same. subst (λ n. with_sector image (at + i) v (at + n) ≡ get_or (take (i + 1) run) n []) (sym same) (with_same image (at + i) v ∙ is ∙ sym (get_or-take (i + 1) run i [] (omega arith))))
          (λ ne. let apart : at + k ≢ at + i = λ e. ne (omega (arith, e)) in
          let k_below : k < i = omega (arith, ne, inside, longer) in
          with_other image (at + i) (at + k) v apart ∙ so_far.inside k (omega (arith, short, k_below)) ∙ get_or-take i run k [] k_below ∙ sym (get_or-take (i + 1) run k [] (omega (arith, k_below))))
          (cases_eq k i);
      outside = λ j out. let apart : j ≢ at + i = λ e. ⊎_elim {C = ⊥} (λ low. omega (arith, e, low, below)) (λ high. omega (arith, e, high, longer)) out in
          with_other image (at + i) j v apart ∙ so_far.outside j (⊎_elim (λ low. inl low) (λ high. inr (omega (arith, high, longer, short))) out);
    }

-- one write of a run more
pub run_step : {T E : Type 0} (result : Result T E) (first past new : Past) (at : ℕ) (run : List Sector) (i : ℕ) (v : Sector) → i < length run → v ≡ get_or run i []
    → During first past (AfterRun first at run) → Wrote result past (at + i) v new → During first new (AfterRun first at run)
run_step result first past new at run i v below is so_far wrote_it =
    followed first past new (AfterRun first at run) so_far
    (during_write result past (at + i) v new (AfterRun first at run) (AfterRun first at run) wrote_it (at_end first past (AfterRun first at run) so_far) (λ image m. m)
    (λ image m. record { from = m.from; was = m.was; laid = maybe_write m.from at run image i v below is m.laid }))

-- before a run's first write
pub run_start : (past : Past) (at : ℕ) (run : List Sector) → During past past (AfterRun past at run)
run_start past at run = started past (AfterRun past at run) (λ image is. record { from = image; was = is; laid = maybe_start image at run })

-- a sync after a whole run
pub run_sync : {T E : Type 0} (result : Result T E) (first past new : Past) (at : ℕ) (run : List Sector) → IsImage first (seen first) → IsLaid (seen first) at run (seen past)
    → During first past (AfterRun first at run) → Synced result past new → During first new (AfterRun first at run)
run_sync result first past new at run is laid so_far synced_it =
    followed first past new (AfterRun first at run) so_far
    (during_sync result past new (AfterRun first at run) synced_it (record { from = seen first; was = is; laid = laid_maybe (seen first) at run (seen past) laid })
    (at_end first past (AfterRun first at run) so_far))

-- on a settled disk there is one image to begin with
pub from_settled : (first new : Past) (at : ℕ) (run : List Sector) → IsSettled first → During first new (AfterRun first at run) → During first new (MaybeLaid (seen first) at run)
from_settled first new at run settled so_far = weaker first new _ _ (λ image m. subst (λ d. MaybeLaid d at run image) (settled m.from m.was) m.laid) so_far

-- a count rises by no more than there were calls
pub more-le : (count n : ℕ) → more count n ≤ count + n
more-le count zero = omega arith
more-le count (suc n) = omega (arith, more-le count n)

-- one call more
pub more-add_one : (count n : ℕ) → more count (n + 1) ≡ one_more (more count n)
more-add_one count n = ap (more count) (add-one n)

-- `n` more after `m` more
pub more-more : (count m n : ℕ) → more (more count m) n ≡ more count (m + n)
more-more count m zero = ap (more count) (omega arith)
more-more count m (suc n) = let e : suc (m + n) ≡ m + suc n = omega arith in ap one_more (more-more count m n) ∙ ap (more count) e

-- a write, whatever it answers, is no sync
pub wrote_syncs : {T E : Type 0} (result : Result T E) (past : Past) (k : ℕ) (v : Sector) (new : Past) → Wrote result past k v new → sync_count new ≡ sync_count past
wrote_syncs (Ok x) past k v new is = ap sync_count is
wrote_syncs (Err e) past k v new (inl same) = ap sync_count same
wrote_syncs (Err e) past k v new (inr maybe) = ap sync_count maybe.is

-- a sync that answers Ok is one more
pub synced_syncs : (past new : Past) → new ≡ after synced past → sync_count new ≡ sync_count past + 1
synced_syncs past new is = let one : sync_count (after synced past) ≡ 1 + sync_count past = sum_by-cons (λ call. cond (is_sync call) 1 0) synced past.calls in ap sync_count is ∙ omega (arith, one)
