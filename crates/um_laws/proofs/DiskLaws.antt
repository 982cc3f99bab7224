-- How runs of disk calls go on: the facts shown of each call give a property of every image during them.
use Rattle.std.specs.Prelude.{◌≡◌, ◌≢◌, ◌⊎◌, ◌≤◌, ℕ, suc, List, [], ◌∷◌, ◌++◌, length, Result, Ok, Err, refl, OnOk}
use Rattle.std.specs.List.{Contains}
use Rattle.std.proofs.Common.{sym, ◌∙◌, ap, subst, inl, inr, ⊎_elim, arith, append_assoc, length-append}
use Rattle.std.proofs.lemmas.Bool.{cases_eq}
use Rattle.std.proofs.lemmas.Bool.Decides.{nat_tests}
use Rattle.std.proofs.lemmas.List.Elements.{Contains-append_left, Contains-push, Contains-push_cases}
use Rattle.um_model.specs.Disk.{Sector, Image, with_sector, Call, wrote, synced, Past, seen_after, seen, candidates_after, candidates, IsImage, moment, ImageSince, after, Wrote, Synced, Images, onto, During, IsSettled}

-- images that agree are one
pub same_image : (f g : Image) → ((k : ℕ) → f k ≡ g k) → f ≡ g
same_image f g h = λ i. λ k. h k i

pub with_same : (image : Image) (k : ℕ) (v : Sector) → with_sector image k v k ≡ v
with_same image k v = grind (arith, nat_tests)

pub with_other : (image : Image) (k j : ℕ) (v : Sector) → j ≢ k → with_sector image k v j ≡ image j
with_other image k j v ne = grind (arith, nat_tests)

-- the candidates of the sector that was written
pub candidates-wrote_same : (start : Image) (calls : List Call) (k : ℕ) (v kept : Sector) → candidates_after start (wrote k v kept ∷ calls) k ≡ candidates_after start calls k ++ v ∷ []
candidates-wrote_same start calls k v kept = grind (arith, nat_tests)

-- the candidates of another sector
pub candidates-wrote_other : (start : Image) (calls : List Call) (j k : ℕ) (v kept : Sector) → k ≢ j → candidates_after start (wrote j v kept ∷ calls) k ≡ candidates_after start calls k
candidates-wrote_other start calls j k v kept ne = grind (arith, nat_tests)

-- a list of one element has no other
pub one_only : (a x : Sector) → Contains (a ∷ []) x → x ≡ a
one_only a x has = ⊎_elim {C = x ≡ a} (λ early. absurd (omega (arith, early.1))) (λ same. sym same) (Contains-push_cases [] a x has)

-- each sector has a candidate
pub some_candidate : (start : Image) (calls : List Call) (k : ℕ) → (v : Sector) × Contains (candidates_after start calls k) v
some_candidate start [] k = (start k, Contains-push [] (start k))
some_candidate start (wrote j v kept ∷ calls) k = let c = some_candidate start calls k in (c.0, kept_candidate start calls j k v kept c.0 c.1)
  where
    kept_candidate : (start : Image) (calls : List Call) (j k : ℕ) (v kept x : Sector) → Contains (candidates_after start calls k) x → Contains (candidates_after start (wrote j v kept ∷ calls) k) x
    kept_candidate start calls j k v kept x has = ⊎_elim
        (λ same. subst (λ n. Contains (candidates_after start (wrote n v kept ∷ calls) k) x) same (subst (λ l. Contains l x) (sym (candidates-wrote_same start calls k v kept)) (Contains-append_left (candidates_after start calls k) (v ∷ []) x has)))
        (λ ne. subst (λ l. Contains l x) (sym (candidates-wrote_other start calls j k v kept ne)) has)
        (cases_eq k j)
some_candidate start (synced ∷ calls) k = (seen_after start calls k, Contains-push [] (seen_after start calls k))

-- a candidate after a write was one before it, or is the value that was written
pub candidate_wrote : (start : Image) (calls : List Call) (j k : ℕ) (v kept x : Sector) → Contains (candidates_after start (wrote j v kept ∷ calls) k) x
    → Contains (candidates_after start calls k) x ⊎ ((k ≡ j) × (x ≡ v))
candidate_wrote start calls j k v kept x has = ⊎_elim
    (λ same. ⊎_elim (λ old. inl old) (λ new. inr (same, sym new))
    (Contains-push_cases (candidates_after start calls k) v x (subst (λ l. Contains l x) (candidates-wrote_same start calls k v kept) (subst (λ n. Contains (candidates_after start (wrote n v kept ∷ calls) k) x) (sym same) has))))
    (λ ne. inl (subst (λ l. Contains l x) (candidates-wrote_other start calls j k v kept ne) has))
    (cases_eq k j)

module _ (past : Past) (k : ℕ) (v kept : Sector) (image : Image) (is : IsImage (after (wrote k v kept) past) image) where
  other : (j : ℕ) → j ≢ k → Contains (candidates past j) (image j)
  other j ne = ⊎_elim (λ c. c) (λ here. absurd (ne here.0)) (candidate_wrote past.start past.calls k j v kept (image j) (is j))

  here : Contains (candidates past k) (image k) → IsImage past image
  here old j = ⊎_elim (λ same. subst (λ n. Contains (candidates past n) (image n)) (sym same) old) (other j) (cases_eq j k)

  abbrev base : Image
  base = with_sector image k (some_candidate past.start past.calls k).0

  base_is : IsImage past base
  base_is j = ⊎_elim
      (λ same. subst (λ n. Contains (candidates past n) (base n)) (sym same) (subst (Contains (candidates past k)) (sym (with_same image k (some_candidate past.start past.calls k).0)) (some_candidate past.start past.calls k).1))
      (λ ne. subst (Contains (candidates past j)) (sym (with_other image k j (some_candidate past.start past.calls k).0 ne)) (other j ne)) (cases_eq j k)

  changed : image k ≡ v → (j : ℕ) → image j ≡ with_sector base k v j
  changed new j = ⊎_elim
      (λ same. subst (λ n. image n ≡ with_sector base k v n) (sym same) (new ∙ sym (with_same base k v)))
      (λ ne. sym (with_other base k j v ne ∙ with_other image k j (some_candidate past.start past.calls k).0 ne)) (cases_eq j k)

  -- an image after a write is one before it, with that sector changed or not
  pub written_image : IsImage past image ⊎ ((d : Image) × IsImage past d × (image ≡ with_sector d k v))
  written_image = ⊎_elim (λ old. inl (here old)) (λ new. inr (base, base_is, same_image _ _ (changed new.1))) (candidate_wrote past.start past.calls k k v kept (image k) (is k))

-- A property that all images before a write have, and that is kept with and without the written sector, is one of all images after it.
pub images_wrote : (past : Past) (k : ℕ) (v kept : Sector) (P Q : Image → Type 0) → Images past P → ((d : Image) → P d → Q d) → ((d : Image) → P d → Q (with_sector d k v)) → Images (after (wrote k v kept) past) Q
images_wrote past k v kept P Q all stay change image is =
    ⊎_elim (λ old. stay image (all image old)) (λ new. subst Q (sym new.2) (change new.0 (all new.0 new.1))) (written_image past k v kept image is)

-- a sync leaves the image that reads give
pub image_synced : (past : Past) (image : Image) → IsImage (after synced past) image → image ≡ seen past
image_synced past image is = same_image _ _ (λ k. one_only (seen past k) (image k) (is k))

-- no image is of a later moment
none_later : (start : Image) (calls : List Call) (t : ℕ) (image : Image) → ImageSince start calls t image → t ≤ length calls
none_later start [] t image since = since.0
none_later start (call ∷ calls) t image (inl now) = now.0
none_later start (call ∷ calls) t image (inr earlier) = omega (arith, none_later start calls t image earlier)

-- at this moment there is no other
pub only_now : (start : Image) (calls : List Call) (image : Image) → ImageSince start calls (length calls) image → IsImage (record { start = start; calls = calls }) image
only_now start [] image since = since.1
only_now start (call ∷ calls) image (inl now) = now.1
only_now start (call ∷ calls) image (inr earlier) = absurd (omega (arith, none_later start calls (suc (length calls)) image earlier))

-- this moment counts
pub counts_now : (start : Image) (calls : List Call) (t : ℕ) (image : Image) → t ≤ length calls → IsImage (record { start = start; calls = calls }) image → ImageSince start calls t image
counts_now start [] t image le is = (le, is)
counts_now start (call ∷ calls) t image le is = inl (le, is)

-- Of calls one after another, each image is of those so far or of the later ones.
since_parts : (start : Image) (more calls : List Call) (t : ℕ) (image : Image) → ImageSince start (more ++ calls) t image
    → ImageSince start (more ++ calls) (length calls) image ⊎ ImageSince start calls t image
since_parts start [] calls t image since = inr since
since_parts start (call ∷ more) calls t image (inl now) = inl (inl (omega (arith, length-append more calls), now.1))
since_parts start (call ∷ more) calls t image (inr earlier) = ⊎_elim (λ late. inl (inr late)) (λ early. inr early) (since_parts start more calls t image earlier)

-- before the first call
pub started : (past : Past) (P : Image → Type 0) → Images past P → During past past P
started past P all = record { calls = []; is = refl; each = λ image since. all image (only_now past.start past.calls image since) }

-- two runs with a property, one after the other
pub followed : (old mid new : Past) (P : Image → Type 0) → During old mid P → During mid new P → During old new P
followed old mid new P first second = record {
  calls = second.calls ++ first.calls;
  is = is_onto;
  each = λ image since. ⊎_elim
      (λ late. second.each image (subst (λ p. ImageSince p.start p.calls (moment mid) image) (sym second.is) late))
      (λ early. first.each image early)
      (since_parts mid.start second.calls mid.calls (moment old) image (subst (λ p. ImageSince p.start p.calls (moment old) image) second.is since));
}
  where
    is_onto : new ≡ onto (second.calls ++ first.calls) old
    is_onto = second.is ∙ ap (onto second.calls) first.is ∙ ap (λ calls. record { start = old.start; calls = calls }) (sym (append_assoc second.calls first.calls old.calls))

-- a property that follows from one that was shown
pub weaker : (old new : Past) (P Q : Image → Type 0) → ((image : Image) → P image → Q image) → During old new P → During old new Q
weaker old new P Q from run = record { calls = run.calls; is = run.is; each = λ image since. from image (run.each image since) }

-- the images at the end
pub at_end : (old new : Past) (P : Image → Type 0) → During old new P → Images new P
at_end old new P run image is = run.each image (counts_now new.start new.calls (moment old) image (omega (arith, ap (λ (p : Past). length p.calls) run.is, length-append run.calls old.calls)) is)

-- one call more
during_call : (old : Past) (call : Call) (P : Image → Type 0) → Images old P → Images (after call old) P → During old (after call old) P
during_call old call P before now = record { calls = call ∷ []; is = refl; each = λ image since. ⊎_elim (λ at_now. now image at_now.1) (λ early. before image (only_now old.start old.calls image early)) since }

-- A write, whatever it answers: images that have P may be seen before it, and then such images with the sector changed.
pub during_write : {T E : Type 0} (result : Result T E) (past : Past) (k : ℕ) (v : Sector) (new : Past) (P Q : Image → Type 0) → Wrote result past k v new
    → Images past P → ((d : Image) → P d → Q d) → ((d : Image) → P d → Q (with_sector d k v)) → During past new Q
during_write (Ok x) past k v new P Q is all stay change =
    subst (λ n. During past n Q) (sym is) (during_call past (wrote k v v) Q (λ image at_image. stay image (all image at_image)) (images_wrote past k v v P Q all stay change))
during_write (Err e) past k v new P Q (inl same) all stay change = subst (λ n. During past n Q) (sym same) (started past Q (λ image at_image. stay image (all image at_image)))
during_write (Err e) past k v new P Q (inr maybe) all stay change =
    subst (λ n. During past n Q) (sym maybe.is) (during_call past (wrote k v maybe.kept) Q (λ image at_image. stay image (all image at_image)) (images_wrote past k v maybe.kept P Q all stay change))

-- A sync, whatever it answers: all images may be seen before it, and just the one that reads give after it.
pub during_sync : {T E : Type 0} (result : Result T E) (past new : Past) (P : Image → Type 0) → Synced result past new → P (seen past) → Images past P → During past new P
during_sync (Ok x) past new P is here all =
    subst (λ n. During past n P) (sym is) (during_call past synced P all (λ image at_image. subst P (sym (image_synced past image at_image)) here))
during_sync (Err e) past new P is here all = subst (λ n. During past n P) (sym is) (started past P all)

-- after a sync that answered Ok the disk is settled
pub settled_after_sync : (past : Past) → IsSettled (after synced past)
settled_after_sync past image is = image_synced past image is

-- and a disk without calls is
pub settled_at_start : (start : Image) → IsSettled (record { start = start; calls = [] })
settled_at_start start image is = same_image _ _ (λ k. one_only (start k) (image k) (is k))

-- and so is the disk after a function that ends with a sync
pub settled_at_ok : {T E : Type 0} (result : Result T E) (H : Type 0) (past new : Past) → (H → Synced result past new) → OnOk result (H → IsSettled new)
settled_at_ok (Ok x) H past new is = λ h. subst IsSettled (sym (is h)) (settled_after_sync past)
settled_at_ok (Err e) H past new is = tt
