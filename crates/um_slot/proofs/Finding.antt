-- The newer of the headers that were read is the newest of the image.
use Rattle.std.specs.Prelude.{◌≡◌, ◌≢◌, ◌⊎◌, ◌↔◌, ℕ, Bool, true, false, IsTrue, replicate, Option, Some, None, is_some, not, refl, nat_le}
use Rattle.std.proofs.Common.{sym, subst, inl, inr, ⊎_elim, arith}
use Rattle.std.proofs.lemmas.Bool.{cases_Bool, leb-true, leb-false, cond-true, cond-false, true≢false}
use Rattle.um_model.specs.Disk.{Sector, Image}
use Rattle.um_model.specs.declared.layout.Layout.{Layout}
use Rattle.um_model.specs.declared.layout.Slot.{Slot}
use Rattle.um_model.specs.declared.layout.Slot.TheVariants.{A, B}
use Rattle.um_model.specs.Store.{slot_start, other, IsHeader, HasNoHeader}
use Rattle.um_laws.proofs.StoreLaws.{same_header}
use Rattle.um_slot.specs.declared.header.Header.{Header}
use Rattle.um_slot.specs.Reading.{ReadsHeader, newer_of, Finds, IsDamaged, HasDamaged}

module _ (layout : Layout) (image : Image) where
  no_header : ReadsHeader layout (image (slot_start layout A)) None → ReadsHeader layout (image (slot_start layout B)) None → HasNoHeader layout image
  no_header a b A = a
  no_header a b B = b

  pub finds : (a b : Option Header) → ReadsHeader layout (image (slot_start layout A)) a → ReadsHeader layout (image (slot_start layout B)) b → Finds layout image (newer_of a b)
  finds None None ha hb = no_header ha hb
  finds (Some a) None ha hb = record { here = ha; newer = λ theirs size there. absurd (hb theirs size there) }
  finds None (Some b) ha hb = record { here = hb; newer = λ theirs size there. absurd (ha theirs size there) }
  finds (Some a) (Some b) ha hb = ⊎_elim
      (λ older. subst (Finds layout image) (sym (cond-true _ (Some (A, a)) (Some (B, b)) older))
      (record { here = ha; newer = λ theirs size there. let low = leb-true _ _ older in let same = same_header there hb in omega (arith, low, same.0) }))
      (λ newer. subst (Finds layout image) (sym (cond-false _ (Some (A, a)) (Some (B, b)) newer))
      (record { here = hb; newer = λ theirs size there. let high = leb-false _ _ newer in let same = same_header there ha in omega (arith, high, same.0) }))
      (cases_Bool (nat_le b.generation a.generation))

-- ---- damaged first sectors

-- one of which no header is read is damaged, and no other, where it isn't all zeros
pub damaged_unread : (layout : Layout) (sector : Sector) (o : Option Header) → ReadsHeader layout sector o → sector ≢ replicate 512 0 → (r : Bool) → is_some o ≡ not r
    → (IsTrue r ↔ IsDamaged layout sector)
damaged_unread layout sector None reads other true is = (λ so. record { no_header = reads; not_zeros = other }, λ damaged. refl)
damaged_unread layout sector None reads other false is = absurd (true≢false (sym is))
damaged_unread layout sector (Some header) reads other true is = absurd (true≢false is)
damaged_unread layout sector (Some header) reads other false is =
    (λ so. absurd (true≢false (sym so)), λ damaged. absurd (damaged.no_header header.generation header.size reads))

pub zeros_undamaged : (layout : Layout) (sector : Sector) → sector ≡ replicate 512 0 → (IsTrue false ↔ IsDamaged layout sector)
zeros_undamaged layout sector same = (λ so. absurd (true≢false (sym so)), λ damaged. absurd (damaged.not_zeros same))

module _ {layout : Layout} {image : Image} where
  -- that of slot A is damaged, or that of slot B
  pub either_damaged : IsDamaged layout (image (slot_start layout A)) ⊎ IsDamaged layout (image (slot_start layout B)) → HasDamaged layout image
  either_damaged (inl a) = record { slot = A; is = a }
  either_damaged (inr b) = record { slot = B; is = b }

  pub damaged_either : HasDamaged layout image → IsDamaged layout (image (slot_start layout A)) ⊎ IsDamaged layout (image (slot_start layout B))
  damaged_either has = by has.slot has.is
    where
      by : (slot : Slot) → IsDamaged layout (image (slot_start layout slot)) → IsDamaged layout (image (slot_start layout A)) ⊎ IsDamaged layout (image (slot_start layout B))
      by A is = inl is
      by B is = inr is

  -- beside a header it is the other slot's
  pub other_damaged : (slot : Slot) {generation size : ℕ} → IsHeader layout (image (slot_start layout slot)) generation size → HasDamaged layout image
      → IsDamaged layout (image (slot_start layout (other slot)))
  other_damaged slot header has = by slot has.slot header has.is
    where
      by : (slot where_it_is : Slot) {generation size : ℕ} → IsHeader layout (image (slot_start layout slot)) generation size
          → IsDamaged layout (image (slot_start layout where_it_is)) → IsDamaged layout (image (slot_start layout (other slot)))
      by A A header is = absurd (is.no_header _ _ header)
      by A B header is = is
      by B A header is = is
      by B B header is = absurd (is.no_header _ _ header)
