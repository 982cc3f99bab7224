-- Sectors that a store's reading doesn't look at don't count: images that agree in all others stand for the same state, or for none.
use Rattle.std.proofs.Common.{◌≡◌, ◌↔◌, ◌∙◌, ℕ, List, Option, Some, None, refl, sym, ap}
use Rattle.um_model.specs.Bytes.{◌>>=◌, nothing_left}
use Rattle.um_model.specs.Disk.{Image}
use Rattle.um_model.specs.Machine.{State}
use Rattle.um_model.specs.StateSpellings.{state_at}
use Rattle.um_model.specs.Stands.{Contents, inputs_of, contents_of, StandsFor}
use Rattle.um_model.specs.Store.{Newest, superblock, newest_of, all_records}
use Rattle.um_model.specs.Unread.{IsRead, is_first, of_slots, of_log}
use Rattle.um_model.specs.declared.layout.Format.{Format}
use Rattle.um_model.specs.declared.layout.Layout.{Layout}
use Rattle.um_laws.proofs.CountedLaws.{unread_all}
use Rattle.um_laws.proofs.ImageLaws.{newest_some, newest_none}
use Rattle.um_laws.proofs.StoreLaws.{unread_newest, unread_none}

-- the contents of the newest slot with these records
abbrev held_with : Newest → List (List ℕ) → Option Contents
held_with n records =
    nothing_left (state_at n.body) >>= λ s. inputs_of records >>= λ inputs. Some (record { slot = n.slot; generation = n.generation; start = s; inputs = inputs })

-- images with the same newest slot and the same records beside it hold the same
pub same_contents : (format : Format) (layout : Layout) (a b : Image) → newest_of layout b ≡ newest_of layout a
    → ((n : Newest) → newest_of layout a ≡ Some n → all_records format layout n.generation b ≡ all_records format layout n.generation a)
    → contents_of format layout b ≡ contents_of format layout a
same_contents format layout a b newest records = ap (λ o. o >>= λ n. held_with n (all_records format layout n.generation b)) newest ∙ by (newest_of layout a) refl
  where
    by : (o : Option Newest) → newest_of layout a ≡ o
        → (o >>= λ n. held_with n (all_records format layout n.generation b)) ≡ (o >>= λ n. held_with n (all_records format layout n.generation a))
    by None is = refl
    by (Some n) is = ap (held_with n) (records n is)

module _ (layout : Layout) (a b : Image) (same : (j : ℕ) → IsRead layout a j → b j ≡ a j) where
  unread_slots : newest_of layout b ≡ newest_of layout a
  unread_slots = by (newest_of layout a) refl
    where
      by : (o : Option Newest) → newest_of layout a ≡ o → newest_of layout b ≡ newest_of layout a
      by None is = (newest_none layout b).1 (unread_none layout a b (λ j read. same j (of_slots read)) ((newest_none layout a).0 is)) ∙ sym is
      by (Some n) is = (newest_some layout b n).1 (unread_newest layout a b (λ j read. same j (of_slots read)) ((newest_some layout a n).0 is)) ∙ sym is

  -- they hold the same
  pub unread_contents : (format : Format) → a 0 ≡ superblock format layout → contents_of format layout b ≡ contents_of format layout a
  unread_contents format first = same_contents format layout a b unread_slots
      (λ n is. unread_all format layout n.generation a b (λ generation j counts read. same j (of_log format n generation first is counts read)))

  -- Images that agree in all sectors that the reading of a store looks at stand for the same state, or for none.
  pub unread : (s : State) → StandsFor layout a s ↔ StandsFor layout b s
  unread s = (
    λ one. record { format = one.format; first = same 0 is_first ∙ one.first; contents = one.contents; holds = unread_contents one.format one.first ∙ one.holds; servable = one.servable; run = one.run },
    λ one. let first = sym (same 0 is_first) ∙ one.first in
        record { format = one.format; first = first; contents = one.contents; holds = sym (unread_contents one.format first) ∙ one.holds; servable = one.servable; run = one.run },
  )
