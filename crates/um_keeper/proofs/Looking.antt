-- The summary of a store that was taken up.
use Rattle.std.proofs.Common.{◌≡◌, ◌∙◌, ℕ, List, [], ◌∷◌, length, Some, sym, ap, subst, arith}
use Rattle.std.proofs.lemmas.Option.{same_Some}
use Rattle.um_model.specs.Bytes.{◌>>=◌, nothing_left}
use Rattle.um_model.specs.Disk.{Image}
use Rattle.um_model.specs.InputSpellings.{input_at}
use Rattle.um_model.specs.Machine.{State, Input}
use Rattle.um_model.specs.Stands.{inputs_of}
use Rattle.um_model.specs.Store as sectors
use Rattle.um_model.specs.declared.layout.Format.{Format}
use Rattle.um_model.specs.declared.layout.Layout.{Layout}
use Rattle.um_model.specs.declared.layout.Slot.{Slot}
use Rattle.um_laws.proofs.ImageLaws.{newest_some}
use Rattle.um_laws.proofs.StandsLaws.{bound, has_contents}
use Rattle.um_laws.proofs.StoreLaws.{one_format, same_newest}
use Rattle.um_keeper.specs.Inspecting.{IsSummed}
use Rattle.um_keeper.specs.Opening.{IsTakenUp, IsRead, TellsCutOff, TellsDamaged}
use Rattle.um_keeper.specs.declared.inspecting.Summary.{Summary}
use Rattle.um_keeper.specs.declared.keeper.OpenedStore.{OpenedStore}
use Rattle.um_keeper.proofs.Reopening.{taken_stands}

-- records spell as many inputs
pub same_count : (records : List (List ℕ)) (inputs : List Input) → inputs_of records ≡ Some inputs → length records ≡ length inputs
same_count [] inputs is = ap (λ (l : List Input). length l) (same_Some [] inputs is)
same_count (bytes ∷ records) inputs is =
    let (first, here, more) = bound (nothing_left (input_at bytes)) (λ i. inputs_of records >>= λ is. Some (i ∷ is)) inputs is in
    let (others, there, both) = bound (inputs_of records) (λ is. Some (first ∷ is)) inputs more in
    let fewer = same_count records others there in
    let all = ap (λ (l : List Input). length l) (same_Some (first ∷ others) inputs both) in
    omega (arith, fewer, all)

-- the store that was taken up is summed up
pub summed : {count : ℕ} {image : Image} {layout : Layout} {slot : Slot} {generation : ℕ} {s : State} (m : Summary) (opened : OpenedStore)
    → IsTakenUp count image layout slot generation s → IsRead layout image opened
    → m.generation ≡ opened.generation → m.records ≡ opened.records → m.cut_off ≡ opened.cut_off → m.damaged ≡ opened.damaged
    → m.clock ≡ s.clock → m.next ≡ s.next → IsSummed count image m s
summed {image = image} {layout = layout} m opened taken read of_generation of_records of_cut_off of_damaged of_clock of_next =
    let stands = taken_stands taken in
    let format : read.format ≡ stands.format = one_format read.format stands.format layout layout (sym read.first ∙ stands.first) in
    let holds = has_contents stands.format layout image stands.contents stands.holds in
    let newest = same_newest holds.newest ((newest_some layout image read.newest).0 read.is_newest) in
    let generation : m.generation ≡ read.newest.generation = of_generation ∙ read.generation_is in
    record {
      layout = layout;
      room = taken.has.room;
      stands = stands;
      generation_is = generation ∙ sym newest.1;
      records_are = of_records ∙ read.records_are ∙ (λ k. length (sectors.all_records (format k) layout (sym newest.1 k) image))
          ∙ same_count (sectors.all_records stands.format layout stands.contents.generation image) stands.contents.inputs holds.inputs_are;
      clock_is = of_clock;
      next_is = of_next;
      cut_off_is = subst (λ (f : Format). TellsCutOff f layout m.generation image m.cut_off) format
          (subst (λ g. TellsCutOff read.format layout g image m.cut_off) (sym generation) (subst (TellsCutOff read.format layout read.newest.generation image) (sym of_cut_off) read.cut_off_is));
      damaged_is = subst (λ (f : Format). TellsDamaged f layout stands.contents.slot m.generation image m.damaged) format
          (subst (λ t. TellsDamaged read.format layout t m.generation image m.damaged) (sym newest.0)
          (subst (λ g. TellsDamaged read.format layout read.newest.slot g image m.damaged) (sym generation)
          (subst (TellsDamaged read.format layout read.newest.slot read.newest.generation image) (sym of_damaged) read.damaged_is)));
    }
