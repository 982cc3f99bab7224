-- The records of a log are taken again in order, as they are read.
use Rattle.std.proofs.Common.{◌≡◌, ◌⊎◌, ◌↔◌, ◌∙◌, ℕ, suc, ◌+◌, ◌-◌, ◌^◌, ◌<◌, List, [], ◌∷◌, ◌++◌, length, Option, Some, None, inl, inr, refl, sym, ap, subst, arith, append-nil, length-append}
use Rattle.std.specs.Option.{IfSome}
use Rattle.std.proofs.lemmas.Option.{none-some}
use Rattle.um_model.specs.Bytes.{nothing_left}
use Rattle.um_model.specs.Disk.{Image, Past, seen}
use Rattle.um_model.specs.InputSpellings.{input_at}
use Rattle.um_model.specs.Machine.{State, Input}
use Rattle.um_model.specs.Store.{area_start, part_count, placed, records_of, all_records, top, sectors_of, IsRecord, AreRecords, stops, goes_on}
use Rattle.um_model.specs.declared.layout.Format.{Format}
use Rattle.um_model.specs.declared.layout.Format.TheVariants.{One, Two}
use Rattle.um_model.specs.declared.layout.Layout.{Layout}
use Rattle.um_laws.proofs.CountedLaws.{never_recorded}
use Rattle.um_laws.proofs.ImageLaws.{records_are}
use Rattle.um_log.specs.Greatest.{IsGreatestIn, IsGreatest}
use Rattle.um_log.specs.declared.remains.Remains.{Remains}
use Rattle.um_laws.proofs.LogLaws.{one_record, same_list}
use Rattle.um_wire.specs.declared.refusal.Refusal.{Refusal}
use Rattle.um_wire.specs.declared.refusal.Refusal.TheVariants.{Damaged}
use Rattle.um_keeper.specs.Opening.{all_placed, Leads, Replays, no_more, and_then, IsNoInput, here, later, IsBehind, IsLast, Remain, RemainBehind, AreRead}

-- Some of a generation's records were taken from the first state on, the others begin at that number and place.
pub record IsReached (format : Format) (layout : Layout) (generation : ℕ) (image : Image) (size : ℕ) (first s : State) (number next : ℕ) : Type 0 where
  pub rest : List (List ℕ)
  pub are : AreRecords format layout generation image number next rest
  pub count : number + length rest ≡ length (records_of format layout generation image)
  pub place : next + sectors_of rest ≡ area_start format layout generation + sectors_of (records_of format layout generation image)
  pub so_far : (t : State) → Replays size rest s t → Replays size (records_of format layout generation image) first t
  pub cause : (e : Refusal) → IsNoInput (placed next rest) e → IsNoInput (placed (area_start format layout generation) (records_of format layout generation image)) e

module _ (format : Format) (layout : Layout) (generation : ℕ) (image : Image) (size : ℕ) (first : State) where
  -- none was taken yet
  pub none_reached : (number next : ℕ) → number ≡ 0 → next ≡ area_start format layout generation → IsReached format layout generation image size first first number next
  none_reached number next zero_is start_is = record {
    rest = records_of format layout generation image;
    are = subst (λ n. AreRecords format layout generation image n next (records_of format layout generation image)) (sym zero_is)
        (subst (λ m. AreRecords format layout generation image 0 m (records_of format layout generation image)) (sym start_is) (records_are format layout generation image));
    count = omega (arith, zero_is);
    place = omega (arith, start_is);
    so_far = λ t replays. replays;
    cause = λ e fails. subst (λ m. IsNoInput (placed m (records_of format layout generation image)) e) start_is fails;
  }

  module _ {number next : ℕ} {bytes : List ℕ} (is : IsRecord format layout generation image number next bytes) where
    -- the record that stands there is the first of those that are left
    first_left : (rest : List (List ℕ)) → AreRecords format layout generation image number next rest
        → (more : List (List ℕ)) × (rest ≡ bytes ∷ more) × AreRecords format layout generation image (suc number) (next + part_count (length bytes)) more
    first_left [] (stops nothing) = absurd (nothing bytes is)
    first_left (x ∷ xs) (goes_on there behind) =
        let same = one_record there is in
        (xs, (λ i. same i ∷ xs), subst (λ (b : List ℕ). AreRecords format layout generation image (suc number) (next + part_count (length b)) xs) same behind)

    -- it spells no input
    pub none_spelled : {s : State} → IsReached format layout generation image size first s number next → nothing_left (input_at bytes) ≡ None
        → IsNoInput (placed (area_start format layout generation) (records_of format layout generation image)) (Damaged next)
    none_spelled r none =
        let (more, split, behind) = first_left r.rest r.are in
        r.cause (Damaged next) (subst (λ (l : List (List ℕ)). IsNoInput (placed next l) (Damaged next)) (sym split) (here none))

    -- its input is taken
    pub one_reached : {s : State} {input : Input} {t : State} (further after : ℕ) → IsReached format layout generation image size first s number next → nothing_left (input_at bytes) ≡ Some input → Leads size s input t
        → further ≡ number + 1 → after ≡ next + part_count (length bytes) → IsReached format layout generation image size first t further after
    one_reached {s = s} further after r read leads on at =
        let (more, split, behind) = first_left r.rest r.are in
        let one : further ≡ suc number = omega (arith, on) in
        record {
          rest = more;
          are = subst (λ n. AreRecords format layout generation image n after more) (sym one)
              (subst (λ m. AreRecords format layout generation image (suc number) m more) (sym at) behind);
          count = omega (arith, r.count, ap (λ (l : List (List ℕ)). length l) split, on);
          place = omega (arith, r.place, ap sectors_of split, at);
          so_far = λ t replays. r.so_far t (subst (λ (l : List (List ℕ)). Replays size l s t) (sym split) (and_then read leads replays));
          cause = λ e fails. r.cause e (subst (λ (l : List (List ℕ)). IsNoInput (placed next l) e) (sym split)
              (later read (subst (λ m. IsNoInput (placed m more) e) at fails)));
        }

  -- none is left
  module _ {s : State} {number next : ℕ} (r : IsReached format layout generation image size first s number next) (nothing : AreRecords format layout generation image number next []) where
    none_left : r.rest ≡ []
    none_left = same_list number next r.rest [] r.are nothing

    pub all_replayed : Replays size (records_of format layout generation image) first s
    all_replayed = r.so_far s (subst (λ (l : List (List ℕ)). Replays size l s s) (sym none_left) no_more)

    pub all_behind : IsBehind format layout generation image number next
    all_behind = record {
      count = omega (arith, r.count, ap (λ (l : List (List ℕ)). length l) none_left);
      place = omega (arith, r.place, ap sectors_of none_left);
    }

-- the same of a reader and a disk that are the same
pub behind_same : (format f : Format) (layout l : Layout) (generation n : ℕ) (old new : Past) → f ≡ format → l ≡ layout → n ≡ generation → new ≡ old → (number next : ℕ)
    → IsBehind format layout generation (seen old) number next → IsBehind f l n (seen new) number next
behind_same format f layout l generation n old new by on of same number next behind =
    subst (λ (p : Past). IsBehind f l n (seen p) number next) (sym same)
    (subst (λ m. IsBehind f l m (seen old) number next) (sym of)
    (subst (λ (z : Layout). IsBehind f z generation (seen old) number next) (sym on) (subst (λ (z : Format). IsBehind z layout generation (seen old) number next) (sym by) behind)))

-- ---- records of two generations

pub replays_join : {size : ℕ} {a b : List (List ℕ)} {s t u : State} → Replays size a s t → Replays size b t u → Replays size (a ++ b) s u
replays_join no_more more = more
replays_join (and_then read leads rest) more = and_then read leads (replays_join rest more)

no_input_front : {a : List (ℕ × List ℕ)} (b : List (ℕ × List ℕ)) {e : Refusal} → IsNoInput a e → IsNoInput (a ++ b) e
no_input_front b (here is) = here is
no_input_front b (later is fails) = later is (no_input_front b fails)

no_input_behind : {size : ℕ} {records : List (List ℕ)} {s t : State} (at : ℕ) {b : List (ℕ × List ℕ)} {e : Refusal} → Replays size records s t → IsNoInput b e → IsNoInput (placed at records ++ b) e
no_input_behind at no_more fails = fails
no_input_behind at (and_then {bytes = bytes} read leads rest) fails = later read (no_input_behind (at + part_count (length bytes)) rest fails)

-- where the newest snapshot's generation alone is read
alone : (format : Format) (layout : Layout) (newest : ℕ) (image : Image) → (format ≡ One) ⊎ (newest ≡ 2 ^ 64 - 1) → all_records format layout newest image ≡ records_of format layout newest image
alone One layout newest image why = refl
alone Two layout newest image (inl is) = absurd cc
alone Two layout newest image (inr last) =
    ap (λ (l : List (List ℕ)). records_of Two layout newest image ++ l) (never_recorded Two layout (newest + 1) image (omega (arith, last))) ∙ append-nil (records_of Two layout newest image)

none_behind : (format : Format) (layout : Layout) (newest : ℕ) (image : Image) → (format ≡ One) ⊎ (newest ≡ 2 ^ 64 - 1) → RemainBehind format layout newest image None
none_behind One layout newest image why = tt
none_behind Two layout newest image (inl is) = absurd cc
none_behind Two layout newest image (inr last) = omega (arith, last)

module _ (format : Format) (layout : Layout) (newest : ℕ) (image : Image) where
  pub replays_alone : (format ≡ One) ⊎ (newest ≡ 2 ^ 64 - 1) → (size : ℕ) (s t : State) → Replays size (records_of format layout newest image) s t → Replays size (all_records format layout newest image) s t
  replays_alone why size s t = subst (λ (l : List (List ℕ)). Replays size l s t) (sym (alone format layout newest image why))

  pub read_alone : (format ≡ One) ⊎ (newest ≡ 2 ^ 64 - 1) → (number next : ℕ) (here : Remains) → IsBehind format layout newest image number next → Remain format layout newest image here
      → AreRead format layout newest image number here None
  read_alone why number next own behind remains = record {
    count = behind.count ∙ ap (λ (l : List (List ℕ)). length l) (sym (alone format layout newest image why));
    here_is = remains;
    behind_is = none_behind format layout newest image why;
  }

first_fails : (format : Format) (layout : Layout) (newest : ℕ) (image : Image) (e : Refusal) → IsNoInput (placed (area_start format layout newest) (records_of format layout newest image)) e
    → IsNoInput (all_placed format layout newest image) e
first_fails One layout newest image e fails = fails
first_fails Two layout newest image e fails = no_input_front _ fails

-- ---- the same of readers, and of a disk that is the same

module _ (format f : Format) (layout l : Layout) (generation n : ℕ) (old new : Past) (by : f ≡ format) (on : l ≡ layout) (of : n ≡ generation) (same : new ≡ old) where
  pub replays_at : (size : ℕ) (s t : State) → Replays size (records_of f l n (seen new)) s t → Replays size (records_of format layout generation (seen old)) s t
  replays_at size s t = subst (λ (r : List (List ℕ)). Replays size r s t) (λ k. records_of (by k) (on k) (of k) (seen (same k)))

  pub behind_at : (number next : ℕ) → IsBehind f l n (seen new) number next → IsBehind format layout generation (seen old) number next
  behind_at number next behind = record {
    count = behind.count ∙ (λ k. length (records_of (by k) (on k) (of k) (seen (same k))));
    place = behind.place ∙ (λ k. area_start (by k) (on k) (of k) + sectors_of (records_of (by k) (on k) (of k) (seen (same k))));
  }

  pub fails_at : (e : Refusal) → IsNoInput (placed (area_start f l n) (records_of f l n (seen new))) e → IsNoInput (all_placed format layout generation (seen old)) e
  fails_at e fails = first_fails format layout generation (seen old) e
      (subst (λ (p : List (ℕ × List ℕ)). IsNoInput p e) (λ k. placed (area_start (by k) (on k) (of k)) (records_of (by k) (on k) (of k) (seen (same k)))) fails)

-- after them those of the next generation
module _ (format : Format) (layout : Layout) (newest : ℕ) (image : Image) (two : format ≡ Two) where
  pub replays_both : (size : ℕ) (s t u : State) → Replays size (records_of format layout newest image) s t → Replays size (records_of Two layout (newest + 1) image) t u
      → Replays size (all_records format layout newest image) s u
  replays_both size s t u first second = subst (λ (z : Format). Replays size (all_records z layout newest image) s u) (sym two)
      (replays_join (subst (λ (z : Format). Replays size (records_of z layout newest image) s t) two first) second)

  pub second_fails : (size : ℕ) (s t : State) (e : Refusal) → Replays size (records_of format layout newest image) s t
      → IsNoInput (placed (area_start Two layout (newest + 1)) (records_of Two layout (newest + 1) image)) e → IsNoInput (all_placed format layout newest image) e
  second_fails size s t e first fails = subst (λ (z : Format). IsNoInput (all_placed z layout newest image) e) (sym two)
      (no_input_behind (area_start Two layout newest) (subst (λ (z : Format). Replays size (records_of z layout newest image) s t) two first) fails)

  pub read_both : (number next count end : ℕ) (here behind : Remains) → IsBehind format layout newest image number next → Remain format layout newest image here
      → IsBehind Two layout (newest + 1) image count end → Remain Two layout (newest + 1) image behind → AreRead format layout newest image (number + count) here (Some behind)
  read_both number next count end own behind first here_is second behind_is = subst (λ (z : Format). AreRead z layout newest image (number + count) own (Some behind)) (sym two) (record {
    count = let one = subst (λ (z : Format). IsBehind z layout newest image number next) two first in
        omega (arith, one.count, second.count, length-append (records_of Two layout newest image) (records_of Two layout (newest + 1) image));
    here_is = subst (λ (z : Format). Remain z layout newest image own) two here_is;
    behind_is = behind_is;
  })

-- ---- the greatest generation

-- as far as both generations' places show it
pub last_there : (format : Format) (layout : Layout) (newest : ℕ) (image : Image) (records : ℕ) (here : Remains) (behind : Option Remains) (told : Option ℕ)
    → AreRead format layout newest image records here behind → IfSome told (λ greatest. IfSome behind (λ remains. greatest ≡ remains.greatest)) → ((told ≡ None) ↔ (behind ≡ None))
    → (result : Option ℕ)
    → IfSome result (λ greatest. (n : ℕ) → IsGreatestIn format layout n image here.greatest → IfSome told (λ later. IsGreatestIn format layout (n + 1) image later)
    → IsGreatest layout image (top format n) greatest)
    → ((result ≡ None) → (format ≡ Two) × (told ≡ None)) → IsLast layout image (top format newest) result
last_there format layout newest image records own behind told read same none None gives nothing =
    let why = nothing refl in
    subst (λ (z : Format). 2 ^ 64 - 1 < top z newest) (sym why.0)
    (subst (λ (b : Option Remains). RemainBehind Two layout newest image b) (none.0 why.1) (subst (λ (z : Format). RemainBehind z layout newest image behind) why.0 read.behind_is))
last_there format layout newest image records own behind told read same none (Some greatest) gives nothing =
    gives newest read.here_is.greatest (later_in format behind told read.behind_is same none)
  where
    some-none : {x : Remains} → Some x ≡ None → ⊥
    some-none e = cc

    later_in : (format : Format) (behind : Option Remains) (told : Option ℕ) → RemainBehind format layout newest image behind → IfSome told (λ greatest. IfSome behind (λ remains. greatest ≡ remains.greatest))
        → ((told ≡ None) ↔ (behind ≡ None)) → IfSome told (λ later. IsGreatestIn format layout (newest + 1) image later)
    later_in format behind None is same none = tt
    later_in One None (Some found) is same none = absurd (none-some found (sym (none.1 refl)))
    later_in One (Some remains) (Some found) is same none = absurd is
    later_in Two None (Some found) is same none = absurd (none-some found (sym (none.1 refl)))
    later_in Two (Some remains) (Some found) is same none = subst (λ n. IsGreatestIn Two layout (newest + 1) image n) (sym same) is.greatest
