-- Reports on whole records that don't count.
use Rattle.std.proofs.Common.{◌≡◌, ◌↔◌, ℕ, zero, suc, ◌+◌, ◌-◌, ◌^◌, ◌<◌, ◌≤◌, Bool, List, [], length, refl, sym, ap, subst, Option, Some, None, arith, IsTrue}
use Rattle.std.specs.Option.{IfSome}
use Rattle.um_model.specs.Disk.{Image, Past, seen}
use Rattle.um_model.specs.Store.{slot_start, other, area_sectors, area_start, area_end, sectors_of, records_of, HasRecords}
use Rattle.um_model.specs.declared.layout.Format.{Format}
use Rattle.um_model.specs.declared.layout.Format.TheVariants.{One, Two}
use Rattle.um_model.specs.declared.layout.Layout.{Layout}
use Rattle.um_model.specs.declared.layout.Slot.{Slot}
use Rattle.um_laws.proofs.CountedLaws.{never_recorded}
use Rattle.um_laws.proofs.ImageLaws.{records_are}
use Rattle.um_log.specs.Greatest.{IsGreatestIn}
use Rattle.um_log.specs.Uncounted.{Counts, starts, counted, passed, EndsUncounted, EndsLater, StopsAt}
use Rattle.um_log.specs.declared.remains.Remains.{Remains}
use Rattle.um_slot.specs.Reading.{IsDamaged}
use Rattle.um_keeper.specs.Opening.{IsBehind, count_in, end_in, HasUncounted, HasLater, EndsAt, TellsCutOff, HaveLater, TellsDamaged, Remain, AreRead}
use Rattle.um_keeper.specs.declared.keeper.Uncounted.{Uncounted}

-- ---- the remains after the records

module _ (format : Format) (layout : Layout) (generation : ℕ) (image : Image) (number next : ℕ) (behind : IsBehind format layout generation image number next) where
  -- of a log that goes on after them
  pub remain_of : (remains : Remains)
      → ((records : List (List ℕ)) → HasRecords format layout generation image records → next ≡ area_start format layout generation + sectors_of records → IsGreatestIn format layout generation image remains.greatest)
      → ((records : List (List ℕ)) → HasRecords format layout generation image records → number ≡ length records → next ≡ area_start format layout generation + sectors_of records
      → next < area_end format layout generation → StopsAt format layout generation image number next remains.stop)
      → Counts (EndsUncounted format layout image next generation number) next (area_end format layout generation) remains.uncounted
      → Counts (EndsLater format layout image next generation) next (area_end format layout generation) remains.later → Remain format layout generation image remains
  remain_of remains greatest stop uncounted later =
      let records = records_of format layout generation image in
      let are = records_are format layout generation image in
      record {
        greatest = greatest records are behind.place;
        uncounted =
            subst (λ n. Counts (EndsUncounted format layout image (end_in format layout generation image) generation n) (end_in format layout generation image) (area_end format layout generation) remains.uncounted) behind.count
            (subst (λ m. Counts (EndsUncounted format layout image m generation number) m (area_end format layout generation) remains.uncounted) behind.place uncounted);
        later = subst (λ m. Counts (EndsLater format layout image m generation) m (area_end format layout generation) remains.later) behind.place later;
        stop = λ room.
            subst (λ n. StopsAt format layout generation image n (end_in format layout generation image) remains.stop) behind.count
            (subst (λ m. StopsAt format layout generation image number m remains.stop) behind.place (stop records are behind.count behind.place (omega (arith, room, behind.place))));
      }

-- of the disk as it was given
pub remain_there : (format f : Format) (layout l : Layout) (generation n : ℕ) (old new : Past) → f ≡ format → l ≡ layout → n ≡ generation → new ≡ old → (remains : Remains)
    → Remain f l n (seen new) remains → Remain format layout generation (seen old) remains
remain_there format f layout l generation n old new by on of same remains r =
    subst (λ (p : Past). Remain format layout generation (seen p) remains) same
    (subst (λ m. Remain format layout m (seen new) remains) of
    (subst (λ (z : Layout). Remain format z n (seen new) remains) on (subst (λ (z : Format). Remain z l n (seen new) remains) by r)))

-- ---- the reports on it

-- sectors are counted up to a later one
counts_low : {Is : ℕ → Type 0} {from end count : ℕ} → Counts Is from end count → from ≤ end
counts_low starts = omega arith
counts_low (counted before is) = omega (arith, counts_low before)
counts_low (passed before other) = omega (arith, counts_low before)

counts_room : {Is : ℕ → Type 0} {from end count : ℕ} → Counts Is from end count → 0 < count → from < end
counts_room starts some = absurd (omega (arith, some))
counts_room (counted before is) some = omega (arith, counts_low before)
counts_room (passed before other) some = omega (arith, counts_low before)

-- how many whole records of one generation don't count, and where its reading ends
unfoldable pub CutOff : Remains → Option Uncounted → Type 0
CutOff remains told = IfSome told (λ cut. (0 < remains.uncounted) × (cut.sector ≡ remains.stop) × (cut.records ≡ remains.uncounted)) × (told ≡ None → remains.uncounted ≡ 0)

-- none is counted where there is none
counts_none : {Is : ℕ → Type 0} {from : ℕ} (n : ℕ) → ((i : ℕ) → ¬ Is i) → Counts Is from (from + n) 0
counts_none {Is} {from} zero none = subst (λ m. Counts Is from m 0) (omega arith) starts
counts_none {Is} {from} (suc n) none = subst (λ m. Counts Is from m 0) (omega arith) (passed (counts_none n none) (none (from + n)))

-- of a generation past the last one there is no whole record
module _ (layout : Layout) (generation : ℕ) (image : Image) (past : 2 ^ 64 - 1 < generation) where
  none_there : records_of Two layout generation image ≡ []
  none_there = never_recorded Two layout generation image (omega (arith, past))

  at_start : end_in Two layout generation image ≡ area_start Two layout generation
  at_start = omega (arith, ap sectors_of none_there)

  up_to : end_in Two layout generation image + area_sectors Two layout ≡ area_end Two layout generation
  up_to = ap (λ (n : ℕ). n + area_sectors Two layout) at_start

  pub never_uncounted : HasUncounted Two layout generation image 0
  never_uncounted = subst (λ m. Counts (EndsUncounted Two layout image (end_in Two layout generation image) generation (count_in Two layout generation image)) (end_in Two layout generation image) m 0) up_to
      (counts_none (area_sectors Two layout) (λ i is. let last = is.ends.is.last in omega (arith, last, past)))

  pub never_later : HasLater Two layout generation image 0
  never_later = subst (λ m. Counts (EndsLater Two layout image (end_in Two layout generation image) generation) (end_in Two layout generation image) m 0) up_to
      (counts_none (area_sectors Two layout) (λ i is. let fits = is.fits in let greater = is.greater in omega (arith, fits, greater, past)))

-- ---- of one generation

module _ (format : Format) (layout : Layout) (generation : ℕ) (image : Image) (remains : Remains) (r : Remain format layout generation image remains) where
  cut_none : (told : Option Uncounted) → CutOff remains told → told ≡ None → HasUncounted format layout generation image 0
  unfolding CutOff
  cut_none told is none = subst (HasUncounted format layout generation image) (is.1 none) r.uncounted

  cut_some : (cut : Uncounted) → CutOff remains (Some cut) → (0 < cut.records) × HasUncounted format layout generation image cut.records × EndsAt format layout generation image cut.sector
  unfolding CutOff
  cut_some cut is = (
    omega (arith, is.0.0, is.0.2),
    subst (HasUncounted format layout generation image) (sym is.0.2) r.uncounted,
    subst (EndsAt format layout generation image) (sym is.0.1) (r.stop (counts_room r.uncounted is.0.0)),
  )

-- ---- of all that are read

module _ (layout : Layout) (newest : ℕ) (image : Image) (here : Remains) (there : Remain Two layout newest image here) where
  -- of both generations
  module _ (behind : Remains) (also : Remain Two layout (newest + 1) image behind) where
    pub cut_both : (first second : Uncounted) (told : Uncounted) → CutOff here (Some first) → CutOff behind (Some second) → told.sector ≡ first.sector → told.records ≡ first.records + second.records
        → TellsCutOff Two layout newest image (Some told)
    cut_both first second told is also_is sector records =
        let a = cut_some Two layout newest image here there first is in
        let b = cut_some Two layout (newest + 1) image behind also second also_is in
        record {
          here = first.records;
          behind = second.records;
          some = omega (arith, a.0, records);
          records_are = records;
          here_is = a.1;
          behind_is = b.1;
          ends_here = λ some. subst (EndsAt Two layout newest image) (sym sector) a.2;
          ends_behind = λ none. absurd (omega (arith, none, a.0));
        }

    pub cut_first : (first : Uncounted) (none : Option Uncounted) → CutOff here (Some first) → CutOff behind none → none ≡ None → TellsCutOff Two layout newest image (Some first)
    cut_first first none is also_is is_none =
        let a = cut_some Two layout newest image here there first is in
        record {
          here = first.records;
          behind = 0;
          some = a.0;
          records_are = omega arith;
          here_is = a.1;
          behind_is = cut_none Two layout (newest + 1) image behind also none also_is is_none;
          ends_here = λ some. a.2;
          ends_behind = λ none. absurd (omega (arith, none, a.0));
        }

    pub cut_second : (none second : Option Uncounted) → CutOff here none → none ≡ None → CutOff behind second → TellsCutOff Two layout newest image second
    cut_second none None is is_none also_is = (cut_none Two layout newest image here there none is is_none, cut_none Two layout (newest + 1) image behind also None also_is refl)
    cut_second none (Some second) is is_none also_is =
        let b = cut_some Two layout (newest + 1) image behind also second also_is in
        record {
          here = 0;
          behind = second.records;
          some = b.0;
          records_are = omega arith;
          here_is = cut_none Two layout newest image here there none is is_none;
          behind_is = b.1;
          ends_here = λ some. absurd (omega (arith, some));
          ends_behind = λ none. b.2;
        }

    pub later_both : HaveLater Two layout newest image (here.later + behind.later)
    later_both = (here.later, behind.later, refl, there.later, also.later)

  -- of the last generation alone
  module _ (past : 2 ^ 64 - 1 < newest + 1) where
    pub cut_last : (told : Option Uncounted) → CutOff here told → TellsCutOff Two layout newest image told
    cut_last None is = (cut_none Two layout newest image here there None is refl, never_uncounted layout (newest + 1) image past)
    cut_last (Some first) is =
        let a = cut_some Two layout newest image here there first is in
        record {
          here = first.records;
          behind = 0;
          some = a.0;
          records_are = omega arith;
          here_is = a.1;
          behind_is = never_uncounted layout (newest + 1) image past;
          ends_here = λ some. a.2;
          ends_behind = λ none. absurd (omega (arith, none, a.0));
        }

    pub later_last : HaveLater Two layout newest image here.later
    later_last = (here.later, 0, omega arith, there.later, never_later layout (newest + 1) image past)

-- of format 1
pub cut_one : (layout : Layout) (newest : ℕ) (image : Image) (here : Remains) → Remain One layout newest image here → (told : Option Uncounted) → CutOff here told → TellsCutOff One layout newest image told
cut_one layout newest image here there None is = cut_none One layout newest image here there None is refl
cut_one layout newest image here there (Some first) is = cut_some One layout newest image here there first is

-- the report where the next generation isn't read
pub cut_alone : (format : Format) (layout : Layout) (newest : ℕ) (image : Image) (records : ℕ) (here : Remains) (behind : Option Remains) → AreRead format layout newest image records here behind → behind ≡ None
    → (told : Option Uncounted) → CutOff here told → TellsCutOff format layout newest image told
cut_alone One layout newest image records here None read none told is = cut_one layout newest image here read.here_is told is
cut_alone Two layout newest image records here None read none told is = cut_last layout newest image here read.here_is read.behind_is told is
cut_alone format layout newest image records here (Some behind) read none told is = absurd (some-none none)
  where
    some-none : {x : Remains} → Some x ≡ None → ⊥
    some-none e = cc

pub later_alone : (format : Format) (layout : Layout) (newest : ℕ) (image : Image) (records : ℕ) (here : Remains) (behind : Option Remains) → AreRead format layout newest image records here behind → behind ≡ None
    → HaveLater format layout newest image here.later
later_alone One layout newest image records here None read none = read.here_is.later
later_alone Two layout newest image records here None read none = later_last layout newest image here read.here_is read.behind_is
later_alone format layout newest image records here (Some behind) read none = absurd (some-none none)
  where
    some-none : {x : Remains} → Some x ≡ None → ⊥
    some-none e = cc

-- and where it is
pub of_two : (format : Format) (layout : Layout) (newest : ℕ) (image : Image) (records : ℕ) (here behind : Remains) → AreRead format layout newest image records here (Some behind)
    → (format ≡ Two) × Remain Two layout newest image here × Remain Two layout (newest + 1) image behind
of_two One layout newest image records here behind read = absurd read.behind_is
of_two Two layout newest image records here behind read = (refl, read.here_is, read.behind_is)

-- the report on the other slot
pub damaged_told : (format : Format) (layout : Layout) (generation : ℕ) (image : Image) (later : ℕ) → HaveLater format layout generation image later → (slot : Slot) (is_damaged : Bool)
    → (IsTrue is_damaged ↔ IsDamaged layout (image (slot_start layout (other slot)))) → (told : Option Uncounted)
    → IfSome told (λ damaged. IsTrue is_damaged × (damaged.sector ≡ slot_start layout (other slot)) × (damaged.records ≡ later)) → (told ≡ None → ¬ IsTrue is_damaged)
    → TellsDamaged format layout slot generation image told
damaged_told format layout generation image later have slot is_damaged says None some none = λ there. none refl (says.1 there)
damaged_told format layout generation image later have slot is_damaged says (Some damaged) some none = (says.0 some.0, some.1, subst (HaveLater format layout generation image) (sym some.2) have)
