-- Consecutive parts, one sector more.
use Rattle.std.specs.Prelude.{◌≡◌, ◌⊎◌, ◌↔◌, ◌+◌, ◌-◌, ◌^◌, ◌<◌, ◌≤◌, ℕ, zero, suc, Bool, false, List, [], ◌∷◌, Option, Some, None, length, IsTrue}
use Rattle.std.proofs.Common.{sym, ◌∙◌, ap, subst, inl, inr, ⊎_elim, arith}
use Rattle.std.proofs.lemmas.Bool.{cases_Bool, cases_lt, true≢false}
use Rattle.um_model.specs.Disk.{Sector, Image}
use Rattle.um_model.specs.declared.layout.Format.{Format}
use Rattle.um_model.specs.declared.layout.Layout.{Layout}
use Rattle.um_model.specs.Store.{area_start, area_end, part_count, sectors_of, IsPart, IsRecord, AreRecords, stops, goes_on, HasRecords, IsLogRead, begins, part_behind, record_behind}
use Rattle.um_log.specs.declared.part.Part.{Part}
use Rattle.um_log.specs.Following.{IsPossible, ReadsPart, Stand, Follows, IsNextPart, IsSomeWith, IsLastUncounted, IsLastLater, IsInPlace, AreParts, StopsBefore}
use Rattle.um_log.specs.Uncounted.{Ends, EndsUncounted, EndsLater, Counts, counted, passed, StopsAt}
use Rattle.um_log.proofs.Parts.{AreSame, one_part, whole, part_of_record}

-- the last of the parts that stand there is its sector
last_part : {image : Image} {from next g n k z : ℕ} → Stand image from (suc next) g n k z → IsPart g n k z (image next)
last_part {image = image} {next = next} {g = g} {n = n} {k = k} {z = z} s = let here : s.at + k ≡ next = omega (arith, s.end) in subst (λ j. IsPart g n k z (image j)) here (s.parts k (omega arith))

-- parts of one record at most stand there
one_stand : (format : Format) {image : Image} {from next g n k z h m l y : ℕ} → IsPossible format g n k z → Stand image from next g n k z → IsPossible format h m l y → Stand image from next h m l y
    → AreSame g n k z h m l y
one_stand format {image = image} {k = k} {h = h} {m = m} {l = l} {y = y} a one b two =
    let here : two.at + l ≡ one.at + k = omega (arith, one.end, two.end) in
    one_part format a (one.parts k (omega arith)) b (subst (λ j. IsPart h m l y (image j)) here (two.parts l (omega arith)))

early_or_last : (i before here : ℕ) → i ≤ here → here ≡ suc before → (i ≤ before) ⊎ (i ≡ here)
early_or_last i before here low next = ⊎_elim (λ more. inr (omega (arith, low, next, more))) (λ few. inl few) (cases_lt before i)

module _ (format : Format) (least : ℕ) (image : Image) (from next : ℕ) (low : from ≤ next) (sector : Sector) (is : sector ≡ image next) where
  -- after a sector that is no part none stand
  pub none_there : ReadsPart format least sector None → Follows format least image from (suc next) None
  none_there none generation number part size late possible s = none generation number part size late possible (subst (IsPart generation number part size) (sym is) (last_part s))

  -- a first part stands alone
  pub first_there : (here : Part) → ReadsPart format least sector (Some here) → here.part ≡ 0 → Follows format least image from (suc next) (Some here)
  first_there here reads first = (
    reads.0,
    reads.1,
    record {
      at = next;
      low = low;
      end = omega (arith, first);
      parts = λ i few.
          let same : here.part ≡ i = omega (arith, first, few) in
          let place : next ≡ next + i = omega (arith, first, few) in
          subst (λ k. IsPart here.generation here.number k here.size (image (next + i))) same
          (subst (λ j. IsPart here.generation here.number here.part here.size (image j)) place (subst (IsPart here.generation here.number here.part here.size) is reads.2));
    },
  )

  -- one that is the next goes on
  pub next_there : (before here : Part) → ReadsPart format least sector (Some here) → Follows format least image from next (Some before) → IsNextPart before here
      → Follows format least image from (suc next) (Some here)
  next_there before here reads follows goes =
      let s = follows.2 in (
        reads.0,
        reads.1,
        record {
          at = s.at;
          low = s.low;
          end = omega (arith, s.end, goes.part);
          parts = λ i few. by i few (early_or_last i before.part here.part few goes.part);
        },
      )
    where
      by : (i : ℕ) → i ≤ here.part → (i ≤ before.part) ⊎ (i ≡ here.part) → IsPart here.generation here.number i here.size (image (follows.2.at + i))
      by i few (inl early) =
          subst (λ g. IsPart g here.number i here.size (image (follows.2.at + i))) (sym goes.generation)
          (subst (λ n. IsPart before.generation n i here.size (image (follows.2.at + i))) (sym goes.number)
          (subst (λ z. IsPart before.generation before.number i z (image (follows.2.at + i))) (sym goes.size) (follows.2.parts i early)))
      by i few (inr last) =
          let place : next ≡ follows.2.at + i = omega (arith, follows.2.end, goes.part, last) in
          subst (λ k. IsPart here.generation here.number k here.size (image (follows.2.at + i))) (sym last)
          (subst (λ j. IsPart here.generation here.number here.part here.size (image j)) place (subst (IsPart here.generation here.number here.part here.size) is reads.2))

  pub goes_there : (before : Option Part) (here : Part) → ReadsPart format least sector (Some here) → Follows format least image from next before → IsSomeWith (λ b. IsNextPart b here) before
      → Follows format least image from (suc next) (Some here)
  goes_there None here reads follows is = absurd is
  goes_there (Some before) here reads follows is = next_there before here reads follows is

  -- and where it is neither, none stand
  pub other_there : (before : Option Part) (here : Part) → ReadsPart format least sector (Some here) → Follows format least image from next before → ¬ (here.part ≡ 0) → ¬ IsSomeWith (λ b. IsNextPart b here) before
      → Follows format least image from (suc next) None
  other_there before here reads follows not_first not_next generation number zero size late possible s =
      let same = one_part format reads.1 reads.2 possible (subst (IsPart generation number zero size) (sym is) (last_part s)) in
      absurd (not_first same.part_is)
  other_there before here reads follows not_first not_next generation number (suc part) size late possible s =
      let same = one_part format reads.1 reads.2 possible (subst (IsPart generation number (suc part) size) (sym is) (last_part s)) in
      let fewer : Stand image from next generation number part size = record {
        at = s.at;
        low = s.low;
        end = omega (arith, s.end);
        parts = λ i few. s.parts i (omega (arith, few));
      } in
      let below = possible.below in
      let may : IsPossible format generation number part size = record {
        generation_fits = possible.generation_fits;
        number_fits = possible.number_fits;
        short = possible.short;
        below = omega (arith, below);
      } in
      not_next (by before follows same fewer may)
    where
      by : (b : Option Part) → Follows format least image from next b → AreSame here.generation here.number here.part here.size generation number (suc part) size
          → Stand image from next generation number part size → IsPossible format generation number part size → IsSomeWith (λ x. IsNextPart x here) b
      by None none same fewer may = none generation number part size late may fewer
      by (Some b) some same fewer may =
          let one = one_stand format some.1 some.2 may fewer in
          record {
            generation = same.generation_is ∙ sym one.generation_is;
            number = same.number_is ∙ sym one.number_is;
            size = same.size_is ∙ sym one.size_is;
            part = omega (arith, same.part_is, one.part_is);
          }

-- ---- whole records

-- all the parts of a record stand there, up to the end of a sector
pub record AllStand (format : Format) (layout : Layout) (image : Image) (from last generation number : ℕ) : Type 0 where
  pub part : ℕ
  pub size : ℕ
  pub all : suc part ≡ part_count size
  pub possible : IsPossible format generation number part size
  pub stand : Stand image from (suc last) generation number part size

module _ (format : Format) (layout : Layout) (image : Image) (from last generation number : ℕ) where
  -- where all the parts of a record stand it ends
  pub stand_ends : (part size : ℕ) → IsPossible format generation number part size → Stand image from (suc last) generation number part size → suc part ≡ part_count size
      → last < area_end format layout generation → Ends format layout image from generation number last
  stand_ends part size possible s all inside =
      let below = possible.below in
      let w = whole format layout generation number s.at size image possible.generation_fits (omega (arith, below)) possible.short (omega (arith, s.end, all, inside)) (λ i few. s.parts i (omega (arith, few, all))) in
      record { at = s.at; low = s.low; bytes = w.bytes; is = w.is; end = omega (arith, s.end, all, w.long) }

  -- and where one ends they do
  pub ends_stand : generation < 2 ^ 64 → number < 2 ^ 64 → Ends format layout image from generation number last → AllStand format layout image from last generation number
  ends_stand g_fits n_fits e =
      let size = length e.bytes in
      let some = e.is.some in
      let part = part_count size - 1 in
      record {
        part = part;
        size = size;
        all = omega (arith, some);
        possible = record { generation_fits = g_fits; number_fits = n_fits; short = e.is.short; below = omega (arith, some) };
        stand = record {
          at = e.at;
          low = e.low;
          end = omega (arith, e.end, some);
          parts = λ i few. part_of_record e.is i (omega (arith, few, some));
        };
      }

-- ---- the fields of a part that is last

module _ (format : Format) (layout : Layout) (image : Image) (from last generation : ℕ) (g_fits : generation < 2 ^ 64) (inside : last < area_end format layout generation) where
  -- so it does in a later generation's that is the same
  inside_of : (theirs : ℕ) → area_start format layout theirs ≡ area_start format layout generation → last < area_end format layout theirs
  inside_of theirs same = omega (arith, inside, same)

  -- a whole record of that generation ends there, or none
  pub uncounted_ends : (least : ℕ) (run : Option Part) → Follows format generation image from (suc last) run
      → (IsSomeWith (IsLastUncounted generation least) run ↔ EndsUncounted format layout image from generation least last)
  uncounted_ends least run follows = (there run follows, λ e. back run follows e (ends_stand format layout image from last generation e.number g_fits e.fits e.ends))
    where
      there : (r : Option Part) → Follows format generation image from (suc last) r → IsSomeWith (IsLastUncounted generation least) r → EndsUncounted format layout image from generation least last
      there None f is = absurd is
      there (Some p) f is = record {
        number = p.number;
        greater = is.greater;
        fits = f.1.number_fits;
        ends = subst (λ g. Ends format layout image from g p.number last) is.generation_is
            (stand_ends format layout image from last p.generation p.number p.part p.size f.1 f.2 is.all (inside_of p.generation (ap (λ (g : ℕ). area_start format layout g) is.generation_is)));
      }

      back : (r : Option Part) → Follows format generation image from (suc last) r → (e : EndsUncounted format layout image from generation least last)
          → AllStand format layout image from last generation e.number → IsSomeWith (IsLastUncounted generation least) r
      back None f e a = absurd (f generation e.number a.part a.size (omega arith) a.possible a.stand)
      back (Some p) f e a =
          let same = one_stand format f.1 f.2 a.possible a.stand in
          record {
            generation_is = same.generation_is;
            greater = omega (arith, e.greater, same.number_is);
            all = omega (arith, same.part_is, a.all, ap (λ (z : ℕ). part_count z) same.size_is);
          }

  -- one of a later generation, or none
  pub later_ends : (run : Option Part) → Follows format generation image from (suc last) run → (IsSomeWith (IsLastLater format layout generation) run ↔ EndsLater format layout image from generation last)
  later_ends run follows = (there run follows, λ e. back run follows e (ends_stand format layout image from last e.later e.number e.fits e.number_fits e.ends))
    where
      there : (r : Option Part) → Follows format generation image from (suc last) r → IsSomeWith (IsLastLater format layout generation) r → EndsLater format layout image from generation last
      there None f is = absurd is
      there (Some p) f is = record {
        later = p.generation;
        greater = is.greater;
        place = is.place;
        fits = f.1.generation_fits;
        number = p.number;
        number_fits = f.1.number_fits;
        ends = stand_ends format layout image from last p.generation p.number p.part p.size f.1 f.2 is.all (inside_of p.generation is.place);
      }

      back : (r : Option Part) → Follows format generation image from (suc last) r → (e : EndsLater format layout image from generation last)
          → AllStand format layout image from last e.later e.number → IsSomeWith (IsLastLater format layout generation) r
      back None f e a = let greater = e.greater in absurd (f e.later e.number a.part a.size (omega (arith, greater)) a.possible a.stand)
      back (Some p) f e a =
          let same = one_stand format f.1 f.2 a.possible a.stand in
          record {
            greater = omega (arith, e.greater, same.generation_is);
            place = ap (λ (g : ℕ). area_start format layout g) same.generation_is ∙ e.place;
            all = omega (arith, same.part_is, a.all, ap (λ (z : ℕ). part_count z) same.size_is);
          }

-- ---- where the parts of the next record end

module _ (format : Format) (layout : Layout) (image : Image) (generation number next j : ℕ) (g_fits : generation < 2 ^ 64) (n_fits : number < 2 ^ 64) (low : next ≤ j) where
  -- the parts up to a sector are that record's, where the last one is in its place
  in_place : (run : Option Part) → Follows format generation image next (suc j) run → IsSomeWith (IsInPlace format layout generation number next j) run
      → AreParts format layout generation image number next (suc j)
  in_place None follows is = absurd is
  in_place (Some p) follows is =
      let s = follows.2 in
      let below = follows.1.below in
      let start : s.at ≡ next = omega (arith, s.end, is.part_is) in
      record {
        size = p.size;
        short = is.fits.short;
        within = is.fits.within;
        below = omega (arith, below, is.part_is);
        parts = λ i few.
            subst (λ a. IsPart generation number i p.size (image (a + i))) start
            (subst (λ n. IsPart generation n i p.size (image (s.at + i))) is.number_is
            (subst (λ g. IsPart g p.number i p.size (image (s.at + i))) is.generation_is (s.parts i (omega (arith, few, is.part_is)))));
      }

  are_in_place : (run : Option Part) → Follows format generation image next (suc j) run → AreParts format layout generation image number next (suc j)
      → IsSomeWith (IsInPlace format layout generation number next j) run
  are_in_place run follows a =
      let part = j - next in
      let possible : IsPossible format generation number part a.size = record { generation_fits = g_fits; number_fits = n_fits; short = a.short; below = omega (arith, low, a.below) } in
      let stand : Stand image next (suc j) generation number part a.size = record {
        at = next;
        low = omega arith;
        end = omega (arith, low);
        parts = λ i few. a.parts i (omega (arith, few, low));
      } in
      by run follows possible stand
    where
      by : (r : Option Part) → Follows format generation image next (suc j) r → IsPossible format generation number (j - next) a.size
          → Stand image next (suc j) generation number (j - next) a.size → IsSomeWith (IsInPlace format layout generation number next j) r
      by None f possible stand = absurd (f generation number (j - next) a.size (omega arith) possible stand)
      by (Some p) f possible stand =
          let same = one_stand format f.1 f.2 possible stand in
          record {
            generation_is = same.generation_is;
            number_is = same.number_is;
            part_is = omega (arith, same.part_is, low);
            fits = record {
              some = omega (arith, same.size_is, low, a.below);
              short = omega (arith, same.size_is, a.short);
              within = omega (arith, a.within, ap (λ (z : ℕ). part_count z) same.size_is);
            };
          }

  module _ (run : Option Part) (follows : Follows format generation image next (suc j) run) (stop : ℕ) (so_far : StopsBefore format layout generation image number next j stop) where
    -- they go on
    stop_on : stop ≡ j → IsSomeWith (IsInPlace format layout generation number next j) run → StopsBefore format layout generation image number next (suc j) (j + 1)
    stop_on here is =
        let one : suc j ≡ j + 1 = omega arith in
        record {
          low = omega (arith, low);
          high = omega arith;
          stand = inr (subst (AreParts format layout generation image number next) one (in_place run follows is));
          ends = λ below. absurd (omega (arith, below));
        }

    -- or end where they did
    stop_stays : (stop ≡ j → ¬ IsSomeWith (IsInPlace format layout generation number next j) run) → StopsBefore format layout generation image number next (suc j) stop
    stop_stays none = record {
      low = so_far.low;
      high = let high = so_far.high in omega (arith, high);
      stand = so_far.stand;
      ends = λ below parts. ⊎_elim
          (λ early. so_far.ends early parts)
          (λ late.
          let here : stop ≡ j = omega (arith, late, below) in
          none here (are_in_place run follows (subst (λ s. AreParts format layout generation image number next (suc s)) here parts)))
          (cases_lt stop j);
    }

    pub stop_more : (result : ℕ) → ((stop ≡ j) × IsSomeWith (IsInPlace format layout generation number next j) run × (result ≡ j + 1))
        ⊎ ((stop ≡ j → ¬ IsSomeWith (IsInPlace format layout generation number next j) run) × (result ≡ stop)) → StopsBefore format layout generation image number next (suc j) result
    stop_more result (inl on) = subst (StopsBefore format layout generation image number next (suc j)) (sym on.2) (stop_on on.0 on.1)
    stop_more result (inr off) = subst (StopsBefore format layout generation image number next (suc j)) (sym off.1) (stop_stays off.0)

-- ---- one sector more

-- before the first sector none stand
pub none_yet : (format : Format) (least : ℕ) (image : Image) (from : ℕ) → Follows format least image from from None
none_yet format least image from generation number part size late possible s = omega (arith, s.low, s.end)

-- equivalence is transitive
pub both : {A B C : Type 0} → (A ↔ B) → (B ↔ C) → (A ↔ C)
both one two = (λ a. two.0 (one.0 a), λ c. one.1 (two.1 c))

-- a count with one sector more
pub counts_more : {Is : ℕ → Type 0} {from end count grown : ℕ} (is : Bool) → (IsTrue is ↔ Is end) → (IsTrue is → grown ≡ suc count) → (¬ IsTrue is → grown ≡ count)
    → Counts Is from end count → Counts Is from (suc end) grown
counts_more {Is = Is} {from = from} {end = end} is says one same so_far = ⊎_elim
    (λ so. subst (Counts Is from (suc end)) (sym (one so)) (counted so_far (says.0 so)))
    (λ off. subst (Counts Is from (suc end)) (sym (same (is_not off))) (passed so_far (λ there. is_not off (says.1 there))))
    (cases_Bool is)
  where
    is_not : is ≡ false → ¬ IsTrue is
    is_not off so = true≢false (sym so ∙ off)

-- ---- where the reading ends

-- no record stands after those that count
pub nothing_behind : (format : Format) (layout : Layout) (generation : ℕ) (image : Image) (records : List (List ℕ)) → HasRecords format layout generation image records
    → (number next : ℕ) → number ≡ length records → next ≡ area_start format layout generation + sectors_of records → (bytes : List ℕ) → ¬ IsRecord format layout generation image number next bytes
nothing_behind format layout generation image records are number next count place = by 0 (area_start format layout generation) records are number next (omega (arith, count)) place
  where
    by : (n at : ℕ) (all : List (List ℕ)) → AreRecords format layout generation image n at all → (number next : ℕ) → number ≡ n + length all → next ≡ at + sectors_of all
        → (bytes : List ℕ) → ¬ IsRecord format layout generation image number next bytes
    by n at [] (stops none) number next count place = λ bytes is.
        let e : number ≡ n = omega (arith, count) in
        let f : next ≡ at = omega (arith, place) in
        none bytes (subst (λ m. IsRecord format layout generation image m at bytes) e (subst (λ a. IsRecord format layout generation image number a bytes) f is))
    by n at (x ∷ xs) (goes_on first rest) number next count place =
        by (suc n) (at + part_count (length x)) xs rest number next (omega (arith, count)) (omega (arith, place))

by_order : (a b : ℕ) → a ≤ b → (b ≡ a) ⊎ (a < b)
by_order a b low = ⊎_elim (λ less. inr less) (λ more. inl (omega (arith, low, more))) (cases_lt a b)

module _ (format : Format) (layout : Layout) (generation : ℕ) (image : Image) (number next stop : ℕ) (g_fits : generation < 2 ^ 64) (room : next < area_end format layout generation)
    (ends : StopsBefore format layout generation image number next (area_end format layout generation) stop) (none : (bytes : List ℕ) → ¬ IsRecord format layout generation image number next bytes) where
  looked_at : IsLogRead format layout generation image number next stop
  looked_at = by ends.stand
    where
      by : (stop ≡ next) ⊎ AreParts format layout generation image number next stop → IsLogRead format layout generation image number next stop
      by (inl same) = subst (IsLogRead format layout generation image number next) (sym same) (begins room)
      by (inr a) = ⊎_elim
          (λ here. subst (IsLogRead format layout generation image number next) (sym here) (begins room))
          (λ behind. ⊎_elim
          (λ fewer.
          let part = stop - next - 1 in
          let place : next + suc part ≡ stop = omega (arith, behind) in
          subst (IsLogRead format layout generation image number next) place
          (part_behind a.size part a.short (omega (arith, behind, fewer)) a.within (λ i few. a.parts i (omega (arith, few, behind)))))
          (λ all.
          let w = whole format layout generation number next a.size image g_fits (omega (arith, behind, a.below)) a.short a.within (λ i few. a.parts i (omega (arith, few, all))) in
          absurd (none w.bytes w.is))
          (cases_lt stop (next + part_count a.size)))
          (by_order next stop ends.low)

  no_later : (j : ℕ) → IsLogRead format layout generation image number next j → j ≤ stop
  no_later j (begins within) = ends.low
  no_later j (part_behind size part short below within parts) = ⊎_elim
      (λ late.
      absurd (ends.ends (omega (arith, late, below, within))
      (record { size = size; short = short; within = within; below = omega (arith, late, below); parts = λ i few. parts i (omega (arith, few, late)) })))
      (λ early. early)
      (cases_lt stop (next + suc part))
  no_later j (record_behind {bytes = bytes} is more) = absurd (none bytes is)

  pub stops_at : StopsAt format layout generation image number next stop
  stops_at = record { looked = looked_at; last = no_later }
