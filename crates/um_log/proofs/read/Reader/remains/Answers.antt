use Rattle.std.proofs.Common.{IsTrue, ◌≡◌, ◌⊎◌, ◌∙◌, ◌+◌, ◌-◌, ◌^◌, ◌<◌, ◌≤◌, ℕ, suc, List, [], ◌∷◌, length, inl, inr, ⊎_elim, refl, sym, ap, subst, arith}
use Rattle.std.proofs.lemmas.Bool.{cases_eq, cases_lt}
use Rattle.um_model.specs.Disk.{Image, Sector, Past, seen}
use Rattle.um_model.specs.Store.{first_log_sector, area_start, area_end, store_sectors, part_count, part_of, sectors_of, AreRecords, stops, goes_on, IsOf}
use Rattle.um_laws.proofs.StoreLaws.{area_within, log_generation}
use Rattle.um_model.specs.declared.layout.Format.{Format}
use Rattle.um_model.specs.declared.layout.Layout.{Layout}
use Rattle.um_log.specs.Following.{Follows, StopsBefore}
use Rattle.um_log.specs.Greatest.{IsTold}
use Rattle.um_log.specs.Uncounted.{Counts, starts, EndsUncounted, EndsLater}
use Rattle.um_log.proofs.Following.{none_yet, counts_more, both, uncounted_ends, later_ends, stop_more, stops_at, nothing_behind}
use Rattle.um_log.proofs.read.Reader.remains.Goals as goal

-- one sector more
module _ (layout : Layout) (image : Image) (newest from j old told new : ℕ) (sector : Sector) (is : sector ≡ image j) (least : (old ≤ new) × (told ≤ new)) where
  most_more : ((theirs : ℕ) → IsOf theirs sector → theirs ≤ told) → ((theirs i : ℕ) → from ≤ i → i < j → IsOf theirs (image i) → theirs ≤ old)
      → (theirs i : ℕ) → from ≤ i → i < j + 1 → IsOf theirs (image i) → theirs ≤ new
  most_more most before theirs i low below of = ⊎_elim
      (λ same. let one = most theirs (subst (IsOf theirs) (ap image same ∙ sym is) of) in omega (arith, one, least.1))
      (λ less. let one = before theirs i low (omega (arith, below, less)) of in omega (arith, one, least.0))
      (cases_eq i j)

  stands_more : first_log_sector layout ≤ j → j < store_sectors layout → (0 < told → IsOf told sector) → (new ≡ old) ⊎ ((new ≡ told) × (old < told))
      → (old ≡ newest) ⊎ IsTold layout image old → (new ≡ newest) ⊎ IsTold layout image new
  stands_more low high says (inl same) (inl first) = inl (same ∙ first)
  stands_more low high says (inl same) (inr stands) = inr (subst (IsTold layout image) (sym same) stands)
  stands_more low high says (inr (same, above)) before =
      inr (subst (IsTold layout image) (sym same) (record { place = j; low = low; high = high; is = subst (IsOf told) is (says (omega (arith, above))) }))

pub loop-j-init : goal.loop-j-init
loop-j-init g c =
    let reader = c.args.self.now in
    let image = seen (g.D.Disk.past c.args.disk.now) in
    record {
      least = omega arith;
      most = λ h theirs i low high. absurd (omega (arith, low, high));
      stands = λ h. inl refl;
      followed = λ h. none_yet reader.format reader.generation image reader.next;
      stops = λ h. record { low = omega arith; high = omega arith; stand = inl refl; ends = λ below. absurd (omega (arith, below)) };
      uncounted = λ h. starts;
      later = λ h. starts;
      few = (omega arith, omega arith);
      past = λ h. refl;
      low = omega arith;
      calls = omega arith;
      failures = refl;
      disk_size = refl;
      honest = refl;
    }

pub loop-j-preserved : goal.loop-j-preserved
loop-j-preserved g c =
    let reader = c.args.self.now in
    let image = seen (g.D.Disk.past c.args.disk.now) in
    let inside : c.loop-j.j < area_end reader.format reader.layout reader.generation = omega (arith, c.loop-j-test.true, c.area_end-j-end.ensures) in
    let followed : IsTrue (g.D.Disk.honest c.args.disk.now) → Follows reader.format reader.generation image reader.next (suc c.loop-j.j) c.follow-run.result =
    λ h. c.follow-run.ensures image reader.next c.loop-j.j c.loop-j.invariant.low
    (c.in_ok-read.ensures.value (c.loop-j.invariant.honest ∙ h) ∙ ap (λ (p : Past). seen p c.loop-j.j) (c.loop-j.invariant.past h)) (c.loop-j.invariant.followed h) in
    let next : suc c.loop-j.j ≡ c.loop-j.j + 1 = omega arith in
    let low = c.loop-j.invariant.low in
    let place = area_within reader.format reader.layout reader.generation in
    let is : IsTrue (g.D.Disk.honest c.args.disk.now) → c.read.new.sector ≡ image c.loop-j.j = λ h. c.in_ok-read.ensures.value (c.loop-j.invariant.honest ∙ h) ∙ ap (λ (p : Past). seen p c.loop-j.j) (c.loop-j.invariant.past h) in
    record {
      least = omega (arith, c.loop-j.invariant.least, c.greater-greatest.ensures.least.0);
      most = λ h. most_more c.args.self.now.layout image c.args.self.now.generation c.args.self.now.next c.loop-j.j c.loop-j.greatest c.told_generation.result c.greater-greatest.result c.read.new.sector (is h) c.greater-greatest.ensures.least
          c.told_generation.ensures.most (c.loop-j.invariant.most h);
      stands = λ h. stands_more c.args.self.now.layout image c.args.self.now.generation c.args.self.now.next c.loop-j.j c.loop-j.greatest c.told_generation.result c.greater-greatest.result c.read.new.sector (is h) c.greater-greatest.ensures.least
          (omega (arith, low, c.args.self.now.low, place.0)) (omega (arith, inside, place.1)) c.told_generation.ensures.told c.greater-greatest.ensures.either (c.loop-j.invariant.stands h);
      followed = λ h. subst (λ n. Follows reader.format reader.generation image reader.next n c.follow-run.result) next (followed h);
      stops = λ h. subst (λ n. StopsBefore reader.format reader.layout reader.generation image reader.number reader.next n c.stop_behind-stop.result) next
          (stop_more reader.format reader.layout image reader.generation reader.number reader.next c.loop-j.j (omega (arith, c.fits-self)) (omega (arith, c.fits-self)) low c.follow-run.result (followed h) c.loop-j.stop
          (c.loop-j.invariant.stops h) c.stop_behind-stop.result c.stop_behind-stop.ensures);
      uncounted = λ h. subst (λ n. Counts (EndsUncounted reader.format reader.layout image reader.next reader.generation reader.number) reader.next n c.grown-uncounted.result) next
          (counts_more c.is_uncounted.result (both c.is_uncounted.ensures (uncounted_ends reader.format reader.layout image reader.next c.loop-j.j reader.generation (omega (arith, c.fits-self)) inside reader.number c.follow-run.result (followed h))) c.grown-uncounted.ensures.one c.grown-uncounted.ensures.same (c.loop-j.invariant.uncounted h));
      later = λ h. subst (λ n. Counts (EndsLater reader.format reader.layout image reader.next reader.generation) reader.next n c.grown-later.result) next
          (counts_more c.is_later.result (both c.is_later.ensures (later_ends reader.format reader.layout image reader.next c.loop-j.j reader.generation (omega (arith, c.fits-self)) inside c.follow-run.result (followed h))) c.grown-later.ensures.one c.grown-later.ensures.same (c.loop-j.invariant.later h));
      few = (omega (arith, c.grown-uncounted.ensures.most, c.loop-j.invariant.few.0, low), omega (arith, c.grown-later.ensures.most, c.loop-j.invariant.few.1, low));
      past = λ h. c.read.ensures.past (c.loop-j.invariant.honest ∙ h) ∙ c.loop-j.invariant.past h;
      low = omega (arith, low);
      calls = omega (arith, c.read.ensures.calls, c.loop-j.invariant.calls, low);
      failures = c.in_ok-read.ensures.failures ∙ c.loop-j.invariant.failures;
      disk_size = c.read.ensures.size ∙ c.loop-j.invariant.disk_size;
      honest = c.read.ensures.honest ∙ c.loop-j.invariant.honest;
    }

-- the sectors of records are of their generation
of_records : {format : Format} {layout : Layout} {generation : ℕ} {image : Image} (last : generation < 2 ^ 64) (number at : ℕ) (records : List (List ℕ)) → AreRecords format layout generation image number at records
    → (theirs j : ℕ) → at ≤ j → j < at + sectors_of records → IsOf theirs (image j) → theirs ≡ generation
of_records last number at [] (stops nothing) theirs j low high of = absurd (omega (arith, low, high))
of_records {generation = generation} {image} last number at (bytes ∷ records) (goes_on is rest) theirs j low high of = ⊎_elim
    (λ inside.
    let part : at + (j - at) ≡ j = omega (arith, low) in
    let here = sym (ap image part) ∙ is.parts (j - at) (omega (arith, inside, low)) in
    sym (subst (IsOf theirs) here of).generation_is ∙ log_generation generation number (j - at) (length bytes) (part_of bytes (j - at)) last)
    (λ behind. of_records last (suc number) (at + part_count (length bytes)) records rest theirs j behind (omega (arith, high)) of)
    (cases_lt j (at + part_count (length bytes)))

pub returns-clause-greatest : goal.returns-clause-greatest
returns-clause-greatest g c h records are place =
    let reader = c.args.self.now in
    record {
      least = c.loop-j.invariant.least;
      none_later = λ theirs j low high is. ⊎_elim
          (λ early. let same = of_records (omega (arith, c.fits-self)) 0 (area_start reader.format reader.layout reader.generation) records are theirs j low (omega (arith, early, place)) is in let least = c.loop-j.invariant.least in omega (arith, same, least))
          (λ behind. let most = c.loop-j.invariant.most h theirs j behind (omega (arith, high, c.loop-j-test.false, c.area_end-j-end.ensures)) is in omega (arith, most))
          (cases_lt j reader.next);
      stands = c.loop-j.invariant.stands h;
    }

pub returns-clause-stop : goal.returns-clause-stop
returns-clause-stop g c h records are count place room =
    let reader = c.args.self.now in
    let image = seen (g.D.Disk.past c.args.disk.now) in
    let most = c.loop-j.auto.j-end (omega (arith, reader.high, c.area_end-j-end.ensures)) in
    let end : c.loop-j.j ≡ area_end reader.format reader.layout reader.generation = omega (arith, c.loop-j-test.false, c.area_end-j-end.ensures, most) in
    stops_at reader.format reader.layout reader.generation image reader.number reader.next c.loop-j.stop (omega (arith, c.fits-self)) room
    (subst (λ n. StopsBefore reader.format reader.layout reader.generation image reader.number reader.next n c.loop-j.stop) end (c.loop-j.invariant.stops h))
    (nothing_behind reader.format reader.layout reader.generation image records are reader.number reader.next count place)

pub returns-clause-uncounted : goal.returns-clause-uncounted
returns-clause-uncounted g c h =
    let reader = c.args.self.now in
    let image = seen (g.D.Disk.past c.args.disk.now) in
    let most = c.loop-j.auto.j-end (omega (arith, reader.high, c.area_end-j-end.ensures)) in
    let end : c.loop-j.j ≡ area_end reader.format reader.layout reader.generation = omega (arith, c.loop-j-test.false, c.area_end-j-end.ensures, most) in
    subst (λ n. Counts (EndsUncounted reader.format reader.layout image reader.next reader.generation reader.number) reader.next n c.loop-j.uncounted) end (c.loop-j.invariant.uncounted h)

pub returns-clause-later : goal.returns-clause-later
returns-clause-later g c h =
    let reader = c.args.self.now in
    let image = seen (g.D.Disk.past c.args.disk.now) in
    let most = c.loop-j.auto.j-end (omega (arith, reader.high, c.area_end-j-end.ensures)) in
    let end : c.loop-j.j ≡ area_end reader.format reader.layout reader.generation = omega (arith, c.loop-j-test.false, c.area_end-j-end.ensures, most) in
    subst (λ n. Counts (EndsLater reader.format reader.layout image reader.next reader.generation) reader.next n c.loop-j.later) end (c.loop-j.invariant.later h)
