-- The counts and the units with a ready job after a change of one unit.
use Rattle.std.proofs.Common.{◌≡◌, ◌≢◌, ◌∙◌, ◌+◌, ◌^◌, ◌<◌, ◌≤◌, ℕ, Bool, true, false, true≢false, cond, not, ◌&&◌, ◌||◌, ◌==◌, List, [], length, set, get_or, All, is_none, is_some, refl, sym, ap, arith}
use Rattle.std.proofs.lemmas.List.{get_or-set_other, get_or_default, length-set}
use Rattle.um_model.specs.Machine.{is_waiting}
use Rattle.um_model.specs.Jobs.{no_jobs}
use Rattle.um_model.specs.declared.jobs.UnitJobs.{UnitJobs}
use Rattle.um_graph.specs.Graph.{GraphView, row_of}
use Rattle.um_graph.specs.Kinds.{after_bit, before_bit, has}
use Rattle.um_graph.specs.declared.row.Neighbour.{Neighbour}
use Rattle.um_graph.proofs.StandLaws.{neighbour_within}
use Rattle.um_jobs.specs.declared.counts.Blockers.{Blockers}
use Rattle.um_jobs.specs.Counts.{Counting, IsCounted, IsCountedAnew, IsKept, MayCountAnew, ahead, before_start, before_stop, behind, count_before, is_alike, is_free, is_listed, changes_pending, one_if, start_at, stop_at, sum_of, touched}
use Rattle.um_jobs.specs.Jobs.{held_at}
use Rattle.um_jobs.specs.Named.{jobs_at}
use Rattle.um_jobs.proofs.MirrorLaws.{mirror}
use Rattle.um_jobs.proofs.ShortLaws.{row_short}
use Rattle.um_jobs.proofs.SumLaws.{counted_anew, same_number, sum_most, sum_of_most, sum_of_none, summed_le}

-- ---- a way to count must count nothing of a unit that isn't ordered, at most two jobs of one that is, and depend only on which jobs are
-- pending
pub record IsCounting (counting : Counting) : Type 0 where
  none : (j : UnitJobs) → counting j false false ≡ 0
  two : (j : UnitJobs) (a b : Bool) → counting j a b ≤ 2
  alike : (old new : UnitJobs) → changes_pending old new ≡ false → (a b : Bool) → counting old a b ≡ counting new a b

one_most : (b : Bool) → one_if b ≤ 1
one_most true = omega arith
one_most false = omega arith

alike_is : (a b : Bool) → is_alike a b ≡ true → a ≡ b
alike_is true b e = sym e
alike_is false true e = absurd (true≢false (sym e))
alike_is false false e = refl

both : (a b : Bool) → not (a && b) ≡ false → (a ≡ true) × (b ≡ true)
both true true e = (refl, refl)
both true false e = absurd (true≢false e)
both false b e = absurd (true≢false e)

same_pending : (old new : UnitJobs) → changes_pending old new ≡ false → (is_some old.stop ≡ is_some new.stop) × (is_some old.start ≡ is_some new.start)
same_pending old new e =
    let b = both (is_alike (is_some old.stop) (is_some new.stop)) (is_alike (is_some old.start) (is_some new.start)) e in
    (alike_is (is_some old.stop) (is_some new.stop) b.0, alike_is (is_some old.start) (is_some new.start) b.1)

pub of_stops : IsCounting before_stop
of_stops = record {
  none = λ j. refl;
  two = λ j a b. let m = one_most (a && is_some j.stop) in omega arith;
  alike = λ old new e a b. ap (λ s. one_if (a && s)) (same_pending old new e).0;
}

pub of_starts : IsCounting before_start
of_starts = record {
  none = λ j. refl;
  two = λ j a b. let p = one_most (b && is_some j.start) in let q = one_most ((a || b) && is_some j.stop) in omega arith;
  alike = λ old new e a b. let s = same_pending old new e in λ i. one_if (b && s.1 i) + one_if ((a || b) && s.0 i);
}

-- whether a job of a unit is ready, from its jobs, its mark and its counts
abbrev pub free_by : UnitJobs → Bool → ℕ → ℕ → Bool
free_by j h a b = (is_waiting j.stop && (a == 0)) || (is_waiting j.start && (is_none j.stop && (not h && (b == 0))))

module _ (g : GraphView) (units : List UnitJobs) (counts : List Blockers) (k : IsCounted g units counts) (x : ℕ) (l : x < length units) (j : UnitJobs) where
  abbrev old : UnitJobs
  old = jobs_at units x

  abbrev row : List Neighbour
  row = touched (row_of g.rows x) old j

  abbrev later_units : List UnitJobs
  later_units = set units x j

  -- ---- the requirements of the calls
  within_by : (b : Bool) (n : ℕ) → n ≡ length g.names → All (λ (m : Neighbour). m.unit < n) (cond b (row_of g.rows x) [])
  within_by true n e i d h =
      let r = row_of g.rows x in
      let w : (get_or r i d).unit < length g.names = neighbour_within g k.graph x (get_or r i d) (i, h, get_or_default r i (get_or r i d) d h) in omega arith
  within_by false n e i d h = absurd (omega arith)

  pub row_within : (n : ℕ) → n ≡ length g.names → All (λ (m : Neighbour). m.unit < n) row
  row_within n e = within_by (changes_pending old j) n e

  module _ (counting : Counting) (is : IsCounting counting) (now : ℕ → ℕ) (exact : (u : ℕ) → now u ≡ count_before counting g units u) where
    least : (u : ℕ) → sum_of (behind counting old) u (row_of g.rows x) ≤ now u
    least u =
        let m = mirror g k.graph counting old (is.none old) x u in
        let w = summed_le counting units x (row_of g.rows u) in
        let e = exact u in omega arith

    most : (u : ℕ) → now u + sum_of (behind counting j) u (row_of g.rows x) < 2 ^ 32
    most u =
        let e = exact u in
        let a = sum_most (λ n. ahead counting (jobs_at units n.unit) n) 2 (λ n. is.two (jobs_at units n.unit) (has before_bit n.kinds) (has after_bit n.kinds)) (row_of g.rows u) in
        let b = sum_of_most (behind counting j) 2 (λ n. is.two j (has after_bit n.kinds) (has before_bit n.kinds)) u (row_of g.rows x) in
        let s = row_short g k.graph u in
        let t = row_short g k.graph x in
        let f = k.graph.few in omega arith

    may_by : (b : Bool) → MayCountAnew counting now old j (cond b (row_of g.rows x) [])
    may_by true = record { least = least; most = most }
    may_by false = record { least = λ u. omega arith; most = λ u. let m = most u in omega arith }

    pub may_count : MayCountAnew counting now old j row
    may_count = may_by (changes_pending old j)

    -- ---- the results of the calls
    alike_in : changes_pending old j ≡ false → (u : ℕ) (r : List Neighbour) → sum_of (behind counting old) u r ≡ sum_of (behind counting j) u r
    alike_in e u r = ap (λ c. sum_of c u r) (λ i n. is.alike old j e (has after_bit n.kinds) (has before_bit n.kinds) i)

    whole_by : (b : Bool) → changes_pending old j ≡ b → (later : ℕ → ℕ) → IsCountedAnew counting now later old j (cond b (row_of g.rows x) []) → IsCountedAnew counting now later old j (row_of g.rows x)
    whole_by true s later e u = e u
    whole_by false s later e u = let p = e u in let q = alike_in s u (row_of g.rows x) in omega arith

    pub exact_anew : (later : ℕ → ℕ) → IsCountedAnew counting now later old j row → (u : ℕ) → later u ≡ count_before counting g later_units u
    exact_anew later e u =
        let n = counted_anew counting units x j l (row_of g.rows u) in
        let m = mirror g k.graph counting old (is.none old) x u in
        let o = mirror g k.graph counting j (is.none j) x u in
        let p = whole_by (changes_pending old j) refl later e u in
        let q = exact u in omega arith

    pub same_count : (later : ℕ → ℕ) → IsCountedAnew counting now later old j row → (u : ℕ) → is_listed row u ≡ false → now u ≡ later u
    same_count later e u f =
        let a = sum_of_none (behind counting old) u row f in
        let b = sum_of_none (behind counting j) u row f in
        let p = e u in omega arith

  pub may_stops : MayCountAnew before_stop (stop_at counts) old j row
  may_stops = may_count before_stop of_stops (stop_at counts) k.stops

  pub may_starts : MayCountAnew before_start (start_at counts) old j row
  may_starts = may_count before_start of_starts (start_at counts) k.starts

  pub recounted : (later_counts : List Blockers) → length later_counts ≡ length counts → IsCountedAnew before_stop (stop_at counts) (stop_at later_counts) old j row
      → IsCountedAnew before_start (start_at counts) (start_at later_counts) old j row → IsCounted g later_units later_counts
  recounted later_counts long stops starts = record {
    graph = k.graph;
    units_long = length-set units x j ∙ k.units_long;
    counts_long = long ∙ k.counts_long;
    stops = exact_anew before_stop of_stops (stop_at counts) k.stops (stop_at later_counts) stops;
    starts = exact_anew before_start of_starts (start_at counts) k.starts (start_at later_counts) starts;
  }

-- the counts that are kept
pub counted_of : (g : GraphView) (units : List UnitJobs) (held : List Bool) (counts : List Blockers) (ready : List Bool) → IsKept g units held counts ready → IsCounted g units counts
counted_of g units held counts ready k = record { graph = k.graph; units_long = k.units_long; counts_long = k.counts_long; stops = k.stops; starts = k.starts }

-- all is kept, for units with these counts and these marks
pub kept_so : (g : GraphView) (units : List UnitJobs) (held : List Bool) (counts : List Blockers) (ready : List Bool) → IsCounted g units counts
    → length held ≡ length g.names → length ready ≡ length g.names → ((u : ℕ) → get_or ready u false ≡ is_free units held counts u) → IsKept g units held counts ready
kept_so g units held counts ready c a b e = record {
  graph = c.graph;
  units_long = c.units_long;
  held_long = a;
  counts_long = c.counts_long;
  ready_long = b;
  stops = c.stops;
  starts = c.starts;
  exact = e;
}

module _ (g : GraphView) (units : List UnitJobs) (held : List Bool) (counts : List Blockers) (ready : List Bool) (k : IsKept g units held counts ready)
    (x : ℕ) (l : x < length units) (j : UnitJobs) (later_counts : List Blockers) (later : List Bool) where
  abbrev changed : List Neighbour
  changed = touched (row_of g.rows x) (jobs_at units x) j

  abbrev free : ℕ → Bool
  free u = is_free (set units x j) held later_counts u

  module _ (stops : IsCountedAnew before_stop (stop_at counts) (stop_at later_counts) (jobs_at units x) j changed)
      (starts : IsCountedAnew before_start (start_at counts) (start_at later_counts) (jobs_at units x) j changed) where
    abbrev c : IsCounted g units counts
    c = counted_of g units held counts ready k

    stays : (u : ℕ) → (u == x) ≡ false → is_listed changed u ≡ false → is_free units held counts u ≡ free u
    stays u a b =
        let apart : u ≢ x = λ s. true≢false (sym (same_number u x s) ∙ a) in
        let same_jobs : jobs_at units u ≡ jobs_at (set units x j) u = sym (get_or-set_other units x u j no_jobs apart) in
        let same_stops = same_count g units counts c x l j before_stop of_stops (stop_at counts) k.stops (stop_at later_counts) stops u b in
        let same_starts = same_count g units counts c x l j before_start of_starts (start_at counts) k.starts (start_at later_counts) starts u b in
        λ i. free_by (same_jobs i) (held_at held u) (same_stops i) (same_starts i)

    exact_by : (u : ℕ) (a b : Bool) → (u == x) ≡ a → is_listed changed u ≡ b → cond a (free u) (cond b (free u) (get_or ready u false)) ≡ free u
    exact_by u true b e f = refl
    exact_by u false true e f = refl
    exact_by u false false e f = k.exact u ∙ stays u e f

    pub set_kept : IsCounted g (set units x j) later_counts → length later ≡ length ready
        → ((u : ℕ) → get_or later u false ≡ cond (u == x) (free u) (cond (is_listed changed u) (free u) (get_or ready u false)))
        → IsKept g (set units x j) held later_counts later
    set_kept a b r = kept_so g (set units x j) held later_counts later a k.held_long (b ∙ k.ready_long) (λ u. r u ∙ exact_by u (u == x) (is_listed changed u) refl refl)
