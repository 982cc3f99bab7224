-- Units that a search has passed over stay so while each job is as it was, or runs now.
use Rattle.std.proofs.Common.{◌≡◌, ◌∙◌, ◌<◌, ◌&&◌, ◌||◌, ℕ, Bool, true, false, true≢false, cond, not, List, length, set, Option, Some, None, is_none, is_some, refl, sym, ap, subst, inl, inr}
use Rattle.std.specs.List.{list_any}
use Rattle.std.proofs.lemmas.Bool.{and_from, and_parts, cases_eq, cases_lt, not-true, or_cases, or_left, or_right}
use Rattle.std.proofs.lemmas.Grind.{get_or-set_at}
use Rattle.std.proofs.lemmas.List.{get_or-set_other, set_past}
use Rattle.um_model.specs.Jobs.{no_jobs}
use Rattle.um_model.specs.Machine.{is_waiting}
use Rattle.um_model.specs.declared.jobs.JobKind.{JobKind}
use Rattle.um_model.specs.declared.jobs.JobKind.TheVariants.{Stop, Start}
use Rattle.um_model.specs.declared.jobs.JobState.{JobState}
use Rattle.um_model.specs.declared.jobs.JobState.TheVariants.{Waiting, Running}
use Rattle.um_model.specs.declared.jobs.UnitJobs.{UnitJobs}
use Rattle.um_graph.specs.Graph.{GraphView, row_of}
use Rattle.um_graph.specs.Kinds.{after_bit, before_bit, has}
use Rattle.um_graph.specs.declared.row.Neighbour.{Neighbour}
use Rattle.um_jobs.specs.Jobs.{held_at}
use Rattle.um_jobs.specs.Named.{jobs_at}
use Rattle.um_jobs.specs.RowReady.{ArePassed, binds_as_before, holds_start, holds_stop, is_start_ready, is_stop_ready, stays_or_runs}
use Rattle.um_jobs.proofs.ReadyLaws.{any_in, in_any}

-- ---- one job
some_stays : (a b : Option JobState) → stays_or_runs a b ≡ true → is_some a ≡ true → is_some b ≡ true
some_stays a (Some Running) s t = refl
some_stays (Some Waiting) (Some Waiting) s t = refl
some_stays (Some Running) (Some Waiting) s t = absurd (true≢false (sym s))
some_stays None (Some Waiting) s t = absurd (true≢false (sym s))
some_stays (Some Waiting) None s t = absurd (true≢false (sym s))
some_stays (Some Running) None s t = absurd (true≢false (sym s))
some_stays None None s t = absurd (true≢false (sym t))

waits_stays : (a b : Option JobState) → stays_or_runs a b ≡ true → is_waiting b ≡ true → is_waiting a ≡ true
waits_stays a (Some Running) s t = absurd (true≢false (sym t))
waits_stays (Some Waiting) (Some Waiting) s t = refl
waits_stays (Some Running) (Some Waiting) s t = absurd (true≢false (sym s))
waits_stays None (Some Waiting) s t = absurd (true≢false (sym s))
waits_stays a None s t = absurd (true≢false (sym t))

none_stays : (a b : Option JobState) → stays_or_runs a b ≡ true → is_none b ≡ true → is_none a ≡ true
none_stays a (Some s) e t = absurd (true≢false (sym t))
none_stays None None e t = refl
none_stays (Some Waiting) None e t = absurd (true≢false (sym e))
none_stays (Some Running) None e t = absurd (true≢false (sym e))

same_stays : (a : Option JobState) → stays_or_runs a a ≡ true
same_stays None = refl
same_stays (Some Waiting) = refl
same_stays (Some Running) = refl

false_back : (p q : Bool) → (q ≡ true → p ≡ true) → p ≡ false → q ≡ false
false_back p true back e = absurd (true≢false (sym (back refl) ∙ e))
false_back p false back e = refl

-- ---- all of them
pub record AllStay (before after : List UnitJobs) : Type 0 where
  pub stop : (x : ℕ) → stays_or_runs (jobs_at before x).stop (jobs_at after x).stop ≡ true
  pub start : (x : ℕ) → stays_or_runs (jobs_at before x).start (jobs_at after x).start ≡ true

pub all_same : (units : List UnitJobs) → AllStay units units
all_same units = record { stop = λ x. same_stays (jobs_at units x).stop; start = λ x. same_stays (jobs_at units x).start }

pub all_but : (units : List UnitJobs) (u : ℕ) (j : UnitJobs) → u < length units → binds_as_before (jobs_at units u) j ≡ true → AllStay units (set units u j)
all_but units u j within binds = record { stop = λ x. (both x).0; start = λ x. (both x).1 }
  where
    parts : (stays_or_runs (jobs_at units u).stop j.stop ≡ true) × (stays_or_runs (jobs_at units u).start j.start ≡ true)
    parts = and_parts (stays_or_runs (jobs_at units u).stop j.stop) (stays_or_runs (jobs_at units u).start j.start) binds

    Stays : UnitJobs → UnitJobs → Type 0
    Stays a b = (stays_or_runs a.stop b.stop ≡ true) × (stays_or_runs a.start b.start ≡ true)

    both : (x : ℕ) → Stays (jobs_at units x) (jobs_at (set units u j) x)
    both x = elim (cases_eq x u) as (λ _. Stays (jobs_at units x) (jobs_at (set units u j) x)) [
      | inl at ↦ subst (Stays (jobs_at units x)) (sym (get_or-set_at units u x j no_jobs at within)) (subst (λ k. Stays (jobs_at units k) j) (sym at) parts)
      | inr apart ↦
          subst (Stays (jobs_at units x)) (sym (get_or-set_other units u x j no_jobs apart)) (same_stays (jobs_at units x).stop, same_stays (jobs_at units x).start)
    ]

-- units that were held back still are
abbrev pub StayHeld : List Bool → List Bool → Type 0
StayHeld before after = (x : ℕ) → held_at before x ≡ true → held_at after x ≡ true

pub held_more : (held : List Bool) (u : ℕ) → StayHeld held (set held u true)
held_more held u x is = elim (cases_lt u (length held)) as (λ _. held_at (set held u true) x ≡ true) [
  | inl within ↦ elim (cases_eq x u) as (λ _. held_at (set held u true) x ≡ true) [
    | inl at ↦ get_or-set_at held u x true false at within
    | inr apart ↦ get_or-set_other held u x true false apart ∙ is
  ]
  | inr past ↦ ap (λ h. held_at h x) (set_past held u true past) ∙ is
]

module _ (g : GraphView) (before after : List UnitJobs) (wb wa : List Bool) (stay : AllStay before after) (stays_held : StayHeld wb wa) where
  any_back : (p q : Neighbour → Bool) → ((n : Neighbour) → p n ≡ true → q n ≡ true) → (row : List Neighbour) → not (list_any q row) ≡ true → not (list_any p row) ≡ true
  any_back p q more row t = ap not (false_back (list_any q row) (list_any p row) there (not-true (list_any q row) t))
    where
      there : list_any p row ≡ true → list_any q row ≡ true
      there s = let n = in_any p row s in any_in q row n.0 n.1 (more n.0 n.2)

  stop_held : (n : Neighbour) → holds_stop before n ≡ true → holds_stop after n ≡ true
  stop_held n t =
      let p = and_parts (has before_bit n.kinds) (is_some (jobs_at before n.unit).stop) t in
      and_from (has before_bit n.kinds) (is_some (jobs_at after n.unit).stop) p.0 (some_stays (jobs_at before n.unit).stop (jobs_at after n.unit).stop (stay.stop n.unit) p.1)

  start_held : (n : Neighbour) → holds_start before n ≡ true → holds_start after n ≡ true
  start_held n t =
      let a = has after_bit n.kinds in
      let b = has before_bit n.kinds || has after_bit n.kinds in
      let was = jobs_at before n.unit in
      let now = jobs_at after n.unit in
      elim (or_cases (a && is_some was.start) (b && is_some was.stop) t) as (λ _. holds_start after n ≡ true) [
        | inl h ↦
            let p = and_parts a (is_some was.start) h in
            or_left (a && is_some now.start) (b && is_some now.stop) (and_from a (is_some now.start) p.0 (some_stays was.start now.start (stay.start n.unit) p.1))
        | inr h ↦
            let p = and_parts b (is_some was.stop) h in
            or_right (a && is_some now.start) (b && is_some now.stop) (and_from b (is_some now.stop) p.0 (some_stays was.stop now.stop (stay.stop n.unit) p.1))
      ]

  stop_back : (u : ℕ) → is_stop_ready g after u ≡ true → is_stop_ready g before u ≡ true
  stop_back u t =
      let row = row_of g.rows u in
      let p = and_parts (is_waiting (jobs_at after u).stop) (not (list_any (holds_stop after) row)) t in
      and_from (is_waiting (jobs_at before u).stop) (not (list_any (holds_stop before) row))
      (waits_stays (jobs_at before u).stop (jobs_at after u).stop (stay.stop u) p.0)
      (any_back (holds_stop before) (holds_stop after) stop_held row p.1)

  start_back : (u : ℕ) → is_start_ready g after wa u ≡ true → is_start_ready g before wb u ≡ true
  start_back u t =
      let row = row_of g.rows u in
      let none = is_none (jobs_at after u).stop in
      let free = not (held_at wa u) in
      let alone = not (list_any (holds_start after) row) in
      let p = and_parts (is_waiting (jobs_at after u).start) (none && (free && alone)) t in
      let q = and_parts none (free && alone) p.1 in
      let r = and_parts free alone q.1 in
      let was_free : not (held_at wb u) ≡ true = ap not (false_back (held_at wa u) (held_at wb u) (stays_held u) (not-true (held_at wa u) r.0)) in
      let was_alone : not (list_any (holds_start before) row) ≡ true = any_back (holds_start before) (holds_start after) start_held row r.1 in
      and_from (is_waiting (jobs_at before u).start) (is_none (jobs_at before u).stop && (not (held_at wb u) && not (list_any (holds_start before) row)))
      (waits_stays (jobs_at before u).start (jobs_at after u).start (stay.start u) p.0)
      (and_from (is_none (jobs_at before u).stop) (not (held_at wb u) && not (list_any (holds_start before) row))
      (none_stays (jobs_at before u).stop (jobs_at after u).stop (stay.stop u) q.0)
      (and_from (not (held_at wb u)) (not (list_any (holds_start before) row)) was_free was_alone))

  abbrev kind_by : Bool → Bool → Option JobKind
  kind_by a b = cond a (Some Stop) (cond b (Some Start) None)

  neither : (a b : Bool) → kind_by a b ≡ None → (a ≡ false) × (b ≡ false)
  neither true b e = cc
  neither false true e = cc
  neither false false e = (refl, refl)

  pub passed_on : (n : ℕ) → ArePassed g before wb n → ArePassed g after wa n
  passed_on n passed u below =
      let none = neither (is_stop_ready g before u) (is_start_ready g before wb u) (passed u below) in
      let stop = false_back (is_stop_ready g before u) (is_stop_ready g after u) (stop_back u) none.0 in
      let start = false_back (is_start_ready g before wb u) (is_start_ready g after wa u) (start_back u) none.1 in
      ap (λ a. kind_by a (is_start_ready g after wa u)) stop ∙ ap (kind_by false) start

-- ---- what a change of one unit leaves unchanged
pub passed_at : (units : List UnitJobs) (u : ℕ) (j : UnitJobs) → u < length units → binds_as_before (jobs_at units u) j ≡ true → (n : ℕ) (g : GraphView) (held : List Bool)
    → ArePassed g units held n → ArePassed g (set units u j) held n
passed_at units u j within binds n g held = passed_on g units (set units u j) held held (all_but units u j within binds) (λ x is. is) n

pub passed_held : (held : List Bool) (u n : ℕ) (g : GraphView) (units : List UnitJobs) → ArePassed g units held n → ArePassed g units (set held u true) n
passed_held held u n g units = passed_on g units units held (set held u true) (all_same units) (held_more held u) n
