-- The list of the pending jobs in the bytes and their map in the state say the same.
use Rattle.std.proofs.Common.{◌≡◌, ℕ, Bool, true, false, ◌||◌, List, [], ◌∷◌, ◌++◌, Option, Some, None, is_some, unwrap_or, refl, sym, ap, subst, ◌∙◌, Ordering, Less, Equal, Greater, T, is_eq}
use Rattle.std.specs.List.{list_all, flat_map}
use Rattle.std.specs.Ordering.{nat_cmp, is_lt, ordering_then}
use Rattle.std.specs.Cmp.{tied_itself}
use Rattle.std.specs.Cmp.Lexicographic.{slice_cmp, nat_list_cmp_total}
use Rattle.std.specs.FinMap as map
use Rattle.std.specs.FinMap.Entries.{below_all, put, find}
use Rattle.std.proofs.lemmas.List.{nil_from_length}
use Rattle.std.proofs.lemmas.Map.Lookups.{exact_bytes}
use Rattle.std.proofs.lemmas.Map.Views.{tells_apart}
use Rattle.um_model.specs.Service.{ByUnit}
use Rattle.um_model.specs.Jobs.{AreTidyJobs, JobShown, jobs, no_jobs, has_job, jobs_of_unit, job_shown, jobs_shown_of, jobs_shown, with_job}
use Rattle.um_model.specs.Spellings.{kind_tag}
use Rattle.um_model.specs.StateSpellings.{job_of_fields, job_spelling, job_at, pending_spelling, pending_at, FitPending, jobs_ascend, pending_of}
use Rattle.um_model.specs.Bytes.{IsCanonical, FitList}
use Rattle.um_model.proofs.SpellingsLaws.{canonical_unit_name, canonical_kind, canonical_job_state}
use Rattle.um_model.proofs.BytesLaws.{canonical_form, canonical_only, canonical_pair, canonical_list, left_holds, right_holds, both_hold, lower, lower_all}
use Rattle.um_model.proofs.EntriesLaws.{below_none, below_put, both_true, left_true, right_true, from_each}
use Rattle.um_model.proofs.UnitLaws.{not_jobless, no_job_held, tidy_empty, tidy_inserted}
use Rattle.um_model.specs.declared.jobs.JobKind.{JobKind}
use Rattle.um_model.specs.declared.jobs.JobKind.TheVariants.{Stop, Start}
use Rattle.um_model.specs.declared.jobs.JobState.{JobState}
use Rattle.um_model.specs.declared.jobs.UnitJobs.{UnitJobs}
use Rattle.um_model.proofs.Forms.{FitJob, is_before_next}

abbrev Entries : Type 0
Entries = List (List ℕ × UnitJobs)

abbrev cmp : List ℕ → List ℕ → Ordering
cmp = slice_cmp nat_cmp

-- the jobs of such entries, as they are shown
abbrev told : Entries → List JobShown
told es = flat_map (λ e. jobs_shown_of e.0 e.1) es

abbrev all_have : Entries → Bool
all_have es = list_all (λ e. has_job e.1) es

-- the entries with one more job
abbrev with_more : JobShown → Entries → Entries
with_more j es = put cmp j.unit (with_job j.kind j.state (unwrap_or (find cmp j.unit es) no_jobs)) es

no_entries : map.entries (map.empty {X = UnitJobs} {R = cmp}) ≡ []
no_entries = nil_from_length _ (sym (map.len-entries _) ∙ map.len-empty cmp UnitJobs)

pub has_with_job : (kind : JobKind) (state : JobState) (j : UnitJobs) → has_job (with_job kind state j) ≡ true
has_with_job Stop state j = refl
has_with_job Start state j = by (is_some j.stop)
  where
    by : (b : Bool) → (b || true) ≡ true
    by true = refl
    by false = refl

pub tidy_pending : (js : List JobShown) → AreTidyJobs (pending_of js)
tidy_pending [] = tidy_empty no_jobs
tidy_pending (j ∷ js) =
    tidy_inserted no_jobs (pending_of js) j.unit _ (not_jobless _ (has_with_job j.kind j.state (jobs_of_unit (pending_of js) j.unit))) (tidy_pending js)

-- a tidy map has a job at each name
have_jobs : (pending : ByUnit UnitJobs) → AreTidyJobs pending → all_have (map.entries pending) ≡ true
have_jobs pending tidy = from_each (λ e. has_job e.1) pending (λ unit j here. by unit j here (has_job j) refl)
  where
    by : (unit : List ℕ) (j : UnitJobs) → map.get pending unit ≡ Some j → (b : Bool) → has_job j ≡ b → has_job j ≡ true
    by unit j here true e = e
    by unit j here false e = absurd (tidy unit (here ∙ ap Some (no_job_held j e)))

-- ---- from the list to the map and back

-- a job of a unit that stands below all is shown in front
in_front : (unit : List ℕ) (kind : JobKind) (state : JobState) (es : Entries) → T (below_all cmp unit es) → told (with_more (record { unit = unit; kind = kind; state = state }) es) ≡ record { unit = unit; kind = kind; state = state } ∷ told es
in_front unit kind state es low =
    ap told (below_put unit (with_job kind state (unwrap_or (find cmp unit es) no_jobs)) es low)
    ∙ (ap (λ o. told ((unit, with_job kind state (unwrap_or o no_jobs)) ∷ es)) (below_none unit es low) ∙ alone kind)
  where
    alone : (k : JobKind) → told ((unit, with_job k state no_jobs) ∷ es) ≡ record { unit = unit; kind = k; state = state } ∷ told es
    alone Stop = refl
    alone Start = refl

-- a stop job of the unit in front, of which a start job alone is pending, is shown in front
beside : (unit : List ℕ) (state start : JobState) (unit' : List ℕ) (es : Entries) → cmp unit unit' ≡ Equal → unit ≡ unit'
    → told (with_more (record { unit = unit; kind = Stop; state = state }) ((unit', jobs None (Some start)) ∷ es)) ≡ record { unit = unit; kind = Stop; state = state } ∷ told ((unit', jobs None (Some start)) ∷ es)
beside unit state start unit' es tied same = rw tied (ap (λ (u : List ℕ). record { unit = u; kind = Stop; state = state } ∷ record { unit = unit'; kind = Start; state = start } ∷ told es) (sym same))

-- a job that stands before the next is shown in front
module _ (j : JobShown) (unit : List ℕ) (es : Entries) (sorted : T (below_all cmp unit es)) where
  below_less : cmp j.unit unit ≡ Less → (e : UnitJobs) → T (below_all cmp j.unit ((unit, e) ∷ es))
  below_less less e = both_hold _ _ (subst (λ r. T (is_lt r)) (sym less) tt) (lower_all j.unit unit es less sorted)

  more_behind_stop : (stop : JobState) (start : Option JobState) (r : Ordering) → cmp j.unit unit ≡ r → (k : JobKind) → is_lt (ordering_then r (nat_cmp (kind_tag k) 0)) ≡ true
      → told (with_more j ((unit, jobs (Some stop) start) ∷ es)) ≡ j ∷ told ((unit, jobs (Some stop) start) ∷ es)
  more_behind_stop stop start Less e k h = in_front j.unit j.kind j.state ((unit, jobs (Some stop) start) ∷ es) (below_less e (jobs (Some stop) start))
  more_behind_stop stop start Equal e Stop h = absurd cc
  more_behind_stop stop start Equal e Start h = absurd cc
  more_behind_stop stop start Greater e k h = absurd cc

  more_behind_start : (start : JobState) (r : Ordering) → cmp j.unit unit ≡ r → (k : JobKind) → j.kind ≡ k → is_lt (ordering_then r (nat_cmp (kind_tag k) 1)) ≡ true
      → told (with_more j ((unit, jobs None (Some start)) ∷ es)) ≡ j ∷ told ((unit, jobs None (Some start)) ∷ es)
  more_behind_start start Less e k is h = in_front j.unit j.kind j.state ((unit, jobs None (Some start)) ∷ es) (below_less e (jobs None (Some start)))
  more_behind_start start Equal e Stop is h =
      subst (λ (k : JobKind). told (with_more (record { unit = j.unit; kind = k; state = j.state }) ((unit, jobs None (Some start)) ∷ es))
      ≡ record { unit = j.unit; kind = k; state = j.state } ∷ told ((unit, jobs None (Some start)) ∷ es))
      (sym is) (beside j.unit j.state start unit es e (tells_apart exact_bytes j.unit unit (ap is_eq e)))
  more_behind_start start Equal e Start is h = absurd cc
  more_behind_start start Greater e k is h = absurd cc

  more_behind : (stop start : Option JobState) → has_job (jobs stop start) ≡ true → is_before_next j (told ((unit, jobs stop start) ∷ es)) ≡ true
      → told (with_more j ((unit, jobs stop start) ∷ es)) ≡ j ∷ told ((unit, jobs stop start) ∷ es)
  more_behind None None has before = absurd cc
  more_behind (Some stop) start has before = more_behind_stop stop start (cmp j.unit unit) refl j.kind before
  more_behind None (Some start) has before = more_behind_start start (cmp j.unit unit) refl j.kind refl before

more_told : (j : JobShown) (es : Entries) → T (map.is_sorted cmp es) → all_have es ≡ true → is_before_next j (told es) ≡ true → told (with_more j es) ≡ j ∷ told es
more_told j [] sorted have before = in_front j.unit j.kind j.state [] tt
more_told j (e ∷ es) sorted have before = more_behind j e.0 es (left_holds _ _ sorted) e.1.stop e.1.start (left_true _ _ have) before

entries_more : (j : JobShown) (js : List JobShown) → map.entries (pending_of (j ∷ js)) ≡ with_more j (map.entries (pending_of js))
entries_more j js =
    map.entries-insert nat_list_cmp_total (pending_of js) j.unit _
    ∙ ap (λ o. put cmp j.unit (with_job j.kind j.state (unwrap_or o no_jobs)) (map.entries (pending_of js))) (map.get-entries (pending_of js) j.unit)

pub list_again : (js : List JobShown) → jobs_ascend js ≡ true → jobs_shown (pending_of js) ≡ js
list_again [] h = ap told no_entries
list_again (j ∷ js) h =
    let rest : told (map.entries (pending_of js)) ≡ js = list_again js (right_true _ _ h) in
    ap told (entries_more j js)
    ∙ (more_told j (map.entries (pending_of js)) (map.entries_sorted (pending_of js)) (have_jobs (pending_of js) (tidy_pending js)) (ap (is_before_next j) rest ∙ left_true _ _ h)
    ∙ ap (λ (l : List JobShown). j ∷ l) rest)

-- ---- from the map to the list and back

-- the entries of the jobs of a list
abbrev gathered : List JobShown → Entries
gathered js = map.entries (pending_of js)

gather_start : (unit : List ℕ) (start : JobState) (js : List JobShown) (es : Entries) → gathered js ≡ es → T (below_all cmp unit es)
    → gathered (job_shown unit Start (Some start) ++ js) ≡ (unit, jobs None (Some start)) ∷ es
gather_start unit s js es is low =
    entries_more (record { unit = unit; kind = Start; state = s }) js
    ∙ (ap (with_more (record { unit = unit; kind = Start; state = s })) is
    ∙ (below_put unit (with_job Start s (unwrap_or (find cmp unit es) no_jobs)) es low
    ∙ ap (λ o. (unit, with_job Start s (unwrap_or o no_jobs)) ∷ es) (below_none unit es low)))

gather : (unit : List ℕ) (stop start : Option JobState) (js : List JobShown) (es : Entries) → gathered js ≡ es → T (below_all cmp unit es) → has_job (jobs stop start) ≡ true
    → gathered (jobs_shown_of unit (jobs stop start) ++ js) ≡ (unit, jobs stop start) ∷ es
gather unit None None js es is low has = absurd cc
gather unit None (Some start) js es is low has = gather_start unit start js es is low
gather unit (Some stop) None js es is low has =
    entries_more (record { unit = unit; kind = Stop; state = stop }) js
    ∙ (ap (with_more (record { unit = unit; kind = Stop; state = stop })) is
    ∙ (below_put unit (with_job Stop stop (unwrap_or (find cmp unit es) no_jobs)) es low
    ∙ ap (λ o. (unit, with_job Stop stop (unwrap_or o no_jobs)) ∷ es) (below_none unit es low)))
gather unit (Some stop) (Some start) js es is low has =
    entries_more (record { unit = unit; kind = Stop; state = stop }) (job_shown unit Start (Some start) ++ js)
    ∙ (ap (with_more (record { unit = unit; kind = Stop; state = stop })) (gather_start unit start js es is low)
    ∙ rw (tied_itself nat_list_cmp_total unit) refl)

gather_all : (es : Entries) → T (map.is_sorted cmp es) → all_have es ≡ true → gathered (told es) ≡ es
gather_all [] sorted have = no_entries
gather_all (e ∷ es) sorted have = gather e.0 e.1.stop e.1.start (told es) es (gather_all es (right_holds _ _ sorted) (right_true _ _ have)) (left_holds _ _ sorted) (left_true _ _ have)

pub map_again : (pending : ByUnit UnitJobs) → AreTidyJobs pending → pending_of (jobs_shown pending) ≡ pending
map_again pending tidy = map.same_entries_map _ _ (gather_all (map.entries pending) (map.entries_sorted pending) (have_jobs pending tidy))

-- ---- the jobs of a map ascend

before_told : (j : JobShown) (es : Entries) → all_have es ≡ true → T (below_all cmp j.unit es) → is_before_next j (told es) ≡ true
before_told j [] have low = refl
before_told j (e ∷ es) have low = by e.1.stop e.1.start (left_true _ _ have) (lower _ (left_holds _ _ low))
  where
    by : (stop start : Option JobState) → has_job (jobs stop start) ≡ true → cmp j.unit e.0 ≡ Less → is_before_next j (jobs_shown_of e.0 (jobs stop start) ++ told es) ≡ true
    by None None has less = absurd cc
    by (Some stop) start has less = ap (λ r. is_lt (ordering_then r (nat_cmp (kind_tag j.kind) 0))) less
    by None (Some start) has less = ap (λ r. is_lt (ordering_then r (nat_cmp (kind_tag j.kind) 1))) less

told_ascend : (es : Entries) → T (map.is_sorted cmp es) → all_have es ≡ true → jobs_ascend (told es) ≡ true
told_ascend [] sorted have = refl
told_ascend ((unit, j) ∷ es) sorted have =
    by j.stop j.start (told_ascend es (right_holds _ _ sorted) (right_true _ _ have)) (λ k s. before_told (record { unit = unit; kind = k; state = s }) es (right_true _ _ have) (left_holds _ _ sorted))
  where
    by : (stop start : Option JobState) → jobs_ascend (told es) ≡ true → ((k : JobKind) (s : JobState) → is_before_next (record { unit = unit; kind = k; state = s }) (told es) ≡ true)
        → jobs_ascend (jobs_shown_of unit (jobs stop start) ++ told es) ≡ true
    by None None rest next = rest
    by (Some a) None rest next = both_true _ _ (next Stop a) rest
    by None (Some b) rest next = both_true _ _ (next Start b) rest
    by (Some a) (Some b) rest next = both_true _ _ (ap (λ r. is_lt (ordering_then r (nat_cmp 0 1))) (tied_itself nat_list_cmp_total unit)) (both_true _ _ (next Start b) rest)

pub map_ascends : (pending : ByUnit UnitJobs) → AreTidyJobs pending → jobs_ascend (jobs_shown pending) ≡ true
map_ascends pending tidy = told_ascend (map.entries pending) (map.entries_sorted pending) (have_jobs pending tidy)

-- ---- the law

pub canonical_job : IsCanonical FitJob job_spelling job_at
canonical_job =
    canonical_form job_of_fields (λ j. (j.unit, (j.kind, j.state))) (λ f h. (h.0, refl)) (λ j h. ((h, (tt, tt)), refl))
    (canonical_pair canonical_unit_name (canonical_pair canonical_kind canonical_job_state))

pub canonical_pending : IsCanonical FitPending pending_spelling pending_at
canonical_pending =
    canonical_form pending_of jobs_shown
    (λ js h. (record { jobs = subst (FitList FitJob) (sym (list_again js h.1)) h.0; tidy = tidy_pending js }, list_again js h.1))
    (λ pending h. ((h.jobs, map_ascends pending h.tidy), map_again pending h.tidy))
    (canonical_only jobs_ascend (canonical_list canonical_job))
