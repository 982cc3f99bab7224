-- How many jobs wait: each job that begins is one fewer, so that jobs stop beginning.
use Rattle.std.proofs.Common.{◌≡◌, ◌≢◌, ℕ, ◌+◌, ◌<◌, ◌≤◌, List, [], ◌∷◌, Option, Some, None, Bool, true, false, ◌||◌, is_some, unwrap_or, refl, sym, ap, ◌∙◌, subst, true≢false, inl, inr, arith}
use Rattle.std.specs.FinMap as map
use Rattle.std.specs.List.{list_any}
use Rattle.std.specs.Ordering.{nat_cmp, eq_by_cmp}
use Rattle.std.specs.Cmp.Lexicographic.{slice_cmp}
use Rattle.std.proofs.lemmas.Bool.{cases_lt}
use Rattle.std.proofs.lemmas.Map.Lookups.{exact_bytes}
use Rattle.std.proofs.lemmas.Map.Views.{tells_apart}
use Rattle.um_model.proofs.UnitLaws.{jobs_here, jobs_apart}
use Rattle.um_model.specs.Jobs.{Job, job_of, jobs_of_unit, no_jobs, with_jobs, unless_running, start_left, jobs_left, BeginsNext}
use Rattle.um_model.specs.Machine.{State, is_waiting, Carries, Becomes, alone, along, TakesAlong, FallDown, Happens, begins, begun, changed, change_of, IsBefore}
use Rattle.um_model.specs.Service.{ByUnit, Action}
use Rattle.um_model.specs.declared.jobs.JobKind.{JobKind}
use Rattle.um_model.specs.declared.jobs.JobKind.TheVariants.{Stop, Start}
use Rattle.um_model.specs.declared.jobs.JobState.{JobState}
use Rattle.um_model.specs.declared.jobs.JobState.TheVariants.{Waiting, Running}
use Rattle.um_model.specs.declared.jobs.UnitJobs.{UnitJobs}
use Rattle.um_model.specs.declared.transition.Change.{Change}
use Rattle.um_model.specs.declared.transition.UnitEvent.{UnitEvent}
use Rattle.um_model.specs.declared.transition.StartJob.{StartJob}
use Rattle.um_model.specs.declared.transition.StartJob.TheVariants.{Stays, Ends, Fails}
use Rattle.um_laws.proofs.FallLaws.{over_falls}
use Rattle.um_model.proofs.TimersLaws.{same_name}
use Rattle.um_model.proofs.Forms.{with_running}
use Rattle.um_model.specs.Waiting.{waits, waits_in, has_waiting, NoMoreWait}

neither : (a b : Bool) → (a || b) ≡ false → (a ≡ false) × (b ≡ false)
neither false false e = (refl, refl)
neither true b e = absurd (true≢false e)
neither false true e = absurd (true≢false e)

pub none_waiting : (j : UnitJobs) → has_waiting j ≡ false → (kind : JobKind) → job_of kind j ≢ Some Waiting
none_waiting j none Stop is = true≢false (sym (ap is_waiting is) ∙ (neither (is_waiting j.stop) (is_waiting j.start) none).0)
none_waiting j none Start is = true≢false (sym (ap is_waiting is) ∙ (neither (is_waiting j.stop) (is_waiting j.start) none).1)

isnt_waiting : (o : Option JobState) → o ≢ Some Waiting → is_waiting o ≡ false
isnt_waiting None isnt = refl
isnt_waiting (Some Running) isnt = refl
isnt_waiting (Some Waiting) isnt = absurd (isnt refl)

pub none_told : (j : UnitJobs) → ((kind : JobKind) → job_of kind j ≢ Some Waiting) → has_waiting j ≡ false
none_told j none = ap (λ b. b || is_waiting j.start) (isnt_waiting j.stop (none Stop)) ∙ isnt_waiting j.start (none Start)

-- how many jobs of these units wait
abbrev pub waiting : List (List ℕ) → ByUnit UnitJobs → ℕ
waiting [] pending = 0
waiting (unit ∷ units) pending = waits_in (jobs_of_unit pending unit) + waiting units pending

no_more : (units : List (List ℕ)) (later earlier : ByUnit UnitJobs) → NoMoreWait later earlier → waiting units later ≤ waiting units earlier
no_more [] later earlier none = omega arith
no_more (unit ∷ units) later earlier none =
    let here = none unit in
    let others = no_more units later earlier none in
    omega arith

-- if of no unit more wait, and of one of these fewer, fewer wait in all
fewer : (units : List (List ℕ)) (later earlier : ByUnit UnitJobs) (unit : List ℕ) → list_any (eq_by_cmp (slice_cmp nat_cmp) unit) units ≡ true
    → NoMoreWait later earlier → waits_in (jobs_of_unit later unit) < waits_in (jobs_of_unit earlier unit) → waiting units later < waiting units earlier
fewer [] later earlier unit is none less = absurd (true≢false (sym is))
fewer (first ∷ others) later earlier unit is none less =
    elim (eq_by_cmp (slice_cmp nat_cmp) unit first) as (λ b. eq_by_cmp (slice_cmp nat_cmp) unit first ≡ b → (b || list_any (eq_by_cmp (slice_cmp nat_cmp) unit) others) ≡ true → waiting (first ∷ others) later < waiting (first ∷ others) earlier) [
      | true ↦ λ same _.
          let here = subst (λ u. waits_in (jobs_of_unit later u) < waits_in (jobs_of_unit earlier u)) (tells_apart exact_bytes unit first same) less in
          let rest = no_more others later earlier none in
          omega arith
      | false ↦ λ _ among.
          let here = none first in
          let rest = fewer others later earlier unit among none less in
          omega arith
    ] refl is

held : (o : Option UnitJobs) → 0 < waits_in (unwrap_or o no_jobs) → is_some o ≡ true
held (Some j) some = refl
held None some = absurd (omega arith)

-- a unit of which a job waits is among those of which one is pending
among : (pending : ByUnit UnitJobs) (unit : List ℕ) → 0 < waits_in (jobs_of_unit pending unit) → list_any (eq_by_cmp (slice_cmp nat_cmp) unit) (map.keys pending) ≡ true
among pending unit some = sym (map.contains_key-keys pending unit) ∙ held (map.get pending unit) some

unless_waits : (o : Option JobState) → waits (unless_running o) ≤ waits o
unless_waits None = omega arith
unless_waits (Some Waiting) = omega arith
unless_waits (Some Running) = omega arith

start_waits : (start : StartJob) (o : Option JobState) → waits (start_left start o) ≤ waits o
start_waits Stays o = omega arith
start_waits Ends o = unless_waits o
start_waits Fails o = unless_waits o

left_waits : (start : StartJob) (stop_ends : Bool) (j : UnitJobs) → waits_in (jobs_left start stop_ends j) ≤ waits_in j
left_waits start true j =
    let stop = unless_waits j.stop in
    let more = start_waits start j.start in
    omega arith
left_waits start false j =
    let more = start_waits start j.start in
    omega arith

running_waits : (kind : JobKind) (j : UnitJobs) → job_of kind j ≡ Some Waiting → waits_in (with_running kind j) < waits_in j
running_waits Stop j is =
    let one = ap waits is in
    omega arith
running_waits Start j is =
    let one = ap waits is in
    omega arith

-- after a failed start no more wait: the starts that it takes along are gone
along_no_more : (s : State) (failed : List ℕ) (v : State) → TakesAlong s failed v → NoMoreWait v.pending s.pending
along_no_more s failed v h unit =
    elim (cases_lt (waits_in (jobs_of_unit s.pending unit)) (waits_in (jobs_of_unit v.pending unit))) as (λ _. waits_in (jobs_of_unit v.pending unit) ≤ waits_in (jobs_of_unit s.pending unit)) [
      | inl more ↦
          let apart = h.other_jobs unit (λ taken. let e = ap waits_in (h.starts unit taken) in omega arith) in
          absurd (let e = ap waits_in apart in omega arith)
      | inr most ↦ most
    ]

-- nor after a change of a unit, beyond that unit's own jobs
becomes_no_more : (s : State) (unit : List ℕ) (c : Change) (v : State) → Becomes s unit c v → NoMoreWait v.pending (changed s unit c).pending
becomes_no_more s unit c v (alone holds) other = omega arith
becomes_no_more s unit c v (along fails h) other = along_no_more (changed s unit c) unit v h other

as_many : (pending : ByUnit UnitJobs) → NoMoreWait pending pending
as_many pending unit = omega arith

then_no_more : (first next last : ByUnit UnitJobs) → NoMoreWait next first → NoMoreWait last next → NoMoreWait last first
then_no_more first next last none still_none unit =
    let early = none unit in
    let late = still_none unit in
    omega arith

changed_no_more : (s : State) (unit : List ℕ) (c : Change) → NoMoreWait (changed s unit c).pending s.pending
changed_no_more s unit c other =
    let left = jobs_left c.start c.stop_ends (jobs_of_unit s.pending unit) in
    elim (same_name other unit) as (λ _. waits_in (jobs_of_unit (with_jobs s.pending unit left) other) ≤ waits_in (jobs_of_unit s.pending other)) [
      | inl same ↦ subst (λ x. waits_in (jobs_of_unit (with_jobs s.pending unit left) x) ≤ waits_in (jobs_of_unit s.pending x)) (sym same)
          (subst (λ k. waits_in k ≤ waits_in (jobs_of_unit s.pending unit)) (sym (jobs_here s.pending unit left)) (left_waits c.start c.stop_ends (jobs_of_unit s.pending unit)))
      | inr apart ↦ subst (λ k. waits_in k ≤ waits_in (jobs_of_unit s.pending other)) (sym (jobs_apart s.pending unit left other apart)) (as_many s.pending other)
    ]

carried_no_more : (t : ℕ) (unit : List ℕ) (event : UnitEvent) (s : State) (actions : List Action) (v : State) → Carries t unit event s actions v → NoMoreWait v.pending s.pending
carried_no_more t unit event s actions v h =
    let c = change_of t s unit event in
    then_no_more s.pending (changed s unit c).pending v.pending (changed_no_more s unit c) (becomes_no_more s unit c v h.state)

-- nor after bound stops of units
fallen_no_more : (t : ℕ) (units : List (List ℕ)) (s : State) (actions : List Action) (v : State) → FallDown t units s actions v → NoMoreWait v.pending s.pending
fallen_no_more t =
    over_falls t (λ s actions v. NoMoreWait v.pending s.pending) (λ s. as_many s.pending) (λ s u v first more. then_no_more s.pending u.pending v.pending) (carried_no_more t)

-- nor after an event of a unit, beyond that unit's own jobs
happens_no_more : (t : ℕ) (unit : List ℕ) (event : UnitEvent) (s : State) (actions : List Action) (v : State) → Happens t unit event s actions v
    → NoMoreWait v.pending (changed s unit (change_of t s unit event)).pending
happens_no_more t unit event s actions v (Happens.happens {falling = falling} {u = u} {more = more} carries falls later) =
    let c = change_of t s unit event in
    then_no_more (changed s unit c).pending u.pending v.pending (becomes_no_more s unit c u carries.state) (fallen_no_more t falling u more v later)

-- a job begins: one fewer waits
module _ (t : ℕ) (s u : State) (new : List Action) (j : Job) (next : BeginsNext (IsBefore s.loaded) s.units s.pending j) (happens : Happens t j.unit (begins j.kind) (begun s j) new u) where
  now_left : UnitJobs
  now_left = jobs_left (change_of t (begun s j) j.unit (begins j.kind)).start (change_of t (begun s j) j.unit (begins j.kind)).stop_ends (jobs_of_unit (begun s j).pending j.unit)

  -- the pending jobs before a start that fails takes any along
  at_first : ByUnit UnitJobs
  at_first = with_jobs (begun s j).pending j.unit now_left

  no_more_later : NoMoreWait u.pending at_first
  unfolding at_first now_left
  no_more_later = happens_no_more t j.unit (begins j.kind) (begun s j) new u happens

  here : jobs_of_unit at_first j.unit ≡ now_left
  unfolding at_first
  here = jobs_here (begun s j).pending j.unit now_left

  elsewhere : (other : List ℕ) → other ≢ j.unit → jobs_of_unit at_first other ≡ jobs_of_unit s.pending other
  unfolding at_first
  elsewhere other apart =
      jobs_apart (begun s j).pending j.unit now_left other apart
      ∙ jobs_apart s.pending j.unit (with_running j.kind (jobs_of_unit s.pending j.unit)) other apart

  running : jobs_of_unit (begun s j).pending j.unit ≡ with_running j.kind (jobs_of_unit s.pending j.unit)
  running = jobs_here s.pending j.unit (with_running j.kind (jobs_of_unit s.pending j.unit))

  fewer_here : waits_in (jobs_of_unit u.pending j.unit) < waits_in (jobs_of_unit s.pending j.unit)
  unfolding now_left
  fewer_here =
      let left = left_waits (change_of t (begun s j) j.unit (begins j.kind)).start (change_of t (begun s j) j.unit (begins j.kind)).stop_ends (jobs_of_unit (begun s j).pending j.unit) in
      let later = no_more_later j.unit in
      let now = ap waits_in here in
      let begun_here = ap waits_in running in
      let less = running_waits j.kind (jobs_of_unit s.pending j.unit) next.has.waits in
      omega arith

  -- of no unit more jobs wait
  pub begun_no_more : NoMoreWait u.pending s.pending
  begun_no_more other = elim (same_name other j.unit) as (λ _. waits_in (jobs_of_unit u.pending other) ≤ waits_in (jobs_of_unit s.pending other)) [
    | inl same ↦
        let less = subst (λ x. waits_in (jobs_of_unit u.pending x) < waits_in (jobs_of_unit s.pending x)) (sym same) fewer_here in
        omega arith
    | inr apart ↦
        let e = ap waits_in (elsewhere other apart) in
        let later = no_more_later other in
        omega arith
  ]

  -- and of all that waited at first fewer do
  pub begun_fewer : (first : ByUnit UnitJobs) → NoMoreWait s.pending first → waiting (map.keys first) u.pending < waiting (map.keys first) s.pending
  begun_fewer first none =
      let less = fewer_here in
      let before = none j.unit in
      fewer (map.keys first) u.pending s.pending j.unit (among first j.unit (omega arith)) begun_no_more less
