-- The state of a unit and its jobs after they were put into the state; and those of the other units.
use Rattle.std.proofs.Common.{ℕ, ◌≡◌, ◌≢◌, ◌∙◌, ◌||◌, Bool, true, false, true≢false, cond, List, Option, Some, None, is_some, unwrap_or, refl, sym, ap}
use Rattle.std.proofs.lemmas.Option.{none-some, same_Some}
use Rattle.std.proofs.lemmas.Map.Views.{tells_apart}
use Rattle.std.proofs.lemmas.Map.Lookups.{exact_bytes}
use Rattle.std.specs.FinMap as map
use Rattle.std.specs.Cmp.Lexicographic.{slice_cmp, nat_list_cmp_total}
use Rattle.std.specs.Cmp.{eq_by_cmp_equiv}
use Rattle.std.specs.Ordering.{nat_cmp, eq_by_cmp}
use Rattle.um_model.specs.Service.{ByUnit, holds_nothing, dead_unit, state_of_unit, with_unit}
use Rattle.um_model.specs.Jobs.{no_jobs, jobs_of_unit, has_job, with_jobs}
use Rattle.um_model.specs.declared.jobs.UnitJobs.{UnitJobs}
use Rattle.um_model.specs.declared.service.UnitState.{UnitState}
use Rattle.um_model.proofs.SameUnits.{unit_decides}

neither : (a b : Bool) → (a || b) ≡ false → (a ≡ false) × (b ≡ false)
neither true b h = absurd (true≢false h)
neither false b h = (refl, h)

none_is : {A : Type 0} (x : Option A) → is_some x ≡ false → x ≡ None
none_is None h = refl
none_is (Some a) h = absurd (true≢false h)

-- a unit of which nothing is held is the dead one
pub nothing_held : (u : UnitState) → holds_nothing u ≡ true → u ≡ dead_unit
nothing_held u h = (unit_decides u dead_unit).0 h

-- a unit with no job has none
pub no_job_held : (j : UnitJobs) → has_job j ≡ false → j ≡ no_jobs
no_job_held j h =
    let a = neither (is_some j.stop) (is_some j.start) h in
    λ i. record { stop = none_is j.stop a.0 i; start = none_is j.start a.1 i }

module _ {A : Type 0} (nothing : A) where
  taken_out : (b : Bool) (o : Option A) (x : A) → x ≡ nothing → unwrap_or (cond b None o) nothing ≡ cond b x (unwrap_or o nothing)
  taken_out true o x e = sym e
  taken_out false o x e = refl

  put_in : (b : Bool) (o : Option A) (x : A) → unwrap_or (cond b (Some x) o) nothing ≡ cond b x (unwrap_or o nothing)
  put_in true o x = refl
  put_in false o x = refl

  -- with a value of one name, which isn't held if it is the empty one
  held_after : (m : ByUnit A) (k : List ℕ) (x : A) (b : Bool) → (b ≡ true → x ≡ nothing) → (q : List ℕ)
      → unwrap_or (map.get (cond b (map.remove m k) (map.insert m k x)) q) nothing ≡ cond (eq_by_cmp (slice_cmp nat_cmp) q k) x (unwrap_or (map.get m q) nothing)
  held_after m k x true e q =
      ap (λ o. unwrap_or o nothing) (map.get-remove nat_list_cmp_total m k q) ∙ taken_out (eq_by_cmp (slice_cmp nat_cmp) q k) (map.get m q) x (e refl)
  held_after m k x false e q =
      ap (λ o. unwrap_or o nothing) (map.get-insert nat_list_cmp_total m k x q) ∙ put_in (eq_by_cmp (slice_cmp nat_cmp) q k) (map.get m q) x

pub alike : (q : List ℕ) → eq_by_cmp (slice_cmp nat_cmp) q q ≡ true
alike q = (eq_by_cmp_equiv nat_list_cmp_total).refl q

pub unlike : (q k : List ℕ) → q ≢ k → eq_by_cmp (slice_cmp nat_cmp) q k ≡ false
unlike q k apart = elim (eq_by_cmp (slice_cmp nat_cmp) q k) as (λ b. eq_by_cmp (slice_cmp nat_cmp) q k ≡ b → b ≡ false) [
  | true ↦ λ e. absurd (apart (tells_apart exact_bytes q k e))
  | false ↦ λ e. refl
] refl

-- the value of a unit after it is put into the units
pub state_here : (units : ByUnit UnitState) (unit : List ℕ) (u : UnitState) → state_of_unit (with_unit units unit u) unit ≡ u
state_here units unit u =
    held_after dead_unit units unit u (holds_nothing u) (nothing_held u) unit ∙ ap (λ b. cond b u (state_of_unit units unit)) (alike unit)

-- and of another
pub state_apart : (units : ByUnit UnitState) (unit : List ℕ) (u : UnitState) (other : List ℕ) → other ≢ unit
    → state_of_unit (with_unit units unit u) other ≡ state_of_unit units other
state_apart units unit u other apart =
    held_after dead_unit units unit u (holds_nothing u) (nothing_held u) other ∙ ap (λ b. cond b u (state_of_unit units other)) (unlike other unit apart)

jobs_after_put : (pending : ByUnit UnitJobs) (unit : List ℕ) (j : UnitJobs) (b : Bool) → (b ≡ false → j ≡ no_jobs) → (q : List ℕ)
    → jobs_of_unit (cond b (map.insert pending unit j) (map.remove pending unit)) q ≡ cond (eq_by_cmp (slice_cmp nat_cmp) q unit) j (jobs_of_unit pending q)
jobs_after_put pending unit j true e q = held_after no_jobs pending unit j false (λ f. absurd (true≢false (sym f))) q
jobs_after_put pending unit j false e q = held_after no_jobs pending unit j true (λ f. e refl) q

-- after the jobs of a unit are put: its jobs
pub jobs_here : (pending : ByUnit UnitJobs) (unit : List ℕ) (j : UnitJobs) → jobs_of_unit (with_jobs pending unit j) unit ≡ j
jobs_here pending unit j =
    jobs_after_put pending unit j (has_job j) (no_job_held j) unit ∙ ap (λ b. cond b j (jobs_of_unit pending unit)) (alike unit)

-- and those of another
pub jobs_apart : (pending : ByUnit UnitJobs) (unit : List ℕ) (j : UnitJobs) (other : List ℕ) → other ≢ unit
    → jobs_of_unit (with_jobs pending unit j) other ≡ jobs_of_unit pending other
jobs_apart pending unit j other apart =
    jobs_after_put pending unit j (has_job j) (no_job_held j) other ∙ ap (λ b. cond b j (jobs_of_unit pending other)) (unlike other unit apart)

-- ---- tidy maps

module _ {A : Type 0} (nothing : A) where
  -- no name holds the empty value
  abbrev pub IsTidy : ByUnit A → Type 0
  IsTidy m = (k : List ℕ) → map.get m k ≢ Some nothing

  same_held : (o p : Option A) → o ≢ Some nothing → p ≢ Some nothing → unwrap_or o nothing ≡ unwrap_or p nothing → o ≡ p
  same_held None None h k e = refl
  same_held None (Some y) h k e = absurd (k (ap Some (sym e)))
  same_held (Some x) None h k e = absurd (h (ap Some e))
  same_held (Some x) (Some y) h k e = ap Some e

  -- tidy maps that say the same of each name are the same
  pub same_tidy : (m n : ByUnit A) → IsTidy m → IsTidy n → ((k : List ℕ) → unwrap_or (map.get m k) nothing ≡ unwrap_or (map.get n k) nothing) → m ≡ n
  same_tidy m n h g e =
      map.same_map nat_list_cmp_total (map.slice_cmp-IsAntisymmetric map.nat_cmp-IsAntisymmetric) m n (λ k. same_held (map.get m k) (map.get n k) (h k) (g k) (e k))

  pub tidy_empty : IsTidy map.empty
  tidy_empty k e = none-some nothing (sym (map.get-empty (slice_cmp nat_cmp) k) ∙ e)

  out_tidy : (b : Bool) (o : Option A) → o ≢ Some nothing → cond b None o ≢ Some nothing
  out_tidy true o h e = none-some nothing e
  out_tidy false o h e = h e

  in_tidy : (b : Bool) (o : Option A) (x : A) → x ≢ nothing → o ≢ Some nothing → cond b (Some x) o ≢ Some nothing
  in_tidy true o x n h e = n (same_Some x nothing e)
  in_tidy false o x n h e = h e

  pub tidy_removed : (m : ByUnit A) (k : List ℕ) → IsTidy m → IsTidy (map.remove m k)
  tidy_removed m k h q e = out_tidy (eq_by_cmp (slice_cmp nat_cmp) q k) (map.get m q) (h q) (sym (map.get-remove nat_list_cmp_total m k q) ∙ e)

  pub tidy_inserted : (m : ByUnit A) (k : List ℕ) (x : A) → x ≢ nothing → IsTidy m → IsTidy (map.insert m k x)
  tidy_inserted m k x n h q e = in_tidy (eq_by_cmp (slice_cmp nat_cmp) q k) (map.get m q) x n (h q) (sym (map.get-insert nat_list_cmp_total m k x q) ∙ e)

-- a unit of which something is held isn't the dead one
pub not_dead : (u : UnitState) → holds_nothing u ≡ false → u ≢ dead_unit
not_dead u h e = true≢false (ap holds_nothing (sym e) ∙ h)

pub not_jobless : (j : UnitJobs) → has_job j ≡ true → j ≢ no_jobs
not_jobless j h e = true≢false (sym h ∙ ap has_job e)

-- a unit put into tidy units leaves them tidy
pub tidy_units : (units : ByUnit UnitState) (unit : List ℕ) (u : UnitState) → IsTidy dead_unit units → IsTidy dead_unit (with_unit units unit u)
tidy_units units unit u h = by_test (holds_nothing u) refl
  where
    by_test : (b : Bool) → holds_nothing u ≡ b → IsTidy dead_unit (cond b (map.remove units unit) (map.insert units unit u))
    by_test true e = tidy_removed dead_unit units unit h
    by_test false e = tidy_inserted dead_unit units unit u (not_dead u e) h

pub tidy_jobs : (pending : ByUnit UnitJobs) (unit : List ℕ) (j : UnitJobs) → IsTidy no_jobs pending → IsTidy no_jobs (with_jobs pending unit j)
tidy_jobs pending unit j h = by_test (has_job j) refl
  where
    by_test : (b : Bool) → has_job j ≡ b → IsTidy no_jobs (cond b (map.insert pending unit j) (map.remove pending unit))
    by_test true e = tidy_inserted no_jobs pending unit j (not_jobless j e) h
    by_test false e = tidy_removed no_jobs pending unit h
