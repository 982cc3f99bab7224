-- Rows that are put one after another in place of the old ones, and the delta that results.
use Rattle.std.proofs.Common.{◌≡◌, ◌∙◌, ◌+◌, ◌<◌, ◌≤◌, ℕ, true, List, length, set, get_or, sym, ap, inl, inr, arith}
use Rattle.std.proofs.lemmas.Bool.{cases_eq}
use Rattle.std.proofs.lemmas.List.{get_or-set_same, get_or-set_other, get_or_default, length-set, same_lists}
use Rattle.um_model.specs.Jobs.{no_jobs, with_jobs}
use Rattle.um_model.specs.Service.{dead_unit, with_unit}
use Rattle.um_model.specs.Standing.{Standing}
use Rattle.um_model.specs.declared.jobs.UnitJobs.{UnitJobs}
use Rattle.um_model.specs.declared.service.UnitState.{UnitState}
use Rattle.um_name.specs.Names.{AreAscending}
use Rattle.um_state.specs.Rows.{timed}
use Rattle.um_state.specs.Tables.{jobs_by, units_by}
use Rattle.um_state.specs.View.{state_of}
use Rattle.um_state.specs.Working.{AreRowsOf, WorkView, jobs_set, next_set, unit_set, with_rows}
use Rattle.um_state.specs.declared.row.Numbered.{Numbered}
use Rattle.um_state.proofs.PutLaws.{jobs_put_well, units_put}
use Rattle.um_state.proofs.TableLaws.{row_set}
use Rattle.um_engine.specs.Engine.{HasSameTreesAndNames}

-- the first n of these rows stand in the work, in place of those it began with
pub record HasPut (b : Standing) (units : List UnitState) (jobs : List UnitJobs) (n : ℕ) (w : WorkView) : Type 0 where
  pub now_units : List UnitState
  pub now_jobs : List UnitJobs
  pub units_len : length now_units ≡ length b.names
  pub jobs_len : length now_jobs ≡ length b.names
  pub sorted : AreAscending b.names
  pub base : w.base ≡ b
  pub now : w.now ≡ with_rows b now_units now_jobs (state_of b).next
  pub units_put : (i : ℕ) (d : UnitState) → i < n → get_or now_units i d ≡ get_or units i d
  pub jobs_put : (i : ℕ) (d : UnitJobs) → i < n → get_or now_jobs i d ≡ get_or jobs i d

-- a state with its own rows
own_rows : (b : Standing) (was : Numbered) → AreRowsOf b was → b ≡ with_rows b was.units.now was.jobs.now (state_of b).next
own_rows b was are =
    ap (λ m. record b { state = record b.state { pending = m } }) (sym are.pending)
    ∙ ap (λ m. record b { state = record b.state { units = m; pending = jobs_by b.names was.jobs.now } }) (sym are.units)

pub none_put : (b : Standing) (units : List UnitState) (jobs : List UnitJobs) (was : Numbered) (w : WorkView) → AreRowsOf b was → w.base ≡ b → w.now ≡ w.base → HasPut b units jobs 0 w
none_put b units jobs was w are base now = record {
  now_units = was.units.now;
  now_jobs = was.jobs.now;
  units_len = are.units_len;
  jobs_len = are.jobs_len;
  sorted = are.ascending;
  base = base;
  now = now ∙ (base ∙ own_rows b was are);
  units_put = λ i d h. absurd (omega (arith, h));
  jobs_put = λ i d h. absurd (omega (arith, h));
}

module _ {A : Type 0} (xs rows : List A) (n : ℕ) (x e : A) (within : n < length xs) (is : x ≡ get_or rows n e) (inside : n < length rows)
    (each : (i : ℕ) (d : A) → i < n → get_or xs i d ≡ get_or rows i d) where
  pub put_there : (i : ℕ) (d : A) → i < n + 1 → get_or (set xs n x) i d ≡ get_or rows i d
  put_there i d h = elim (cases_eq i n) as (λ _. get_or (set xs n x) i d ≡ get_or rows i d) [
    | inl same ↦
        ap (λ k. get_or (set xs n x) k d) same
        ∙ (get_or-set_same xs n x d within ∙ (is ∙ (get_or_default rows n e d inside ∙ ap (λ k. get_or rows k d) (sym same))))
    | inr other ↦ get_or-set_other xs n i x d other ∙ each i d (omega (arith, h, other))
  ]

module _ (b : Standing) (units : List UnitState) (jobs : List UnitJobs) (n : ℕ) (w v x : WorkView) (u e : UnitState) (j f : UnitJobs) (at : HasPut b units jobs n w) (low : n < length b.names)
    (units_len : length units ≡ length b.names) (jobs_len : length jobs ≡ length b.names) (is_unit : u ≡ get_or units n e) (are_jobs : j ≡ get_or jobs n f)
    (first : v.base ≡ w.base) (second : x.base ≡ v.base) (put_unit : v.now ≡ unit_set w.now n u) (put_jobs : x.now ≡ jobs_set v.now n j) where
  unit_there : v.now ≡ with_rows b (set at.now_units n u) at.now_jobs (state_of b).next
  unit_there =
      put_unit
      ∙ (ap (λ (s : Standing). unit_set s n u) at.now
      ∙ ap (λ m. record b { state = record b.state { units = m; pending = jobs_by b.names at.now_jobs } })
      (sym (row_set dead_unit with_unit units_put b.names at.now_units at.sorted at.units_len n u (omega (arith, at.units_len, low)))))

  jobs_there : x.now ≡ with_rows b (set at.now_units n u) (set at.now_jobs n j) (state_of b).next
  jobs_there =
      put_jobs
      ∙ (ap (λ (s : Standing). jobs_set s n j) unit_there
      ∙ ap (λ m. record b { state = record b.state { units = units_by b.names (set at.now_units n u); pending = m } })
      (sym (row_set no_jobs with_jobs jobs_put_well b.names at.now_jobs at.sorted at.jobs_len n j (omega (arith, at.jobs_len, low)))))

  pub more_put : HasPut b units jobs (n + 1) x
  more_put = record {
    now_units = set at.now_units n u;
    now_jobs = set at.now_jobs n j;
    units_len = length-set at.now_units n u ∙ at.units_len;
    jobs_len = length-set at.now_jobs n j ∙ at.jobs_len;
    sorted = at.sorted;
    base = second ∙ (first ∙ at.base);
    now = jobs_there;
    units_put = put_there at.now_units units n u e (omega (arith, at.units_len, low)) is_unit (omega (arith, units_len, low)) at.units_put;
    jobs_put = put_there at.now_jobs jobs n j f (omega (arith, at.jobs_len, low)) are_jobs (omega (arith, jobs_len, low)) at.jobs_put;
  }

pub all_put : (b : Standing) (units : List UnitState) (jobs : List UnitJobs) (n : ℕ) (w : WorkView) → length units ≡ length b.names → length jobs ≡ length b.names → length b.names ≤ n
    → HasPut b units jobs n w → w.now ≡ with_rows b units jobs (state_of b).next
all_put b units jobs n w units_len jobs_len past at =
    at.now
    ∙ (ap (λ us. with_rows b us at.now_jobs (state_of b).next)
    (same_lists at.now_units units (at.units_len ∙ sym units_len) (λ k d h. at.units_put k d (omega (arith, h, at.units_len, past))))
    ∙ ap (λ js. with_rows b units js (state_of b).next)
    (same_lists at.now_jobs jobs (at.jobs_len ∙ sym jobs_len) (λ k d h. at.jobs_put k d (omega (arith, h, at.jobs_len, past)))))

same_standing : (s t : Standing) → s.state.tree ≡ t.state.tree → s.state.loaded ≡ t.state.loaded → s.state.boot ≡ t.state.boot → s.state.clock ≡ t.state.clock → s.state.next ≡ t.state.next
    → s.state.units ≡ t.state.units → s.state.pending ≡ t.state.pending → s.common ≡ t.common → s.names ≡ t.names → s ≡ t
same_standing s t tree loaded boot clock next units pending common names = λ i. record {
  state = record { tree = tree i; loaded = loaded i; boot = boot i; clock = clock i; next = next i; units = units i; pending = pending i };
  common = common i;
  names = names i;
}

-- the rows of another state that has the same tables lead to it
pub leads_to : (b t d : Standing) (rows : Numbered) (v w x : WorkView) (clock next : ℕ) → HasSameTreesAndNames b t → b.common ≡ true → AreRowsOf t rows → v.base ≡ b → w.base ≡ v.base
    → w.now ≡ with_rows v.base rows.units.now rows.jobs.now (state_of v.base).next → x.base ≡ w.base → x.now ≡ next_set w.now next → clock ≡ (state_of t).clock → next ≡ (state_of t).next
    → d ≡ timed clock (state_of x.now).next x.now → d ≡ t
leads_to b t d rows v w x clock next same common are first second put third set at is made =
    let there : x.now ≡ next_set (with_rows b rows.units.now rows.jobs.now (state_of b).next) next =
    set ∙ ap (λ (s : Standing). next_set s next) (put ∙ ap (λ (s : Standing). with_rows s rows.units.now rows.jobs.now (state_of s).next) first) in
    let so : d ≡ timed clock next (with_rows b rows.units.now rows.jobs.now (state_of b).next) = made ∙ ap (λ (s : Standing). timed clock (state_of s).next s) there in
    so
    ∙ same_standing (timed clock next (with_rows b rows.units.now rows.jobs.now (state_of b).next)) t (sym same.tree) (sym same.loaded) (sym same.boot) at is
    (ap (λ ns. units_by ns rows.units.now) (sym same.names) ∙ are.units) (ap (λ ns. jobs_by ns rows.jobs.now) (sym same.names) ∙ are.pending) (common ∙ sym are.common) (sym same.names)
