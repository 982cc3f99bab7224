-- By the counts a unit has a ready job if it has one by its row, and the least such unit has the least ready job.
use Rattle.std.proofs.Common.{◌≡◌, ◌⊎◌, ◌∙◌, ◌+◌, ◌<◌, ◌&&◌, ◌||◌, ◌==◌, ℕ, Bool, true, false, true≢false, cond, not, List, length, get_or, Option, Some, None, is_none, is_some, refl, sym, ap, inl, inr, arith}
use Rattle.std.specs.List.{list_any}
use Rattle.um_model.specs.Jobs.{IsToldBefore, Job}
use Rattle.um_model.specs.Least.{IsLeast}
use Rattle.um_model.specs.Machine.{is_waiting}
use Rattle.um_model.specs.declared.jobs.JobKind.{JobKind}
use Rattle.um_model.specs.declared.jobs.JobKind.TheVariants.{Stop, Start}
use Rattle.um_model.specs.declared.jobs.UnitJobs.{UnitJobs}
use Rattle.um_graph.specs.Graph.{GraphView, row_of}
use Rattle.um_graph.specs.Kinds.{after_bit, before_bit, has}
use Rattle.um_jobs.specs.declared.counts.Blockers.{Blockers}
use Rattle.um_jobs.specs.Counts.{IsKept, ahead, before_start, before_stop, count_before, is_start_free, is_stop_free, one_if}
use Rattle.um_jobs.specs.Jobs.{IsReadyIn, JobsView, held_at, job_named}
use Rattle.um_jobs.specs.Least.{IsLeastIn, IsNone}
use Rattle.um_jobs.specs.Named.{jobs_at}
use Rattle.um_jobs.specs.RowReady.{holds_start, holds_stop, is_start_ready, is_stop_ready, ready_kind}
use Rattle.um_jobs.proofs.ReadyLaws.{none_ready, ready_least}
use Rattle.um_jobs.proofs.SumLaws.{counts_none, other_number, same_number}

abbrev Tells : Bool → ℕ → Type 0
Tells b n = (b ≡ true) × (0 < n) ⊎ (b ≡ false) × (n ≡ 0)

one_tells : (b : Bool) → Tells b (one_if b)
one_tells true = inl (refl, omega arith)
one_tells false = inr (refl, refl)

two_tell : (a b : Bool) → Tells (a || b) (one_if a + one_if b)
two_tell true true = inl (refl, omega arith)
two_tell true false = inl (refl, omega arith)
two_tell false true = inl (refl, omega arith)
two_tell false false = inr (refl, refl)

-- a count is 0 if the test finds nothing
zero_told : (b : Bool) (n : ℕ) → Tells b n → (n == 0) ≡ not b
zero_told b n (inl h) = other_number n 0 (λ e. absurd (omega (arith, h.1, e))) ∙ sym (ap not h.0)
zero_told b n (inr h) = same_number n 0 h.1 ∙ sym (ap not h.0)

abbrev kind_by : Bool → Bool → Option JobKind
kind_by a b = cond a (Some Stop) (cond b (Some Start) None)

module _ (g : GraphView) (units : List UnitJobs) (held : List Bool) (counts : List Blockers) (ready : List Bool) (k : IsKept g units held counts ready) where
  abbrev v : JobsView
  v = record { graph = g; units = units; held = held }

  stop_same : (u : ℕ) → is_stop_free units counts u ≡ is_stop_ready g v.units u
  stop_same u = ap (λ b. is_waiting (jobs_at units u).stop && b)
      (ap (λ n. n == 0) (k.stops u) ∙ zero_told (list_any (holds_stop units) (row_of g.rows u)) (count_before before_stop g units u)
      (counts_none (λ n. ahead before_stop (jobs_at units n.unit) n) (holds_stop units) (λ n. one_tells (holds_stop units n)) (row_of g.rows u)))

  start_same : (u : ℕ) → is_start_free units held counts u ≡ is_start_ready g v.units v.held u
  start_same u = ap (λ b. is_waiting (jobs_at units u).start && (is_none (jobs_at units u).stop && (not (held_at held u) && b)))
      (ap (λ n. n == 0) (k.starts u) ∙ zero_told (list_any (holds_start units) (row_of g.rows u)) (count_before before_start g units u)
      (counts_none (λ n. ahead before_start (jobs_at units n.unit) n) (holds_start units)
      (λ n. two_tell (has after_bit n.kinds && is_some (jobs_at units n.unit).start) ((has before_bit n.kinds || has after_bit n.kinds) && is_some (jobs_at units n.unit).stop)) (row_of g.rows u)))

  marked : (u : ℕ) → get_or ready u false ≡ (is_stop_ready g v.units u || is_start_ready g v.units v.held u)
  marked u = k.exact u ∙ (λ i. stop_same u i || start_same u i)

  unmarked : (u : ℕ) → get_or ready u false ≡ false → ready_kind g v u ≡ None
  unmarked u e = by (is_stop_ready g v.units u) (is_start_ready g v.units v.held u) (sym (marked u) ∙ e)
    where
      by : (a b : Bool) → (a || b) ≡ false → kind_by a b ≡ None
      by true b f = absurd (true≢false f)
      by false true f = absurd (true≢false f)
      by false false f = refl

  kind_stop : (u : ℕ) → is_stop_free units counts u ≡ true → ready_kind g v u ≡ Some Stop
  kind_stop u e = ap (λ a. kind_by a (is_start_ready g v.units v.held u)) (sym (stop_same u) ∙ e)

  kind_start : (u : ℕ) → is_stop_free units counts u ≡ false → get_or ready u false ≡ true → ready_kind g v u ≡ Some Start
  kind_start u e f = by (is_stop_ready g v.units u) (is_start_ready g v.units v.held u) (sym (stop_same u) ∙ e) (sym (marked u) ∙ f)
    where
      by : (a b : Bool) → a ≡ false → (a || b) ≡ true → kind_by a b ≡ Some Start
      by true b e f = absurd (true≢false e)
      by false true e f = refl
      by false false e f = absurd (true≢false (sym f))

  within : (u : ℕ) → IsLeastIn ready u → u < length g.names
  within u l = let h = l.within in let e = k.ready_long in omega arith

  pub stop_least : (u : ℕ) → IsLeastIn ready u → is_stop_free units counts u ≡ true → IsLeast IsToldBefore (IsReadyIn g v) (job_named g u Stop)
  stop_least u l e = ready_least g k.graph v u (within u l) Stop (kind_stop u e) (λ w h. unmarked w (l.first w h))

  pub start_least : (u : ℕ) → IsLeastIn ready u → is_stop_free units counts u ≡ false → IsLeast IsToldBefore (IsReadyIn g v) (job_named g u Start)
  start_least u l e = ready_least g k.graph v u (within u l) Start (kind_start u e l.has) (λ w h. unmarked w (l.first w h))

  pub none_least : IsNone ready → (job : Job) → ¬ IsReadyIn g v job
  none_least none = none_ready g k.graph v (λ w h. unmarked w (none w (let e = k.ready_long in omega arith)))
