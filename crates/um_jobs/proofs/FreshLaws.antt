-- With no pending job all counts are 0 and no job is ready, whichever units count as deactivating.
use Rattle.std.proofs.Common.{◌≡◌, ◌∙◌, ℕ, Bool, true, false, List, length, get_or, replicate, refl, sym, ap, subst, inl, inr, arith}
use Rattle.std.proofs.lemmas.Bool.{cases_lt}
use Rattle.std.proofs.lemmas.List.{get_or-replicate, get_or_past, length-replicate}
use Rattle.um_model.specs.Jobs.{no_jobs}
use Rattle.um_model.specs.declared.jobs.UnitJobs.{UnitJobs}
use Rattle.um_graph.specs.Graph.{GraphView, IsGraph, row_of}
use Rattle.um_graph.specs.Kinds.{after_bit, before_bit, has}
use Rattle.um_graph.specs.declared.row.Neighbour.{Neighbour}
use Rattle.um_jobs.specs.declared.counts.Blockers.{Blockers}
use Rattle.um_jobs.specs.Counts.{Counting, IsKept, ahead, before_start, before_stop, count_before, start_at, stop_at}
use Rattle.um_jobs.specs.Named.{jobs_at}
use Rattle.um_jobs.proofs.KeptLaws.{free_by}
use Rattle.um_jobs.proofs.SumLaws.{sum_most}

alike_at : {A : Type 0} (n : ℕ) (a : A) (u : ℕ) → get_or (replicate n a) u a ≡ a
alike_at n a u = elim (cases_lt u n) as (λ _. get_or (replicate n a) u a ≡ a) [
  | inl h ↦ get_or-replicate n u a a h
  | inr h ↦ get_or_past (replicate n a) u a (omega (arith, length-replicate n a))
]

no_stop : (a b : Bool) → before_stop no_jobs a b ≡ 0
no_stop true b = refl
no_stop false b = refl

no_start : (a b : Bool) → before_start no_jobs a b ≡ 0
no_start true true = refl
no_start true false = refl
no_start false true = refl
no_start false false = refl

abbrev none : Blockers
none = record { stop = 0; start = 0 }

module _ (g : GraphView) (is : IsGraph g) (m : ℕ) (e : m ≡ length g.names) (held : List Bool) (wide : length held ≡ length g.names) where
  none_counted : (counting : Counting) → ((a b : Bool) → counting no_jobs a b ≡ 0) → (u : ℕ) → count_before counting g (replicate m no_jobs) u ≡ 0
  none_counted counting z u =
      let s = sum_most (λ (k : Neighbour). ahead counting (jobs_at (replicate m no_jobs) k.unit) k) 0 (λ k.
      let e : ahead counting (jobs_at (replicate m no_jobs) k.unit) k ≡ 0 = ap (λ j. ahead counting j k) (alike_at m no_jobs k.unit) ∙ z (has before_bit k.kinds) (has after_bit k.kinds) in omega arith) (row_of g.rows u) in omega arith

  fresh_kept : IsKept g (replicate m no_jobs) held (replicate m none) (replicate m false)
  fresh_kept = record {
    graph = is;
    units_long = length-replicate m no_jobs ∙ e;
    held_long = wide;
    counts_long = length-replicate m none ∙ e;
    ready_long = length-replicate m false ∙ e;
    stops = λ u. ap (λ (b : Blockers). b.stop) (alike_at m none u) ∙ sym (none_counted before_stop no_stop u);
    starts = λ u. ap (λ (b : Blockers). b.start) (alike_at m none u) ∙ sym (none_counted before_start no_start u);
    exact = λ u. alike_at m false u ∙ sym (ap (λ j. free_by j (get_or held u false) (stop_at (replicate m none) u) (start_at (replicate m none) u)) (alike_at m no_jobs u));
  }

  pub kept_of_none : (units : List UnitJobs) (counts : List Blockers) (ready : List Bool)
      → units ≡ replicate m no_jobs → counts ≡ replicate m none → ready ≡ replicate m false → IsKept g units held counts ready
  kept_of_none units counts ready a c d =
      subst (λ us. IsKept g us held counts ready) (sym a)
      (subst (λ cs. IsKept g (replicate m no_jobs) held cs ready) (sym c)
      (subst (IsKept g (replicate m no_jobs) held (replicate m none)) (sym d) fresh_kept))

-- the counts of jobs are the counts of the same ones
pub kept_as : (g : GraphView) (units same_units : List UnitJobs) (held same_held : List Bool) (counts same_counts : List Blockers) (ready : List Bool)
    → units ≡ same_units → held ≡ same_held → counts ≡ same_counts → IsKept g units held counts ready → IsKept g same_units same_held same_counts ready
kept_as g units same_units held same_held counts same_counts ready a b d kept =
    subst (λ us. IsKept g us same_held same_counts ready) a
    (subst (λ hs. IsKept g units hs same_counts ready) b
    (subst (λ cs. IsKept g units held cs ready) d kept))
