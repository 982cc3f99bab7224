-- The pending jobs of a unit by its name are those in the list at its number.
use Rattle.std.proofs.Common.{◌≡◌, ◌∙◌, ◌+◌, ◌<◌, ◌≤◌, ℕ, zero, suc, List, [], ◌∷◌, length, set, sym, ap, inl, inr, arith, unwrap_or}
use Rattle.std.proofs.lemmas.Bool.{cases_lt}
use Rattle.std.proofs.lemmas.Grind.{get_or-set_at}
use Rattle.std.proofs.lemmas.List.{ext_get_or, get_or-set_other}
use Rattle.std.specs.FinMap as map
use Rattle.std.specs.Cmp.Lexicographic.{slice_cmp}
use Rattle.std.specs.Ordering.{nat_cmp}
use Rattle.um_model.specs.Jobs.{jobs_of_unit, no_jobs, AreTidyJobs}
use Rattle.um_model.specs.declared.jobs.UnitJobs.{UnitJobs}
use Rattle.um_model.proofs.UnitLaws.{jobs_here, jobs_apart, tidy_empty, tidy_jobs}
use Rattle.um_graph.specs.Named.{name_at}
use Rattle.um_graph.proofs.NamedLaws.{AreOnce, IsApart, first_apart, once_later}
use Rattle.um_jobs.specs.Named.{jobs_at, jobs_by}

nothing_held : (x : List ℕ) → jobs_of_unit map.empty x ≡ no_jobs
nothing_held x = ap (λ o. unwrap_or o no_jobs) (map.get-empty (slice_cmp nat_cmp) x)

pub jobs_by_at : (names : List (List ℕ)) (js : List UnitJobs) → AreOnce names → (i : ℕ) → i < length names → jobs_of_unit (jobs_by names js) (name_at names i) ≡ jobs_at js i
jobs_by_at [] js once i h = absurd (omega arith)
jobs_by_at (n ∷ ns) [] once i h = nothing_held (name_at (n ∷ ns) i)
jobs_by_at (n ∷ ns) (j ∷ js) once zero h = jobs_here (jobs_by ns js) n j
jobs_by_at (n ∷ ns) (j ∷ js) once (suc i) h =
    jobs_apart (jobs_by ns js) n j (name_at ns i) (λ e. first_apart n ns once i (omega arith) (sym e)) ∙ jobs_by_at ns js (once_later n ns once) i (omega arith)

pub jobs_by_none : (names : List (List ℕ)) (js : List UnitJobs) (x : List ℕ) → IsApart names x → jobs_of_unit (jobs_by names js) x ≡ no_jobs
jobs_by_none [] js x a = nothing_held x
jobs_by_none (n ∷ ns) [] x a = nothing_held x
jobs_by_none (n ∷ ns) (j ∷ js) x a = jobs_apart (jobs_by ns js) n j x (λ e. a 0 (omega arith) (sym e)) ∙ jobs_by_none ns js x (λ i h. a (suc i) (omega arith))

pub jobs_by_tidy : (names : List (List ℕ)) (js : List UnitJobs) → AreTidyJobs (jobs_by names js)
jobs_by_tidy [] js = tidy_empty no_jobs
jobs_by_tidy (n ∷ ns) [] = tidy_empty no_jobs
jobs_by_tidy (n ∷ ns) (j ∷ js) = tidy_jobs (jobs_by ns js) n j (jobs_by_tidy ns js)

-- the jobs of the first n units were put, and those of one more
pub put_more : (plan js : List UnitJobs) (n : ℕ) (j : UnitJobs) → ((u : ℕ) → u < n → jobs_at js u ≡ jobs_at plan u) → n < length js → j ≡ jobs_at plan n → (u : ℕ) → u < n + 1 → jobs_at (set js n j) u ≡ jobs_at plan u
put_more plan js n j h l e u k = elim (cases_lt u n) as (λ _. jobs_at (set js n j) u ≡ jobs_at plan u) [
  | inl lower ↦ get_or-set_other js n u j no_jobs (λ s. omega (arith, s, lower)) ∙ h u lower
  | inr past ↦ let at : u ≡ n = omega arith in get_or-set_at js n u j no_jobs at l ∙ (e ∙ ap (jobs_at plan) (sym at))
]

-- and once those of all units were put, they are all
pub all_put : (plan js : List UnitJobs) (n : ℕ) → ((u : ℕ) → u < n → jobs_at js u ≡ jobs_at plan u) → length js ≤ n → length plan ≡ length js → js ≡ plan
all_put plan js n h l e = ext_get_or no_jobs js plan (sym e) (λ u k. h u (omega (arith, k, l)))
