-- A list of jobs that is read, if they ascend.
use Rattle.std.proofs.Common.{◌≡◌, ℕ, true, false, List, Some, None, refl}
use Rattle.um_model.specs.Bytes.{list_at}
use Rattle.um_model.specs.Jobs.{JobShown}
use Rattle.um_model.specs.StateSpellings.{job_at, jobs_ascend, pending_at, pending_of}

module _ (bytes : List ℕ) (jobs : List JobShown) (rest : List ℕ) where
  pub jobs_here : list_at job_at bytes ≡ Some (jobs, rest) → jobs_ascend jobs ≡ true → pending_at bytes ≡ Some (pending_of jobs, rest)
  jobs_here read ordered = rw (read, ordered) refl

  pub jobs_unordered : list_at job_at bytes ≡ Some (jobs, rest) → jobs_ascend jobs ≡ false → pending_at bytes ≡ None
  jobs_unordered read unordered = rw (read, unordered) refl
