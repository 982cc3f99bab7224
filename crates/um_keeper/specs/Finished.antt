-- A oneshot that finished isn't started again in a run.
-- Follows systemd.service(5), "Type=oneshot", and systemctl(1), "start".
-- The law of finished oneshots over all crashes depends on this file.
use Rattle.std.specs.Prelude.{◌≡◌, ◌⊎◌, ⊤, ℕ, List, None, Contains}
use Rattle.um_model.specs.Begun.{jobs_begun_in}
use Rattle.um_model.specs.Finished.{Finishes, PutsStart}
use Rattle.um_model.specs.Jobs.{start_job, jobs_of_unit}
use Rattle.um_model.specs.Machine.{State, Input, Run, goes}

-- no start of the unit begins in the run before a command puts one
abbrev pub WaitsForCommand : (unit : List ℕ) → {size : ℕ} {s t : State} {inputs : List Input} → Run size s inputs t → Type 0
WaitsForCommand unit Run.rests = ⊤
WaitsForCommand unit (goes {s = s} {input = input} reply actions step run) =
    PutsStart unit s input reply ⊎ (¬ Contains (jobs_begun_in step) (start_job unit)) × WaitsForCommand unit run

-- wherever in the run a oneshot finishes and no start of it is pending then, none begins later before a command puts one
abbrev pub RepeatsNone : {size : ℕ} {s t : State} {inputs : List Input} → Run size s inputs t → Type 0
RepeatsNone Run.rests = ⊤
RepeatsNone (goes {s = s} {t = t} reply actions step run) =
    ((unit : List ℕ) → Finishes s t unit → (jobs_of_unit t.pending unit).start ≡ None → WaitsForCommand unit run) × RepeatsNone run
