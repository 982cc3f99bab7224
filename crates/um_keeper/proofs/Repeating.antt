-- A finished oneshot isn't started again: no start of a unit at rest begins, and it stays at rest, until a command puts one.
use Rattle.std.proofs.Common.{ℕ, ◌≡◌, List, None, inl, inr}
use Rattle.um_model.specs.Disk.{Image}
use Rattle.um_model.specs.Finished.{Finishes, IsAtRest}
use Rattle.um_model.specs.Jobs.{jobs_of_unit}
use Rattle.um_model.specs.Lives.{Life, Lived, AreKept}
use Rattle.um_model.specs.Machine.{State, Input, Run, goes}
use Rattle.um_model.specs.Stands.{IsStoreOf}
use Rattle.um_model.specs.Store.{body_limit}
use Rattle.um_model.specs.declared.layout.Layout.{Layout}
use Rattle.um_laws.proofs.FinishedLaws.{step_rests, finished_is_at_rest}
use Rattle.um_laws.proofs.LivesLaws.{lives_from}
use Rattle.um_keeper.specs.Finished.{WaitsForCommand, RepeatsNone}

-- no start of a unit at rest begins before a command puts one
pub run_waits : (unit : List ℕ) {size : ℕ} {s t : State} {inputs : List Input} (run : Run size s inputs t) → IsAtRest s unit → WaitsForCommand unit run
run_waits unit Run.rests rest = tt
run_waits unit (goes reply actions step run) rest = elim (step_rests unit step rest) [
  | inl (none, rests) ↦ inr (none, run_waits unit run rests)
  | inr puts ↦ inl puts
]

-- no run repeats a oneshot that finished
pub repeats_none : {size : ℕ} {s t : State} {inputs : List Input} (run : Run size s inputs t) → RepeatsNone run
repeats_none Run.rests = tt
repeats_none (goes {s = s} {t = t} reply actions step run) = (waits, repeats_none run)
  where
    waits : (unit : List ℕ) → Finishes s t unit → (jobs_of_unit t.pending unit).start ≡ None → WaitsForCommand unit run
    waits unit finishes none = run_waits unit run (finished_is_at_rest s t unit finishes none)

-- nor does the one run over all that was kept of any lives
pub lives_repeat_none : (layout : Layout) (first last : Image) (all : List Life) (s : State) → IsStoreOf layout first s → Lived layout first all last
    → (kept : List Input) × AreKept all kept × (t : State) × (run : Run (body_limit layout) s kept t) × RepeatsNone run
    × ((unit : List ℕ) → IsAtRest s unit → WaitsForCommand unit run) × IsStoreOf layout last t
lives_repeat_none layout first last all s store led =
    let (kept, are, t, run, stands) = lives_from layout first last all s store led in
    (kept, are, t, run, repeats_none run, (λ unit rest. run_waits unit run rest), stands)
