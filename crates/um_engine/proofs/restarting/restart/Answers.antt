use Rattle.std.proofs.Common.{◌∙◌, Result, Ok, Err, ap, sym}
use Rattle.std.specs.Prelude.{OnOk}
use Rattle.um_model.specs.Jobs.{has_job}
use Rattle.um_state.specs.View.{state_of}
use Rattle.um_falling.proofs.WorkLaws.{keeps_all}
use Rattle.um_engine.proofs.RestartLaws.{restarts_not}
use Rattle.um_engine.proofs.restarting.restart.Goals as goal

-- a property after success that follows from another one
then_ok : {X E P Q : Type 0} (result : Result X E) → (P → Q) → OnOk result P → OnOk result Q
then_ok (Ok x) f p = f p
then_ok (Err e) f p = p

pub returns-then-has_job-clause-state : goal.returns-then-has_job-clause-state
returns-then-has_job-clause-state c = λ name number.
    let w = c.args.work.now in
    restarts_not w.graph (state_of w.now) name c.jobs.result (sym (c.jobs.ensures.jobs name number)) (sym c.has_job.ensures ∙ c.if-has_job.true)

pub returns-then-has_job-clause-keeps : goal.returns-then-has_job-clause-keeps
returns-then-has_job-clause-keeps c = keeps_all c.args.work.now

pub start_in-requires : goal.start_in-requires
start_in-requires c = c.in_ok-jobs.ensures

pub returns-clause-state : goal.returns-clause-state
returns-clause-state c =
    then_ok c.start_in.result
    (λ f name number. f name number (ap has_job (sym (c.jobs.ensures.jobs name number)) ∙ (sym c.has_job.ensures ∙ c.if-has_job.false)))
    c.start_in.ensures.state

pub returns-clause-keeps : goal.returns-clause-keeps
returns-clause-keeps c = c.start_in.ensures.keeps

pub returns-clause-actions : goal.returns-clause-actions
returns-clause-actions c = c.start_in.ensures.actions
