use Rattle.std.proofs.Common.{[], rules, sym, append-nil}
use Rattle.um_keeper.specs.Keepers.{has_failed}
use Rattle.um_memory.proofs.Results.{if_ok_with, on_ok, of_step, step_at, works_on}
use Rattle.um_memory.specs.Managers.{state_of, size_of, kept_of}
use Rattle.um_model.specs.Frames.{input_of}
use Rattle.um_state.specs.View as view
use Rattle.um_state.specs.View.{event_of, reply_of}
use Rattle.um_keeper.specs.Keepers.{state_in}
use Rattle.um_memory.proofs.serving.Manager.take_event.Goals as goal

pub returns-in-Err-clause-step : goal.returns-in-Err-clause-step
returns-in-Err-clause-step c =
    let m = c.args.self.now in
    let e = c.in-Err.refusal in
    if_ok_with c.reply_to.result _ _ _ c.reply_to.ensures.told c.reply_to.ensures.step (λ reply told is. (
      [],
      step_at (size_of m) (state_of m) (state_in c.submit.new.self) (view.input_of c.new.result) (input_of (state_of m) c.args.at (event_of c.args.event)) (reply_of reply) e
          (of_step e c.in-Err.ensures.refused is) (search rules) c.in-Err.ensures.state told,
      sym (append-nil (kept_of m)),
    ))

pub returns-in-Err-clause-working : goal.returns-in-Err-clause-working
returns-in-Err-clause-working c =
    on_ok c.reply_to.result _ _ c.reply_to.ensures.step (λ is.
    works_on c.submit.result (has_failed c.args.self.now.keeper) (has_failed c.submit.new.self) c.in-Err.refusal c.in-Err.is c.requires c.submit.ensures.failed is.device)
