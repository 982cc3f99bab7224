use Rattle.std.proofs.Common.{inl, inr, ⊎_elim, ap}
use Rattle.um_model.specs.Standing.{Standing}
use Rattle.um_state.specs.View.{input_of}
use Rattle.um_keeper.specs.Keepers.{disk_in, has_failed, layout_in, size_in, state_in}
use Rattle.um_keeper.proofs.Offered.{step_goes_on}
use Rattle.um_keeper.proofs.Results.{err_more, if_err_from, or_more}
use Rattle.um_keeper.proofs.keeper.Keeper.submit.Goals as goal

pub returns-clause-state : goal.returns-clause-state
returns-clause-state g c = err_more c.take_step-answer.result (ap (λ (x : Standing). x.state)) c.take_step-answer.ensures.state

pub returns-clause-kept : goal.returns-clause-kept
returns-clause-kept g c = if_err_from c.take_step-answer.result _ _ (λ e. ⊎_elim (λ device. inl device) (λ still. inr (inr still))) c.take_step-answer.ensures.kept

pub returns-clause-refused : goal.returns-clause-refused
returns-clause-refused g c = if_err_from c.take_step-answer.result _ _ (λ e. ⊎_elim (λ lost. inl lost) (λ other. inr (inr other))) c.take_step-answer.ensures.refused

pub returns-clause-life : goal.returns-clause-life
returns-clause-life g c s before f h come =
    let first = c.args.self.now in
    let last = c.take_step-answer.new.self in
    let done = c.take_step-answer.ensures in
    step_goes_on (layout_in first) (size_in first) s (state_in first) (state_in last) before (input_of c.args.input) c.take_step-answer.result (g.D.Disk.past (disk_in first)) (g.D.Disk.past (disk_in last)) (has_failed last)
    first.holds.size_is come (done.during h) done.ok done.accepted (if_err_from c.take_step-answer.result _ _ (λ e. or_more (λ still. still h)) done.kept) done.refused (λ device. done.failed.1 device) (λ works. done.stored works h)
    (err_more c.take_step-answer.result (ap (λ (x : Standing). x.state)) done.state)
