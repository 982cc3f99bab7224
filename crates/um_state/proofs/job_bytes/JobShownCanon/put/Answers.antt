use Rattle.um_state.proofs.Fronts.{both_put, in_front, in_front_of_more}
use Rattle.um_state.proofs.Results.{on_any_err, on_err_more, on_ok_more}
use Rattle.um_state.proofs.job_bytes.JobShownCanon.put.Goals as goal

pub returns-clause-put : goal.returns-clause-put
returns-clause-put c =
    let old = c.args.out.now.items in
    on_ok_more c.put-3.result (λ e. both_put old _ _ _ _ c.in_ok-put.ensures.put (both_put _ _ _ _ _ c.in_ok-put-2.ensures.put e)) c.put-3.ensures.put

pub returns-in_err-put-2-clause-front : goal.returns-in_err-put-2-clause-front
returns-in_err-put-2-clause-front c =
    let old = c.args.out.now.items in
    let f1 = in_front old _ _ c.in_ok-put.ensures.put in
    on_any_err c.from_residual-in_err-put-2.result (in_front_of_more old _ _ f1 c.in_err-put-2.ensures.front)

pub returns-clause-front : goal.returns-clause-front
returns-clause-front c =
    let old = c.args.out.now.items in
    let f1 = in_front old _ _ c.in_ok-put.ensures.put in
    let f2 = in_front_of_more old _ _ f1 (in_front _ _ _ c.in_ok-put-2.ensures.put) in
    on_err_more c.put-3.result (λ f. in_front_of_more old _ _ f2 f) c.put-3.ensures.front
