use Rattle.um_state.proofs.Fronts.{in_front, in_front_of_more}
use Rattle.um_state.proofs.Results.{on_err_more}
use Rattle.um_state.proofs.input.Command.put_fields.Goals as goal

pub returns-in_ok-put-in-PutFile-clause-front : goal.returns-in_ok-put-in-PutFile-clause-front
returns-in_ok-put-in-PutFile-clause-front c =
    let f1 = in_front c.args.out.now.items _ _ c.in_ok-put-in-PutFile.ensures.put in
    on_err_more c.put-in-PutFile.result (λ f. in_front_of_more _ _ _ f1 f) c.put-in-PutFile.ensures.front

pub returns-in_ok-put-in-PutLink-clause-front : goal.returns-in_ok-put-in-PutLink-clause-front
returns-in_ok-put-in-PutLink-clause-front c =
    let f1 = in_front c.args.out.now.items _ _ c.in_ok-put-in-PutLink.ensures.put in
    on_err_more c.put-in-PutLink-2.result (λ f. in_front_of_more _ _ _ f1 f) c.put-in-PutLink-2.ensures.front

pub returns-in_ok-put-in-ForUnit-clause-front : goal.returns-in_ok-put-in-ForUnit-clause-front
returns-in_ok-put-in-ForUnit-clause-front c =
    let f1 = in_front c.args.out.now.items _ _ c.in_ok-put-in-ForUnit.ensures.put in
    on_err_more c.put-in-ForUnit-2.result (λ f. in_front_of_more _ _ _ f1 f) c.put-in-ForUnit-2.ensures.front
