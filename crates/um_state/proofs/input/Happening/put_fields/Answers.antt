use Rattle.um_state.proofs.Fronts.{in_front, in_front_of_more}
use Rattle.um_state.proofs.Results.{on_err_more}
use Rattle.um_state.proofs.input.Happening.put_fields.Goals as goal

pub returns-in_ok-put-in-ProcessEnded-clause-front : goal.returns-in_ok-put-in-ProcessEnded-clause-front
returns-in_ok-put-in-ProcessEnded-clause-front c =
    let f1 = in_front c.args.out.now.items _ _ c.in_ok-put-in-ProcessEnded.ensures.put in
    on_err_more c.put-in-ProcessEnded.result (λ f. in_front_of_more _ _ _ f1 f) c.put-in-ProcessEnded.ensures.front
