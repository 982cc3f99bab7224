use Rattle.std.proofs.Common.{ℕ, List, [], ◌∷◌, ◌++◌, ap, ◌∙◌}
use Rattle.um_model.specs.InputSpellings.{event_fields, event_tag}
use Rattle.um_model.specs.Spellings.{profile_tag}
use Rattle.um_state.proofs.Fronts.{both_put, in_front, in_front_of_more}
use Rattle.um_state.proofs.Results.{on_any_err, on_err_more, on_ok_more}
use Rattle.um_state.proofs.StateFields.{eight_bytes}
use Rattle.um_state.specs.View.{event_of}
use Rattle.um_state.proofs.input_bytes.InputCanon.put.Goals as goal

pub returns-clause-put : goal.returns-clause-put
returns-clause-put c =
    let old = c.args.out.now.items in
    let event = event_of c.args.self.now.event in
    let one = c.push.new.self.items in
    let two = c.push-2.new.self.items in
    let three = c.put.new.out.items in
    let all = c.put_fields.new.out.items in
    let mark = profile_tag c.args.self.now.profile in
    let first = ◌∙◌ {A = List ℕ} c.in_ok-push.ensures.items (ap (λ t. old ++ t ∷ []) c.tag.ensures) in
    let tag = ◌∙◌ {A = List ℕ} c.in_ok-push-2.ensures.items (ap (λ t. one ++ t ∷ []) c.tag-2.ensures) in
    let moment = eight_bytes c.args.self.now.moment in
    on_ok_more c.put_fields.result
    (λ fields. both_put old (mark ∷ []) (event_tag event ∷ (moment ++ event_fields event)) one all first
    (both_put one (event_tag event ∷ []) (moment ++ event_fields event) two all tag
    (both_put two moment (event_fields event) three all c.in_ok-put.ensures.put fields))) c.put_fields.ensures.put

pub returns-in_err-put-clause-front : goal.returns-in_err-put-clause-front
returns-in_err-put-clause-front c =
    let old = c.args.out.now.items in
    let f1 = in_front old _ _ c.in_ok-push.ensures.items in
    let f2 = in_front_of_more old _ _ f1 (in_front _ _ _ c.in_ok-push-2.ensures.items) in
    on_any_err c.from_residual-in_err-put.result (in_front_of_more old _ _ f2 c.in_err-put.ensures.front)

pub returns-clause-front : goal.returns-clause-front
returns-clause-front c =
    let old = c.args.out.now.items in
    let f1 = in_front old _ _ c.in_ok-push.ensures.items in
    let f2 = in_front_of_more old _ _ f1 (in_front _ _ _ c.in_ok-push-2.ensures.items) in
    let f3 = in_front_of_more old _ _ f2 (in_front _ _ _ c.in_ok-put.ensures.put) in
    on_err_more c.put_fields.result (λ f. in_front_of_more old _ _ f3 f) c.put_fields.ensures.front
