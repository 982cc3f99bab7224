use Rattle.std.proofs.Common.{◌++◌, ◌∙◌, map, append_assoc, ◌∷◌, ◌≡◌, [], sym, ap, subst, rules}
use Rattle.std.specs.Bool.{IsTrue}
use Rattle.std.specs.Vec.Iter.{into_iter_items}
use Rattle.um_keeper.specs.Answering.{all_asked}
use Rattle.um_state.specs.View.{reply_of}
use Rattle.um_manager.specs.Orders.{Grew}
use Rattle.um_manager.specs.Replies.{reply_in}
use Rattle.um_manager.proofs.Carrying.{grew_none, grew_more, nil_of}
use Rattle.um_manager.proofs.orders.carry_all.Goals as goal

pub returns-clause-carries : goal.returns-clause-carries
returns-clause-carries g c =
    let e : into_iter_items c.loop-answer.rest ≡ [] = nil_of _ (search (rules, c.loop-answer.rest.rest.ok)) in
    c.loop-answer.invariant.done _ _ _ (λ x. x) (λ h w. subst (λ xs. Grew c.args.units.now.held (g.C.Children.past c.loop-answer.children) (g.C.Children.past c.loop-answer.children) c.loop-answer.marks c.loop-answer.marks (all_asked xs)) (sym e) (grew_none c.args.units.now.held (g.C.Children.past c.loop-answer.children) c.loop-answer.marks))

pub loop-answer-preserved : goal.loop-answer-preserved
loop-answer-preserved g c =
    let e : into_iter_items c.loop-answer.rest ≡ c.in-Some.answer ∷ into_iter_items c.next.new.self = search rules in
    record {
      done = λ past marks b w h. c.loop-answer.invariant.done past marks b (λ t. c.carry_one-reply.ensures.children.whole (w t)) (λ ho wh. subst (λ xs. Grew c.args.units.now.held (g.C.Children.past c.loop-answer.children) past c.loop-answer.marks marks (all_asked xs)) (sym e)
          (grew_more _ _ _ _ _ _ _ _ _ (c.carry_one-reply.ensures.carries ho (w wh)) (h (subst IsTrue (sym c.carry_one-reply.ensures.children.honest) ho) wh)));
      whole = search rules;
      honest = search rules;
      replies = ap (λ l. l ++ map reply_in (into_iter_items c.next.new.self)) (c.put_reply.ensures.items ∙ ap (λ r. map reply_of c.loop-answer.replies.items ++ r ∷ []) c.carry_one-reply.ensures.reply)
          ∙ append_assoc (map reply_of c.loop-answer.replies.items) (reply_in c.in-Some.answer ∷ []) (map reply_in (into_iter_items c.next.new.self))
          ∙ ap (λ xs. map reply_of c.loop-answer.replies.items ++ map reply_in xs) (sym e) ∙ c.loop-answer.invariant.replies;
      room = search rules;
    }
