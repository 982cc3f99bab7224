use Rattle.std.proofs.Common.{rules, sym, subst}
use Rattle.std.specs.Bool.{IsTrue}
use Rattle.um_manager.specs.Orders.{Grew}
use Rattle.um_manager.proofs.Carrying.{grew_none, grew_more}
use Rattle.um_manager.proofs.orders.carry_out.Goals as goal

pub returns-clause-carries : goal.returns-clause-carries
returns-clause-carries g c = c.loop-handed.invariant.done _ _ _ (λ x. x) (λ h w. subst (λ xs. Grew c.args.units.now.held (g.C.Children.past c.loop-handed.children) (g.C.Children.past c.loop-handed.children) c.loop-handed.marks c.loop-handed.marks xs) (sym c.in_default.ensures.actions.0) (grew_none c.args.units.now.held (g.C.Children.past c.loop-handed.children) c.loop-handed.marks))

pub loop-handed-preserved : goal.loop-handed-preserved
loop-handed-preserved g c = record {
  done = λ past marks b w h. c.loop-handed.invariant.done past marks b (λ t. c.ask.ensures.children.whole (w t)) (λ ho wh. subst (λ xs. Grew c.args.units.now.held (g.C.Children.past c.loop-handed.children) past c.loop-handed.marks marks xs) (sym c.in-Some.ensures.actions)
      (grew_more _ _ _ _ _ _ _ _ _ (c.ask.ensures.carries ho (w wh)) (h (subst IsTrue (sym c.ask.ensures.children.honest) ho) wh)));
  whole = search rules;
  honest = search rules;
  reply = search rules;
}
