use Rattle.std.proofs.Common.{sym, subst, refl, rules}
use Rattle.std.specs.Bool.{IsTrue}
use Rattle.um_manager.proofs.Letting.{let_go_none, let_go_more}
use Rattle.um_manager.proofs.round.forget_ended.Goals as goal

pub loop-number-preserved : goal.loop-number-preserved
loop-number-preserved g c = record {
  let_go = λ h w. let_go_more _ _ _ _ (c.loop-number.invariant.let_go h (c.forget_one.ensures.children.whole w)) (c.forget_one.ensures.let_go (subst IsTrue (sym c.loop-number.invariant.honest) h) w);
  whole = search rules;
  honest = search rules;
}

pub loop-number-init : goal.loop-number-init
loop-number-init g c = record {
  let_go = λ h w. let_go_none c.args.units.now.held (g.C.Children.past c.args.children.now);
  whole = λ w. w;
  honest = refl;
}
