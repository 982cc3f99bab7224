use Rattle.std.proofs.Common.{sym, subst}
use Rattle.std.specs.Bool.{IsTrue}
use Rattle.um_manager.proofs.opening.end_all.Goals as goal

pub returns-clause-ends : goal.returns-clause-ends
returns-clause-ends g c = λ h w.
    let last = c.forget_ended.ensures.children.whole w in
    let next = subst IsTrue (sym c.signal_all.ensures.children.honest) h in
    record {
      termed = g.C.Children.past c.signal_all.new.children;
      terms = c.signal_all.ensures.signals h (c.signal_all-2.ensures.children.whole last);
      killed = g.C.Children.past c.signal_all-2.new.children;
      kills = c.signal_all-2.ensures.signals next last;
      let_go = c.forget_ended.ensures.let_go (subst IsTrue (sym c.signal_all-2.ensures.children.honest) next) w;
    }
