use Rattle.std.proofs.Common.{◌∙◌, ◌++◌, ◌∷◌, [], take, ap, refl, sym, subst, rules}
use Rattle.std.specs.Bool.{IsTrue}
use Rattle.std.proofs.lemmas.List.{take_more}
use Rattle.um_manager.specs.Opening.{Signalled}
use Rattle.um_manager.proofs.Adoption.{signalled_none, signalled_more}
use Rattle.um_manager.proofs.opening.signal_all.Goals as goal

pub loop-number-preserved : goal.loop-number-preserved
loop-number-preserved g c = record {
  done = λ h w. subst (λ ns. Signalled c.args.units.now.held c.args.sub c.args.signal ns (g.C.Children.past c.args.children.now) (g.C.Children.past c.signal_one.new.children))
      (ap (λ m. take c.loop-number.number-index c.args.numbers.now ++ m ∷ []) (search rules) ∙ sym (take_more c.args.numbers.now c.loop-number.number-index c.number-item.result c.loop-number-test.true))
      (signalled_more _ _ _ _ _ _ _ _ (c.loop-number.invariant.done h (c.signal_one.ensures.children.whole w)) (c.signal_one.ensures.signals (subst IsTrue (sym c.loop-number.invariant.honest) h) w));
  whole = search rules;
  honest = search rules;
}

pub loop-number-init : goal.loop-number-init
loop-number-init g c = record {
  done = λ h w. signalled_none c.args.units.now.held c.args.sub c.args.signal (g.C.Children.past c.args.children.now);
  whole = λ w. w;
  honest = refl;
}
