use Rattle.std.proofs.Common.{◌∙◌, ◌++◌, ◌∷◌, [], take, ap, sym, subst, true, rules}
use Rattle.std.specs.Bool.{IsTrue}
use Rattle.std.proofs.lemmas.List.{take_more}
use Rattle.um_fates.specs.Fates.{Heard, inputs_in, lost}
use Rattle.um_fates.proofs.Hearing.{heard_more}
use Rattle.um_fates.proofs.fates.claim_all.Goals as goal

pub loop-number-preserved : goal.loop-number-preserved
loop-number-preserved g c = record {
  done = subst (λ ns. Heard lost c.args.moment (λ n. true) (g.C.Children.honest c.args.children.now) (g.C.Children.whole c.hear_one.new.children) (g.C.Children.past c.args.children.now) (g.C.Children.past c.hear_one.new.children) ns (inputs_in c.args.inputs.now.items) (inputs_in c.hear_one.new.inputs.items))
      (ap (λ m. take c.loop-number.number-index c.args.live.now ++ m ∷ []) (search rules) ∙ sym (take_more c.args.live.now c.loop-number.number-index c.number-item.result c.loop-number-test.true))
      (heard_more _ _ _ _ _ _ _ _ _ _ _ _ _ _ _ (subst IsTrue (sym c.loop-number.invariant.honest)) c.hear_one.ensures.children.whole c.loop-number.invariant.done c.hear_one.ensures.hears);
  len = search rules;
  capacity = search rules;
  whole = search rules;
  honest = search rules;
}
