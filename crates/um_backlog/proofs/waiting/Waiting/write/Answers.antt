use Rattle.std.proofs.Common.{◌≡◌, ◌-◌, ◌∷◌, [], ◌++◌, length, drop, take, ap, ◌∙◌, arith}
use Rattle.std.proofs.lemmas.List.{length-drop, take_all}
use Rattle.um_gate.specs.Events.{wrote}
use Rattle.um_backlog.proofs.Handing.{offers_all, cut}
use Rattle.um_backlog.proofs.waiting.Waiting.write.Goals as goal

pub returns-then-self-len-clause-taken : goal.returns-then-self-len-clause-taken
returns-then-self-len-clause-taken g c =
    let w = c.self.inside in
    let left = drop w.at w.bytes.items in
    let n = c.write.result in
    let cut_is = length-drop w.at w.bytes.items in
    let offered : take (length c.deref.result.now - w.at) (drop w.at c.deref.result.now) ≡ left =
    ap (λ bs. take (length bs - w.at) (drop w.at bs)) c.deref.ensures.value ∙ take_all (length w.bytes.items - w.at) left (omega arith) in
    rw (← c.self.view_is) (
      take n left,
      cut w.at n w.bytes.items,
      λ h t.
          c.write.ensures.past h t ∙ ap (λ bs. g.G.Gate.past c.args.gate.now ++ wrote c.args.number bs (take n bs) ∷ []) offered
          ∙ ap (λ es. g.G.Gate.past c.args.gate.now ++ es) (offers_all c.args.number left (take n left) (omega (arith, w.bytes.ok.0))),
    )
