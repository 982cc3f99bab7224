use Rattle.std.proofs.Common.{◌∙◌, ◌∷◌, [], ◌++◌, sym, ap, subst, append_assoc}
use Rattle.std.specs.Bool.{IsTrue}
use Rattle.um_gate.specs.Events.{accepted}
use Rattle.um_serve.specs.Rounds.{reads_below}
use Rattle.um_serve.proofs.rounds.Buffered.gather.Goals as goal

pub returns-clause-gathers : goal.returns-clause-gathers
returns-clause-gathers g c =
    let which = c.accept-open.result.is_open in
    let old = g.G.Gate.past c.args.self.now.gate in
    let reads = reads_below 64 which c.args.held.is_held c.listen.new.pieces in
    record {
      which = which;
      only_open = c.listen.ensures.only_open;
      none_of_held = c.listen.ensures.none_of_held;
      past = λ h w.
          c.listen.ensures.past (subst IsTrue (sym c.accept-open.ensures.honest) h) w ∙ ap (λ es. es ++ reads) (c.accept-open.ensures.past h (c.listen.ensures.gate.whole w))
          ∙ append_assoc old (accepted which ∷ []) reads;
      forgets = c.forget_closed.ensures;
      busy_is = c.has_come-self.ensures;
    }
