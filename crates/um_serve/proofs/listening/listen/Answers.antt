use Rattle.std.proofs.Common.{◌≡◌, ◌∙◌, Some, false, slice_get, sym, subst, rules, arith}
use Rattle.std.proofs.lemmas.Option.{slice_get-get_or}
use Rattle.std.specs.Bool.{IsTrue}
use Rattle.um_serve.proofs.BelowLaws.{reads_none, reads_more, only_more, silent_more}
use Rattle.um_serve.proofs.listening.listen.Goals as goal

pub loop-number-init : goal.loop-number-init
loop-number-init g c = record {
  left = search rules;
  past = λ h w. reads_none _ c.args.accepted.is_open c.args.held.is_held c.args.pieces.now;
  only_open = search rules;
  none_of_held = search rules;
  whole = search rules;
  honest = search rules;
}

pub loop-number-preserved : goal.loop-number-preserved
loop-number-preserved g c =
    let n = c.loop-number.number in
    let inv = c.loop-number.invariant in
    let is_it = slice_get-get_or c.args.accepted.is_open n false (search (rules, arith)) in
    let held_is = slice_get-get_or c.args.held.is_held n false (search (rules, arith)) in
    let set : slice_get c.set.new.self n ≡ Some c.hear-piece.result = subst (λ k. slice_get c.set.new.self k ≡ Some c.hear-piece.result) c.connection.ensures c.set.ensures.set in
    record {
      left = search (rules, arith);
      past = λ h w.
          reads_more _ _ _ n c.args.accepted.is_open c.args.held.is_held c.loop-number.pieces c.set.new.self _ _ c.hear-piece.result
          (c.hear-piece.ensures.past (subst IsTrue (sym inv.honest) h) w) (inv.past h (c.hear-piece.ensures.gate.whole w)) is_it held_is set
          (λ i other. c.set.ensures.others i (λ same. other (same ∙ c.connection.ensures)));
      only_open =
          only_more n c.args.accepted.is_open c.loop-number.pieces c.set.new.self _ c.hear-piece.result inv.only_open is_it set c.hear-piece.ensures.closed
          (λ i other. c.set.ensures.others i (λ same. other (same ∙ c.connection.ensures)));
      none_of_held =
          silent_more n c.args.held.is_held c.loop-number.pieces c.set.new.self _ c.hear-piece.result inv.none_of_held held_is set c.hear-piece.ensures.silent
          (λ i other. c.set.ensures.others i (λ same. other (same ∙ c.connection.ensures)));
      whole = search rules;
      honest = search rules;
    }
