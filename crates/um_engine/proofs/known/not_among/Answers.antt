use Rattle.std.proofs.Common.{◌≡◌, ◌∙◌, ◌+◌, true, rules, ap, arith}
use Rattle.um_graph.proofs.NamedLaws.{got_within}
use Rattle.um_engine.proofs.PassingLaws.{PassingBelow, one_lasts, one_passes}
use Rattle.um_engine.proofs.known.not_among.Goals.{then-not-is_number_among+in_ok-push, else-not-is_number_among}
use Rattle.um_engine.proofs.known.not_among.Goals as goal

pub loop-number-preserved : goal.loop-number-preserved
loop-number-preserved c =
    let names = c.args.graph.now.names in
    let n = c.loop-number.number in
    let passing = c.loop-number.passing.items in
    let later = c.if-not-is_number_among.passing.items in
    elim c.if-not-is_number_among.branch as (λ _. PassingBelow names c.args.names.now (n + 1) later) [
      | then-not-is_number_among+in_ok-push w ↦ one_passes names c.args.names.now n passing later c.loop-number.invariant (ap (λ v. v.items) w.passing-is ∙ w.in_ok-push.ensures.items)
      | else-not-is_number_among w ↦
          let yes : c.is_number_among.result ≡ true = search (rules, w.if-not-is_number_among) in
          one_lasts names c.args.names.now n passing later c.loop-number.invariant (ap (λ v. v.items) w.passing-is) (c.is_number_among.ensures yes)
    ]

pub returns : goal.returns
returns c i unit at = c.loop-number.invariant i (omega (arith, got_within c.args.graph.now.names i unit at, c.loop-number-test.false, c.len-number-end.ensures.len)) unit at
