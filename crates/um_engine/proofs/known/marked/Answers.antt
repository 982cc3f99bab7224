use Rattle.std.proofs.Common.{◌≡◌, ◌∙◌, ◌+◌, ◌<◌, false, replicate, ap, arith, get_or, length, rules, take}
use Rattle.um_engine.proofs.MarkedLaws.{marked_all, marked_none, none_more, one_more}
use Rattle.um_engine.specs.Known.{AreMarked}
use Rattle.um_engine.proofs.known.marked.Goals.{in-Some, in_default}
use Rattle.um_engine.proofs.known.marked.Goals as goal

pub loop-unit-init : goal.loop-unit-init
loop-unit-init c = marked_none c.args.graph.now.names c.args.units.now c.in_ok-marks.marks.items (c.in_ok-marks.ensures.items_if_clones_equal (λ y same. same) ∙ ap (λ n. replicate n false) c.len.ensures.len)

pub loop-unit-preserved : goal.loop-unit-preserved
loop-unit-preserved c =
    let names = c.args.graph.now.names in
    let units = c.args.units.now in
    let n = c.loop-unit.unit-index in
    let x = c.unit-item.result in
    let low : n < length units = omega (arith, c.loop-unit-test.true) in
    let here : get_or units n x ≡ x = search (rules, c.unit-item.is) in
    let marks = c.loop-unit.marks.items in
    let later = c.match-number.marks.items in
    elim c.match-number.branch as (λ _. AreMarked names (take (n + 1) units) later) [
      | in-Some w ↦ one_more names units n x low here marks later c.loop-unit.invariant w.in-Some.number c.len.ensures.graph.sorted (ap (λ v. v.items) w.marks-is) (w.in-Some.ensures)
      | in_default w ↦ none_more names units n x low here marks later c.loop-unit.invariant (ap (λ v. v.items) w.marks-is) (w.in_default.ensures)
    ]

pub returns : goal.returns
returns c = marked_all c.args.graph.now.names c.args.units.now c.loop-unit.marks.items c.loop-unit.unit-index (omega (arith, c.loop-unit-test.false)) c.loop-unit.invariant
