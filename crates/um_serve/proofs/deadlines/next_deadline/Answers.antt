use Rattle.std.proofs.Common.{◌≡◌, ◌∙◌, ◌<◌, ◌+◌, Option, ℕ, ap, get_or, length, sym, subst, arith, rules}
use Rattle.std.proofs.lemmas.List.{get_or_default}
use Rattle.std.proofs.lemmas.Option.{none-some}
use Rattle.um_model.specs.Service.{dead_unit}
use Rattle.um_model.specs.declared.service.UnitState.{UnitState}
use Rattle.um_state.specs.Finding.{row_at}
use Rattle.um_serve.specs.Scan.{sooner_past}
use Rattle.um_serve.proofs.ScanLaws.{AreKept, IsFound, kept_more, found_more, next_of}
use Rattle.um_serve.proofs.deadlines.next_deadline.Goals as goal

pub loop-unit-init : goal.loop-unit-init
loop-unit-init c = record { kept = λ i lt. absurd (omega (arith, lt)); found = λ d is. absurd (none-some d is) }

pub loop-unit-preserved : goal.loop-unit-preserved
loop-unit-preserved c =
    let rows = c.rows-unit-items.result.now in
    let moment = c.args.moment in
    let i = c.loop-unit.unit-index in
    let later = sooner_past moment c.loop-unit.next (row_at rows i).deadline in
    let row = c.unit-item.result in
    let is : get_or rows i row ≡ row = search (rules, c.unit-item.is) in
    let here : row_at rows i ≡ row = get_or_default rows i dead_unit row c.loop-unit-test.true ∙ is in
    let next_is : c.sooner_past-next.result ≡ later = c.sooner_past-next.ensures ∙ ap (λ (u : UnitState). sooner_past moment c.loop-unit.next u.deadline) (sym here) in
    record {
      kept = subst (λ (n : Option ℕ). AreKept rows moment n (i + 1)) (sym next_is) (kept_more rows moment c.loop-unit.next i c.loop-unit.invariant.kept);
      found = subst (λ (n : Option ℕ). IsFound rows moment n) (sym next_is) (found_more rows moment c.loop-unit.next i c.loop-unit-test.true c.loop-unit.invariant.found);
    }

pub returns : goal.returns
returns c =
    let rows = c.rows-unit-items.result.now in
    let told = c.rows-unit-items.ensures in
    next_of c.args.units.now rows told.held told.len told.ascending c.args.moment c.loop-unit.next
    (λ i lt. c.loop-unit.invariant.kept i (omega (arith, lt, c.loop-unit-test.false)))
    c.loop-unit.invariant.found
