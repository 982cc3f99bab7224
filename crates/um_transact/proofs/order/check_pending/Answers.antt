use Rattle.std.proofs.Common.{◌*◌, refl, sym, subst}
use Rattle.um_order.specs.Pairs.{Precedes, IsLeastFirstCycle}
use Rattle.um_order.specs.Certificate.{IsCertificate}
use Rattle.um_transact.proofs.PairLaws.{numbered, cycle_named}
use Rattle.um_transact.proofs.order.check_pending.Goals as goal

pub returns-in-Numbering-clause-orders : goal.returns-in-Numbering-clause-orders
returns-in-Numbering-clause-orders c =
    let g = c.args.graph.now in
    let plan = c.args.pending.now in
    let pairs = rw (sym c.deref.ensures.value) at c.in_ok-pairs.ensures in
    let told = subst (IsCertificate (c.len.result * 2) c.deref.result.now) c.in-Numbering.is c.in_ok-check.ensures in
    numbered g c.len.ensures.graph plan c.deref.result.now pairs _ c.in-Numbering.field-0.items told

pub returns-in-Numbering-clause-refuses : goal.returns-in-Numbering-clause-refuses
returns-in-Numbering-clause-refuses c = λ r names. returns-in-Numbering-clause-orders c names.cycle names.closed

pub returns-clause-orders : goal.returns-clause-orders
returns-clause-orders c = λ differs.
    let g = c.args.graph.now in
    let plan = c.args.pending.now in
    let pairs = rw (sym c.deref.ensures.value) at c.in_ok-pairs.ensures in
    let told = subst (IsCertificate (c.len.result * 2) c.deref.result.now) c.in-Cycle.is c.in_ok-check.ensures in
    cycle_named g c.len.ensures.graph plan c.deref.result.now pairs c.deref-in-Cycle.result.now _ _
    (subst (IsLeastFirstCycle (Precedes c.deref.result.now)) (sym c.deref-in-Cycle.ensures.value) told) c.in_ok-units_of-in-Cycle.ensures refl

pub returns-clause-refuses : goal.returns-clause-refuses
returns-clause-refuses c = returns-clause-orders c
