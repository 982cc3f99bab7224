use Rattle.std.proofs.Common.{IfOk, subst}
use Rattle.um_model.specs.Machine.{IsHeldOr, State}
use Rattle.um_engine.specs.Known.{IsGraphFor}
use Rattle.um_engine.specs.Planned.{AreActive, ArePending, IsTransactionFor}
use Rattle.um_engine.proofs.NumberedLaws.{made_for}
use Rattle.um_engine.proofs.planning.transaction.Goals as goal

pub returns-clause-made : goal.returns-clause-made
returns-clause-made c =
    let g = c.args.graph.now in
    let unit = c.args.unit.now in
    subst (λ xs. IfOk c.of.result (λ t. (s : State) → IsGraphFor s.loaded (IsHeldOr s unit) g → AreActive g s xs → ArePending g s c.args.situation.now.pending.items
    → IsTransactionFor s (c.args.demand, unit) t)) c.deref.ensures.value
    (subst (λ xs. IfOk c.of.result (λ t. (s : State) → IsGraphFor s.loaded (IsHeldOr s unit) g → AreActive g s c.deref.result.now → ArePending g s xs
    → IsTransactionFor s (c.args.demand, unit) t)) c.deref-2.ensures.value
    (made_for g c.deref.result.now c.deref-2.result.now c.args.demand unit c.number_of-number.result c.of.result c.number_of-number.ensures c.of.ensures.graph
    c.of.ensures.activity c.of.ensures.pending c.of.ensures.root))
