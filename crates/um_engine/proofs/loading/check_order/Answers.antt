use Rattle.std.proofs.Common.{Contains, subst}
use Rattle.um_model.specs.Machine.{IsBefore}
use Rattle.um_model.specs.Plan.{NamesCycle}
use Rattle.um_state.specs.View.{state_of}
use Rattle.um_engine.specs.Known.{KnownView}
use Rattle.um_engine.specs.Planned.{ArePending}
use Rattle.um_engine.proofs.LoadedLaws.{circle_by_number, circle_of_state, refused_is}
use Rattle.um_engine.proofs.loading.check_order.Goals as goal

pub returns-in_err-check_pending : goal.returns-in_err-check_pending
returns-in_err-check_pending c = λ tree knows.
    let s = state_of c.args.state.now in
    let k : KnownView = c.args.known.now in
    let pends : ArePending k.graph s c.in_ok-pending.pending.items = subst (λ g. ArePending g s c.in_ok-pending.pending.items) c.graph.ensures c.in_ok-pending.ensures.each in
    refused_is (NamesCycle (IsBefore tree) s.pending) c.from_residual-in_err-check_pending.result c.in_err-check_pending.field-0.0 c.from_residual-in_err-check_pending.ensures.1
    (λ differs.
    let told = rw (c.graph-2.ensures, c.deref.ensures.value) at c.in_err-check_pending.ensures.refuses differs in
    circle_of_state s tree (Contains k.extra) k.graph knows.made.graph knows.made.of knows.held c.in_ok-pending.pending.items pends _ told)

pub returns : goal.returns
returns c = λ tree knows r h.
    let s = state_of c.args.state.now in
    let k : KnownView = c.args.known.now in
    let pends : ArePending k.graph s c.in_ok-pending.pending.items = subst (λ g. ArePending g s c.in_ok-pending.pending.items) c.graph.ensures c.in_ok-pending.ensures.each in
    let none = rw (c.graph-2.ensures, c.deref.ensures.value) at c.in_ok-check_pending.ensures.refuses in
    none r (circle_by_number s tree (Contains k.extra) k.graph knows.made.graph knows.made.of knows.held c.in_ok-pending.pending.items pends r h)
