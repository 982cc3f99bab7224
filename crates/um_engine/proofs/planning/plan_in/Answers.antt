use Rattle.std.proofs.Common.{◌∙◌, ℕ, List, Contains, Result, Ok, Err, refl, ap, subst, sym}
use Rattle.std.specs.Prelude.{OnOk}
use Rattle.um_falling.specs.Work.{WorkView}
use Rattle.um_graph.specs.Graph.{GraphView}
use Rattle.um_model.specs.Machine as model
use Rattle.um_model.specs.declared.dependencies.Demand.{Demand}
use Rattle.um_wire.specs.declared.refusal.Refusal.TheVariants.{NoMemory}
use Rattle.um_engine.specs.Planned.{IsTransactionFor}
use Rattle.um_engine.proofs.NumberedLaws.{has_named}
use Rattle.um_engine.proofs.PlannedLaws.{made_here, refuses_on}
use Rattle.um_engine.proofs.planning.plan_in.Goals as goal

-- a property after success that follows from another one
then_ok : {X E P Q : Type 0} (result : Result X E) → (P → Q) → OnOk result P → OnOk result Q
then_ok (Ok x) f p = f p
then_ok (Err e) f p = p

pub transaction-requires : goal.transaction-requires
transaction-requires c =
    let v = c.args.served.now in
    subst (λ (g : GraphView). Contains g.names c.args.unit.now) (sym (c.graph.ensures.graph ∙ ap (λ (z : WorkView). z.graph) c.requires.begins))
    (has_named v.state c.args.unit.now v.known.graph c.requires.exact)

pub put_checked-requires-clause-finds : goal.put_checked-requires-clause-finds
put_checked-requires-clause-finds c = c.requires.demands.finds

pub put_checked-requires-clause-begins : goal.put_checked-requires-clause-begins
put_checked-requires-clause-begins c = c.requires.begins

pub put_checked-requires-clause-works : goal.put_checked-requires-clause-works
put_checked-requires-clause-works c = c.requires.works

pub put_checked-requires-clause-graph : goal.put_checked-requires-clause-graph
put_checked-requires-clause-graph c = c.in_ok-transaction.ensures.graph ∙ c.graph.ensures.graph

pub put_checked-requires-clause-tidy : goal.put_checked-requires-clause-tidy
put_checked-requires-clause-tidy c = c.in_ok-situation.ensures.tidy

pub returns-in_err-situation-clause-refused : goal.returns-in_err-situation-clause-refused
returns-in_err-situation-clause-refused c = λ profile.
    let wanted = c.args.wanted.now in
    refuses_on (model.Refuses profile c.args.served.now.state (model.ForUnit wanted.verb wanted.asked.now wanted.mode)) c.from_residual.result NoMemory c.from_residual.ensures.1 (λ differs. absurd (differs refl))

pub returns-in_err-transaction-clause-refused : goal.returns-in_err-transaction-clause-refused
returns-in_err-transaction-clause-refused c = λ profile.
    let wanted = c.args.wanted.now in
    refuses_on (model.Refuses profile c.args.served.now.state (model.ForUnit wanted.verb wanted.asked.now wanted.mode)) c.from_residual-in_err-transaction.result NoMemory
    c.from_residual-in_err-transaction.ensures.1 (λ differs. absurd (differs refl))

pub returns-clause-planned : goal.returns-clause-planned
returns-clause-planned c =
    let v = c.args.served.now in
    let w = c.args.work.now in
    let root : Demand × List ℕ = (c.args.demand, c.args.unit.now) in
    let at = c.in_ok-situation.situation in
    let tr = c.in_ok-transaction.transaction in
    let is : IsTransactionFor v.state root tr =
    made_here v w.moment w root c.graph.result.now at.activity.items at.pending.items tr c.requires.begins c.graph.ensures.graph c.requires.exact c.in_ok-situation.ensures.active
    c.in_ok-situation.ensures.pends c.in_ok-transaction.ensures.made in
    then_ok c.put_checked.result (λ f. f root is) c.put_checked.ensures.planned

pub returns-clause-refused : goal.returns-clause-refused
returns-clause-refused c = λ profile.
    let v = c.args.served.now in
    let w = c.args.work.now in
    let root : Demand × List ℕ = (c.args.demand, c.args.unit.now) in
    let at = c.in_ok-situation.situation in
    let tr = c.in_ok-transaction.transaction in
    let is : IsTransactionFor v.state root tr =
    made_here v w.moment w root c.graph.result.now at.activity.items at.pending.items tr c.requires.begins c.graph.ensures.graph c.requires.exact c.in_ok-situation.ensures.active
    c.in_ok-situation.ensures.pends c.in_ok-transaction.ensures.made in
    (c.put_checked.ensures.refused profile) c.args.demand c.args.unit.now c.requires.demands is

pub returns-clause-works : goal.returns-clause-works
returns-clause-works c = c.put_checked.ensures.works

pub returns-clause-moment : goal.returns-clause-moment
returns-clause-moment c = c.put_checked.ensures.moment

pub returns-clause-actions : goal.returns-clause-actions
returns-clause-actions c = c.put_checked.ensures.actions
