use Rattle.std.proofs.Common.{◌≡◌, ◌∙◌, ◌<◌, None, length, rules, sym, subst, inl, inr, arith}
use Rattle.std.proofs.lemmas.Bool.{cases_lt}
use Rattle.um_jobs.specs.Jobs.{JobsView}
use Rattle.um_jobs.specs.RowReady.{ready_kind}
use Rattle.um_jobs.proofs.ReadyLaws.{none_ready, ready_least}
use Rattle.um_jobs.proofs.rows.next_ready.Goals as goal

pub returns-in-Some-clause-least : goal.returns-in-Some-clause-least
returns-in-Some-clause-least c =
    let g = c.args.graph.now in
    let v : JobsView = record { graph = g; units = c.args.units.now; held = c.args.held.now } in
    let within : c.loop-unit.unit < length g.names = omega (arith, c.loop-unit-test.true, c.len-unit-end.ensures.len) in
    ready_least g c.len-unit-end.ensures.graph v c.loop-unit.unit within c.in-Some.kind (sym c.ready_kind.ensures ∙ c.in-Some.is) c.loop-unit.invariant

pub loop-unit-init : goal.loop-unit-init
loop-unit-init c = c.requires

pub loop-unit-preserved : goal.loop-unit-preserved
loop-unit-preserved c = λ u below.
    let g = c.args.graph.now in
    let v : JobsView = record { graph = g; units = c.args.units.now; held = c.args.held.now } in
    let none : c.ready_kind.result ≡ None = search rules in
    elim (cases_lt u c.loop-unit.unit) as (λ _. ready_kind g v u ≡ None) [
      | inl lower ↦ c.loop-unit.invariant u lower
      | inr past ↦
          let same : c.loop-unit.unit ≡ u = omega (arith, below, past) in
          subst (λ k. ready_kind g v k ≡ None) same (sym c.ready_kind.ensures ∙ none)
    ]

pub returns-clause-least : goal.returns-clause-least
returns-clause-least c =
    let g = c.args.graph.now in
    let v : JobsView = record { graph = g; units = c.args.units.now; held = c.args.held.now } in
    none_ready g c.len-unit-end.ensures.graph v (λ w within.
    c.loop-unit.invariant w (omega (arith, within, c.loop-unit-test.false, c.len-unit-end.ensures.len)))
