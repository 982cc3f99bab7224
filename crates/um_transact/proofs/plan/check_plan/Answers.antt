use Rattle.std.proofs.Common.{List}
use Rattle.um_model.specs.Plan.{CausesOfPlan}
use Rattle.um_jobs.specs.Named.{jobs_by}
use Rattle.um_wire.specs.Refusal.{refused_of}
use Rattle.um_transact.specs.Scene.{scene_of}
use Rattle.um_transact.proofs.CheckLaws.{refuses_on}
use Rattle.um_transact.proofs.PlanLaws.{bars_told, clashes_told, drops_told, cycle_told, none_told}
use Rattle.um_transact.proofs.plan.check_plan.Goals as goal

pub returns-in_err-check_bars : goal.returns-in_err-check_bars
returns-in_err-check_bars c = λ activity root unit made number.
    let g = c.args.graph.now in
    let marks = c.args.marks.now in
    let e = c.in_err-check_bars.field-0.0 in
    refuses_on (CausesOfPlan (scene_of g activity c.args.pending.now) (root.0, unit) c.args.mode (jobs_by g.names c.args.plan.now))
    c.from_residual.result e c.from_residual.ensures.1
    (λ differs. bars_told g activity c.args.pending.now root marks c.args.plan.now made unit number c.args.mode (refused_of e) (c.in_err-check_bars.ensures differs))

pub returns-in_err-check_clashes : goal.returns-in_err-check_clashes
returns-in_err-check_clashes c = λ activity root unit made number.
    let g = c.args.graph.now in
    let marks = c.args.marks.now in
    let e = c.in_err-check_clashes.field-0.0 in
    refuses_on (CausesOfPlan (scene_of g activity c.args.pending.now) (root.0, unit) c.args.mode (jobs_by g.names c.args.plan.now))
    c.from_residual-in_err-check_clashes.result e c.from_residual-in_err-check_clashes.ensures.1
    (λ differs. clashes_told g activity c.args.pending.now root marks c.args.plan.now made unit number c.args.mode c.in_ok-check_bars.ensures (refused_of e) (c.in_err-check_clashes.ensures differs))

pub returns-in_err-check_drops : goal.returns-in_err-check_drops
returns-in_err-check_drops c = λ activity root unit made number.
    let g = c.args.graph.now in
    let marks = c.args.marks.now in
    let e = c.in_err-check_drops.field-0.0 in
    refuses_on (CausesOfPlan (scene_of g activity c.args.pending.now) (root.0, unit) c.args.mode (jobs_by g.names c.args.plan.now))
    c.from_residual-in_err-check_drops.result e c.from_residual-in_err-check_drops.ensures.1
    (λ differs. drops_told g activity c.args.pending.now root marks c.args.plan.now made unit number c.args.mode c.in_ok-check_bars.ensures c.in_ok-check_clashes.ensures (refused_of e) (c.in_err-check_drops.ensures differs))

pub returns-in_err-check_pending : goal.returns-in_err-check_pending
returns-in_err-check_pending c = λ activity root unit made number.
    let g = c.args.graph.now in
    let marks = c.args.marks.now in
    let e = c.in_err-check_pending.field-0.0 in
    refuses_on (CausesOfPlan (scene_of g activity c.args.pending.now) (root.0, unit) c.args.mode (jobs_by g.names c.args.plan.now))
    c.from_residual-in_err-check_pending.result e c.from_residual-in_err-check_pending.ensures.1
    (λ differs. cycle_told g activity c.args.pending.now root marks c.args.plan.now made unit number c.args.mode c.in_ok-check_bars.ensures c.in_ok-check_clashes.ensures c.in_ok-check_drops.ensures (refused_of e) (c.in_err-check_pending.ensures.refuses differs))

pub returns : goal.returns
returns c = λ activity root unit made number.
    none_told c.args.graph.now activity c.args.pending.now root c.args.marks.now c.args.plan.now made unit number c.args.mode
    c.in_ok-check_bars.ensures c.in_ok-check_clashes.ensures c.in_ok-check_drops.ensures c.in_ok-check_pending.ensures.orders
