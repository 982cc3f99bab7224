use Rattle.std.proofs.Common.{◌∙◌, ap, refl, subst, sym, true≢false}
use Rattle.um_model.specs.Jobs.{jobs_of_unit}
use Rattle.um_model.specs.Machine.{with_plan, with_start_alone}
use Rattle.um_state.specs.View.{state_of}
use Rattle.um_falling.specs.Over.{Serves}
use Rattle.um_falling.proofs.AlongLaws.{known_by}
use Rattle.um_falling.proofs.WorkLaws.{keeps_all}
use Rattle.um_engine.specs.Planned.{ArePending}
use Rattle.um_engine.proofs.RestartLaws.{pends_alone, restarts_none, restarts_so, serves_alone}
use Rattle.um_engine.proofs.restarting.start_in.Goals as goal

pub returns-then-not-branch-clause-state : goal.returns-then-not-branch-clause-state
returns-then-not-branch-clause-state c = λ name number none.
    let w = c.args.work.now in
    let g = w.graph in
    let s = state_of w.now in
    let j = jobs_of_unit s.pending name in
    let known = known_by g c.args.unit name number in
    let serves = c.graph.ensures.serves in
    let shown = sym c.graph.ensures.graph in
    let alone = serves_alone g s name j refl none serves known c.args.jobs.now c.put.new.self c.args.unit c.requires number c.put.ensures in
    let pends = pends_alone g s name j refl none serves known c.args.jobs.now c.put.new.self c.args.unit c.requires number c.put.ensures in
    let free = c.in_ok-are_free.ensures (with_start_alone s name) (subst (λ h. Serves h (with_start_alone s name)) shown alone)
    (subst (λ h. ArePending h (with_start_alone s name) c.put.new.self.units) shown pends) in
    restarts_none g s name j refl none serves known c.args.jobs.now c.put.new.self c.args.unit c.requires number c.put.ensures
    (λ f. true≢false (sym (free.1 f) ∙ c.if-not-branch.true))

pub returns-then-not-branch-clause-keeps : goal.returns-then-not-branch-clause-keeps
returns-then-not-branch-clause-keeps c = keeps_all c.args.work.now

pub returns-clause-state : goal.returns-clause-state
returns-clause-state c = λ name number none.
    let w = c.args.work.now in
    let g = w.graph in
    let s = state_of w.now in
    let j = jobs_of_unit s.pending name in
    let known = known_by g c.args.unit name number in
    let serves = c.graph.ensures.serves in
    let shown = sym c.graph.ensures.graph in
    let alone = serves_alone g s name j refl none serves known c.args.jobs.now c.put.new.self c.args.unit c.requires number c.put.ensures in
    let pends = pends_alone g s name j refl none serves known c.args.jobs.now c.put.new.self c.args.unit c.requires number c.put.ensures in
    let free = c.in_ok-are_free.ensures (with_start_alone s name) (subst (λ h. Serves h (with_start_alone s name)) shown alone)
    (subst (λ h. ArePending h (with_start_alone s name) c.put.new.self.units) shown pends) in
    restarts_so g s name j refl none serves known c.args.jobs.now c.put.new.self c.args.unit c.requires number c.put.ensures
    (free.0 c.if-not-branch.false) (state_of c.set_jobs.new.self.now) (c.set_jobs.ensures.state name number ∙ ap (with_plan s name) c.get.ensures)
