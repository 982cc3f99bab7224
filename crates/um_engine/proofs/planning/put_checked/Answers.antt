use Rattle.std.proofs.Common.{◌≡◌, ◌∙◌, length, refl, ap, subst, sym}
use Rattle.um_answer.specs.Loaded.{is_found}
use Rattle.um_graph.specs.Graph.{GraphView}
use Rattle.um_jobs.specs.Named.{jobs_by}
use Rattle.um_model.specs.Machine as model
use Rattle.um_model.specs.Machine.{State}
use Rattle.um_model.specs.Refusals.{Refused}
use Rattle.um_model.specs.Units.{load}
use Rattle.um_state.specs.View.{state_of}
use Rattle.um_wire.specs.Refusal.{refused_of}
use Rattle.um_engine.proofs.KnownLaws.{works_still}
use Rattle.um_engine.proofs.PlannedLaws.{absent_here, cause_here, free_here, full_here, has_plan, refuses_on, so_here}
use Rattle.um_engine.proofs.planning.put_checked.Goals as goal

pub put_plan-requires-clause-long : goal.put_plan-requires-clause-long
put_plan-requires-clause-long c =
    ap length (c.as_slice.ensures ∙ c.plan.ensures.plan) ∙ (c.plan.ensures.long ∙ ap (λ (g : GraphView). length g.names) c.requires.graph)

pub put_plan-requires-clause-tidy : goal.put_plan-requires-clause-tidy
put_plan-requires-clause-tidy c = c.requires.tidy

pub check_crowded-requires : goal.check_crowded-requires
check_crowded-requires c =
    works_still c.args.served.now c.args.work.now c.put_plan.new.work c.requires.works c.in_ok-put_plan.ensures.keeps (ap (λ (s : State). s.tree) c.in_ok-put_plan.ensures.state)
    (ap (λ (s : State). s.loaded) c.in_ok-put_plan.ensures.state)

pub check_there-requires : goal.check_there-requires
check_there-requires c = c.requires.finds ∙ sym (ap (λ (s : State). is_found (load s.loaded c.args.wanted.now.asked.now)) c.state.ensures.state)

pub returns-in_err-check_crowded-clause-refused : goal.returns-in_err-check_crowded-clause-refused
returns-in_err-check_crowded-clause-refused c = λ profile. λ demand unit demands is.
    let v = c.args.served.now in
    let w = c.args.work.now in
    let x = c.put_plan.new.work in
    let tr = c.args.transaction.now in
    let wanted = c.args.wanted.now in
    let so : state_of x.now ≡ record v.state { pending = jobs_by tr.graph.names tr.plan } =
    so_here v w.moment w x w.graph c.as_slice.result.now tr c.requires.begins refl c.requires.graph (c.as_slice.ensures ∙ c.plan.ensures.plan) c.in_ok-put_plan.ensures.state in
    let e = c.in_err-check_crowded.field-0.0 in
    refuses_on (model.Refuses profile v.state (model.ForUnit wanted.verb wanted.asked.now wanted.mode)) c.from_residual-in_err-check_crowded.result e c.from_residual-in_err-check_crowded.ensures.1
    (λ differs. full_here v.state (state_of x.now) wanted.verb wanted.asked.now wanted.is_found demand unit wanted.mode demands tr is so c.plan.ensures.planned (refused_of e)
    (c.in_err-check_crowded.ensures differs))

pub returns-in_err-check_there-clause-refused : goal.returns-in_err-check_there-clause-refused
returns-in_err-check_there-clause-refused c = λ profile. λ demand unit demands is.
    let v = c.args.served.now in
    let w = c.args.work.now in
    let x = c.put_plan.new.work in
    let tr = c.args.transaction.now in
    let wanted = c.args.wanted.now in
    let so : state_of x.now ≡ record v.state { pending = jobs_by tr.graph.names tr.plan } =
    so_here v w.moment w x w.graph c.as_slice.result.now tr c.requires.begins refl c.requires.graph (c.as_slice.ensures ∙ c.plan.ensures.plan) c.in_ok-put_plan.ensures.state in
    let e = c.in_err-check_there.field-0.0 in
    refuses_on (model.Refuses profile v.state (model.ForUnit wanted.verb wanted.asked.now wanted.mode)) c.from_residual-in_err-check_there.result e c.from_residual-in_err-check_there.ensures.1
    (λ differs. absent_here v.state (state_of x.now) wanted.verb wanted.asked.now wanted.is_found demand unit wanted.mode demands tr is so c.plan.ensures.planned c.in_ok-check_crowded.ensures (refused_of e)
    (subst (λ (s : State). model.IsNotThere s wanted.verb wanted.asked.now (refused_of e)) c.state.ensures.state (c.in_err-check_there.ensures differs)))

pub returns-in_err-check-clause-refused : goal.returns-in_err-check-clause-refused
returns-in_err-check-clause-refused c = λ profile. λ demand unit demands is.
    let v = c.args.served.now in
    let w = c.args.work.now in
    let x = c.put_plan.new.work in
    let tr = c.args.transaction.now in
    let wanted = c.args.wanted.now in
    let so : state_of x.now ≡ record v.state { pending = jobs_by tr.graph.names tr.plan } =
    so_here v w.moment w x w.graph c.as_slice.result.now tr c.requires.begins refl c.requires.graph (c.as_slice.ensures ∙ c.plan.ensures.plan) c.in_ok-put_plan.ensures.state in
    let there : (q : Refused) → ¬ model.IsNotThere v.state wanted.verb wanted.asked.now q =
    subst (λ (s : State). (q : Refused) → ¬ model.IsNotThere s wanted.verb wanted.asked.now q) c.state.ensures.state c.in_ok-check_there.ensures in
    let e = c.in_err-check.field-0.0 in
    refuses_on (model.Refuses profile v.state (model.ForUnit wanted.verb wanted.asked.now wanted.mode)) c.from_residual-in_err-check.result e c.from_residual-in_err-check.ensures.1
    (λ differs. cause_here v.state (state_of x.now) wanted.verb wanted.asked.now wanted.is_found demand unit wanted.mode demands tr is so c.plan.ensures.planned c.in_ok-check_crowded.ensures there (refused_of e)
    (c.in_err-check.ensures.causes unit is.number differs))

pub returns-clause-refused : goal.returns-clause-refused
returns-clause-refused c = λ profile. λ demand unit demands is.
    let v = c.args.served.now in
    let w = c.args.work.now in
    let x = c.put_plan.new.work in
    let tr = c.args.transaction.now in
    let wanted = c.args.wanted.now in
    let so : state_of x.now ≡ record v.state { pending = jobs_by tr.graph.names tr.plan } =
    so_here v w.moment w x w.graph c.as_slice.result.now tr c.requires.begins refl c.requires.graph (c.as_slice.ensures ∙ c.plan.ensures.plan) c.in_ok-put_plan.ensures.state in
    let there : (q : Refused) → ¬ model.IsNotThere v.state wanted.verb wanted.asked.now q =
    subst (λ (s : State). (q : Refused) → ¬ model.IsNotThere s wanted.verb wanted.asked.now q) c.state.ensures.state c.in_ok-check_there.ensures in
    free_here v.state (state_of x.now) wanted.verb wanted.asked.now wanted.is_found demand unit wanted.mode demands tr is so c.plan.ensures.planned c.in_ok-check_crowded.ensures there
    (c.in_ok-check.ensures.causes unit is.number)

pub returns-clause-planned : goal.returns-clause-planned
returns-clause-planned c = λ root is.
    let v = c.args.served.now in
    let w = c.args.work.now in
    let x = c.put_plan.new.work in
    let tr = c.args.transaction.now in
    let so : state_of x.now ≡ record v.state { pending = jobs_by tr.graph.names tr.plan } =
    so_here v w.moment w x w.graph c.as_slice.result.now tr c.requires.begins refl c.requires.graph (c.as_slice.ensures ∙ c.plan.ensures.plan) c.in_ok-put_plan.ensures.state in
    has_plan v.state (state_of x.now) root tr is so (c.plan.ensures.planned root.1 is.number)

pub returns-clause-works : goal.returns-clause-works
returns-clause-works c =
    works_still c.args.served.now c.args.work.now c.put_plan.new.work c.requires.works c.in_ok-put_plan.ensures.keeps (ap (λ (s : State). s.tree) c.in_ok-put_plan.ensures.state)
    (ap (λ (s : State). s.loaded) c.in_ok-put_plan.ensures.state)

pub returns-clause-moment : goal.returns-clause-moment
returns-clause-moment c = c.in_ok-put_plan.ensures.keeps.moment

pub returns-clause-actions : goal.returns-clause-actions
returns-clause-actions c = c.in_ok-put_plan.ensures.actions
