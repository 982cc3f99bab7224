use Rattle.std.proofs.Common.{◌≡◌, ◌∙◌, true, false, sym, ap, subst, rules}
use Rattle.um_model.specs.Jobs.{Job}
use Rattle.um_jobs.specs.Jobs.{IsReadyIn, with_held_at}
use Rattle.um_graph.specs.Named.{name_at}
use Rattle.um_state.specs.View.{state_of}
use Rattle.um_engine.specs.Filled.{Tells, is_held_back}
use Rattle.um_engine.proofs.ReadyLaws.{back_drops, back_told, found_least, found_named, next_here, still_here}
use Rattle.um_engine.proofs.settling.next_job.Goals as goal

pub held-init : goal.held-init
held-init c = c.requires.tells

pub held-smaller : goal.held-smaller
held-smaller c =
    let g = c.args.work.now.graph in
    let s = state_of c.args.work.now.now in
    let v = c.held.jobs in
    let unit = c.in-Some.unit in
    let kind = c.in-Some.kind in
    let told : c.is_held_back.result ≡ true = search rules in
    let named = found_named g s v c.held.invariant unit kind c.in-Some.ensures.within c.in-Some.ensures.least in
    let back : is_held_back s (name_at g.names unit) kind ≡ true = sym (c.is_held_back.ensures (name_at g.names unit) named) ∙ told in
    back_drops g s v c.held.invariant unit kind c.in-Some.ensures.within c.in-Some.ensures.least back c.hold.new.self
    (c.hold.ensures ∙ ap (λ j. with_held_at j unit true) (c.count_behind.ensures ∙ c.find_ready.ensures.same))

pub held-preserved : goal.held-preserved
held-preserved c =
    let g = c.args.work.now.graph in
    let s = state_of c.args.work.now.now in
    let v = c.held.jobs in
    let unit = c.in-Some.unit in
    let kind = c.in-Some.kind in
    let told : c.is_held_back.result ≡ true = search rules in
    let named = found_named g s v c.held.invariant unit kind c.in-Some.ensures.within c.in-Some.ensures.least in
    let back : is_held_back s (name_at g.names unit) kind ≡ true = sym (c.is_held_back.ensures (name_at g.names unit) named) ∙ told in
    back_told g s v c.held.invariant unit kind c.in-Some.ensures.within c.in-Some.ensures.least back c.hold.new.self
    (c.hold.ensures ∙ ap (λ j. with_held_at j unit true) (c.count_behind.ensures ∙ c.find_ready.ensures.same))

pub returns-clause-tells : goal.returns-clause-tells
returns-clause-tells c = subst (Tells c.args.work.now.graph (state_of c.args.work.now.now)) (sym c.find_ready.ensures.same) c.held.invariant

pub returns-clause-next : goal.returns-clause-next
returns-clause-next c =
    let g = c.args.work.now.graph in
    let s = state_of c.args.work.now.now in
    let v = c.held.jobs in
    still_here g s c.requires.serves v c.held.invariant (subst (λ x. (job : Job) → ¬ IsReadyIn x v job) c.held.invariant.same c.in_default.ensures.least)

pub returns-then-not-is_held_back-clause-tells : goal.returns-then-not-is_held_back-clause-tells
returns-then-not-is_held_back-clause-tells c = subst (Tells c.args.work.now.graph (state_of c.args.work.now.now)) (sym (c.count_behind.ensures ∙ c.find_ready.ensures.same)) c.held.invariant

pub returns-then-not-is_held_back-clause-next : goal.returns-then-not-is_held_back-clause-next
returns-then-not-is_held_back-clause-next c = λ name number.
    let g = c.args.work.now.graph in
    let s = state_of c.args.work.now.now in
    let v = c.held.jobs in
    let unit = c.in-Some.unit in
    let kind = c.in-Some.kind in
    let told : c.is_held_back.result ≡ false = search rules in
    next_here g s c.requires.serves v c.held.invariant unit name kind number
    (found_least g s v c.held.invariant unit kind c.in-Some.ensures.within c.in-Some.ensures.least)
    (sym (c.is_held_back.ensures name number) ∙ told)
