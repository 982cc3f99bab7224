use Rattle.std.proofs.Common.{◌≡◌, ◌∙◌, ℕ, List, Contains, ap, subst, sym}
use Rattle.um_model.specs.Machine as model
use Rattle.um_model.specs.Machine.{State}
use Rattle.um_state.specs.View.{state_of}
use Rattle.um_unit.specs.View.{tree_read}
use Rattle.um_engine.specs.Known.{KnownView}
use Rattle.um_engine.proofs.KnownLaws.{few_known, works_knows}
use Rattle.um_engine.proofs.PlannedLaws.{crowds_listed, few_listed, refuses_on}
use Rattle.um_engine.proofs.planning.check_crowded.Goals as goal

pub returns-then-lasts_in : goal.returns-then-lasts_in
returns-then-lasts_in c =
    let v = c.args.served.now in
    let w = c.args.work.now in
    few_known v.known (state_of w.now) (works_knows v w c.known.ensures.knows c.requires c.graph-graph.ensures.serves)
    (subst (λ (k : KnownView). (x : List ℕ) → Contains k.graph.names x → model.IsHeld (state_of w.now) x → Contains k.lasting x) c.known.ensures.known
    (c.lasts_in.ensures c.if-lasts_in.true))

pub returns-in_err-with_units : goal.returns-in_err-with_units
returns-in_err-with_units c =
    let w = c.args.work.now in
    let tree : (tree_read c.loaded.result) ≡ (state_of w.now).loaded = c.loaded.ensures ∙ (ap (λ (s : State). s.loaded) c.state.ensures.state ∙ sym c.requires.loaded) in
    let e = c.in_err-with_units.field-0.0 in
    refuses_on (model.IsCrowded (state_of w.now).loaded (model.IsHeld (state_of w.now))) c.from_residual-in_err-with_units.result e c.from_residual-in_err-with_units.ensures.1
    (crowds_listed (state_of w.now) (tree_read c.loaded.result) c.in_ok-held.held.items tree c.in_ok-held.ensures e c.in_err-with_units.ensures.refused)

pub returns : goal.returns
returns c =
    let w = c.args.work.now in
    let tree : (tree_read c.loaded.result) ≡ (state_of w.now).loaded = c.loaded.ensures ∙ (ap (λ (s : State). s.loaded) c.state.ensures.state ∙ sym c.requires.loaded) in
    few_listed (state_of w.now) (tree_read c.loaded.result) c.in_ok-held.held.items tree c.in_ok-held.ensures c.in_ok-with_units.ensures.few
