use Rattle.std.proofs.Common.{◌≡◌, ◌∙◌, ℕ, Bool, List, ap, refl, subst, sym}
use Rattle.um_answer.specs.Loaded.{Loads, is_found}
use Rattle.um_graph.specs.Graph.{GraphView}
use Rattle.um_model.specs.Machine as model
use Rattle.um_model.specs.Machine.{State}
use Rattle.um_model.specs.Profiles.{ReadTree}
use Rattle.um_model.specs.Units.{load}
use Rattle.um_wire.specs.declared.refusal.Refusal.TheVariants.{NoMemory}
use Rattle.um_unit.specs.View.{tree_read}
use Rattle.um_engine.specs.Known.{KnownView, KnowsFor}
use Rattle.um_engine.proofs.PlannedLaws.{asked_so, refuses_on}
use Rattle.um_engine.proofs.planning.planned.Goals as goal

-- whether the requested name is found, by the state
found_so : (k : KnownView) (s : State) (g : GraphView) (tree : ReadTree) (asked : List ℕ) (found : Bool) → KnowsFor k s → g ≡ k.graph → tree ≡ s.loaded
    → (Loads g tree → found ≡ is_found (load tree asked)) → found ≡ is_found (load s.loaded asked)
found_so k s g tree asked found knows graph loaded finds =
    finds (subst (λ h. Loads h tree) (sym graph) (subst (Loads k.graph) (sym loaded) knows.made.of.loaded)) ∙ ap (λ t. is_found (load t asked)) loaded

pub returns-in_err-unit-clause-refused : goal.returns-in_err-unit-clause-refused
returns-in_err-unit-clause-refused c = λ profile.
    refuses_on (model.Refuses profile c.args.served.now.state (model.ForUnit c.args.verb c.args.asked.now c.args.mode)) c.from_residual.result NoMemory c.from_residual.ensures.1 (λ differs. absurd (differs refl))

pub planned_for-requires-clause-same : goal.planned_for-requires-clause-same
planned_for-requires-clause-same c =
    let here = c.state-state.ensures.state in
    asked_so c.args.served.now.known c.args.served.now.state c.graph.result.now (tree_read c.loaded.result) c.args.asked.now c.in_ok-unit.field-0.unit c.known.ensures.knows
    (c.graph.ensures ∙ ap (λ (k : KnownView). k.graph) c.known.ensures.known) (c.loaded.ensures ∙ ap (λ (x : State). x.loaded) here) c.in_ok-unit.ensures.unit

pub planned_for-requires-clause-finds : goal.planned_for-requires-clause-finds
planned_for-requires-clause-finds c =
    let here = c.state-state.ensures.state in
    found_so c.args.served.now.known c.args.served.now.state c.graph.result.now (tree_read c.loaded.result) c.args.asked.now c.in_ok-unit.field-0.is_found c.known.ensures.knows
    (c.graph.ensures ∙ ap (λ (k : KnownView). k.graph) c.known.ensures.known) (c.loaded.ensures ∙ ap (λ (x : State). x.loaded) here) c.in_ok-unit.ensures.found

pub returns-clause-changed : goal.returns-clause-changed
returns-clause-changed c = λ profile. c.planned_for.ensures.changed profile

pub returns-clause-silent : goal.returns-clause-silent
returns-clause-silent c = c.planned_for.ensures.silent

pub returns-clause-based : goal.returns-clause-based
returns-clause-based c = c.planned_for.ensures.based

pub returns-clause-refused : goal.returns-clause-refused
returns-clause-refused c = λ profile. c.planned_for.ensures.refused profile
