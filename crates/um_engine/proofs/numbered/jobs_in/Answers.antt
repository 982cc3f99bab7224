use Rattle.std.proofs.Common.{◌≡◌, ◌∙◌, List, false, length, replicate, Result, Ok, Err, IfOk, sym, ap}
use Rattle.um_model.specs.Machine.{State}
use Rattle.um_model.specs.declared.jobs.UnitJobs.{UnitJobs}
use Rattle.um_graph.specs.Graph.{GraphView, IsGraph}
use Rattle.um_jobs.specs.Jobs.{JobsView}
use Rattle.um_state.specs.View.{state_of}
use Rattle.um_engine.specs.Filled.{Tells}
use Rattle.um_engine.specs.Planned.{ArePending}
use Rattle.um_engine.proofs.NumberedLaws.{pends_by}
use Rattle.um_engine.proofs.ReadyLaws.{none_told}
use Rattle.um_engine.proofs.numbered.jobs_in.Goals as goal

filled : {E : Type 0} (g given : GraphView) (s : State) (pending : List UnitJobs) → IsGraph g → given ≡ g → length pending ≡ length g.names → ArePending g s pending → (r : Result JobsView E)
    → IfOk r (λ j. j.graph ≡ given) → IfOk r (λ j. length pending ≡ length given.names → j.units ≡ pending) → IfOk r (λ j. j.held ≡ replicate (length given.names) false) → IfOk r (Tells g s)
filled g given s pending graph same long pends (Ok j) among whole held =
    let many = ap (λ (x : GraphView). length x.names) same in
    none_told g s j pending graph (among ∙ same) long pends (whole (long ∙ ap length (ap (λ (x : GraphView). x.names) (sym same)))) (held ∙ ap (λ n. replicate n false) many)
filled g given s pending graph same long pends (Err e) among whole held = among

pub returns : goal.returns
returns c =
    let w = c.args.work.now in
    let pending = c.pending.result.now in
    let graph : IsGraph w.graph = c.graph-graph.ensures.serves.graph in
    filled w.graph c.graph-graph.result.now (state_of w.now) pending graph c.graph-graph.ensures.graph c.pending.ensures.len
    (pends_by w.graph (state_of w.now) pending graph c.pending.ensures.held) c.of.result c.of.ensures.graph c.of.ensures.whole c.of.ensures.held
