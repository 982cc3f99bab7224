use Rattle.std.proofs.Common.{◌≢◌, ◌∙◌, Contains, refl, sym, true≢false}
use Rattle.um_model.specs.Machine.{IsBefore}
use Rattle.um_model.specs.Plan.{NamesCycle}
use Rattle.um_wire.specs.Refusal.{refused_of}
use Rattle.um_wire.specs.declared.refusal.Refusal.TheVariants.{NoMemory}
use Rattle.um_engine.proofs.LoadedLaws.{circle_of_state, free_of_state}
use Rattle.um_engine.proofs.restarting.are_free.Goals as goal

pub returns-in-Ok : goal.returns-in-Ok
returns-in-Ok c = λ s serves pends. (
  λ _.
      free_of_state s s.loaded (Contains serves.extra) c.args.graph.now serves.graph serves.of serves.held c.args.jobs.now.units pends
      (rw c.as_slice.ensures.units at c.in-Ok.ensures.orders),
  λ _. refl,
)

pub returns-else-is_for_memory : goal.returns-else-is_for_memory
returns-else-is_for_memory c = λ s serves pends.
    let differs : c.in-Err.refusal ≢ NoMemory = λ none. true≢false (sym (c.is_for_memory.ensures.1 none) ∙ c.if-is_for_memory.false) in
    let named : NamesCycle (IsBefore s.loaded) s.pending (refused_of c.in-Err.refusal) =
    circle_of_state s s.loaded (Contains serves.extra) c.args.graph.now serves.graph serves.of serves.held c.args.jobs.now.units pends
    (refused_of c.in-Err.refusal) (rw c.as_slice.ensures.units at c.in-Err.ensures.refuses differs) in
    (λ e. absurd (true≢false (sym e)), λ free. absurd (free named.cycle named.closed))
