use Rattle.um_engine.specs.Engine.{state_in}
use Rattle.um_keeper.proofs.Looking.{summed}
use Rattle.um_keeper.proofs.inspecting.inspect.Goals as goal

pub returns-clause-stands : goal.returns-clause-stands
returns-clause-stands g c h = record {
  state = state_in c.in_ok-taken.taken.engine;
  summed = summed c.summary_of.result c.in_ok-taken.taken.opened (c.in_ok-taken.ensures.found h).taken (c.in_ok-taken.ensures.read h)
      c.summary_of.ensures.generation c.summary_of.ensures.records c.summary_of.ensures.cut_off c.summary_of.ensures.damaged c.summary_of.ensures.clock c.summary_of.ensures.next;
}
