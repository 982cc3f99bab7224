use Rattle.std.proofs.Common.{◌∙◌, [], ◌∷◌, ◌++◌, option_to_list, sym, ap}
use Rattle.um_engine.specs.Engine.{standing_in}
use Rattle.um_keeper.specs.Answering.{state_before_all}
use Rattle.um_keeper.proofs.Batching.{back_append}
use Rattle.um_keeper.proofs.batch.go_back.Goals as goal

pub loop-back-preserved : goal.loop-back-preserved
loop-back-preserved c =
    let left = c.pop.new.self.items in
    let before = standing_in c.loop-back.engine in
    record {
      state = ap (state_before_all left) c.back.ensures.state ∙ sym (back_append left (c.in-Some.back ∷ []) before)
          ∙ sym (ap (λ l. state_before_all l before) (c.pop.ensures.items ∙ ap (λ o. left ++ option_to_list o) c.in-Some.is)) ∙ c.loop-back.invariant.state;
      size = c.back.ensures.size ∙ c.loop-back.invariant.size;
    }
