use Rattle.std.proofs.Common.{◌≢◌, ◌∙◌, true≢false, sym, refl}
use Rattle.um_wire.specs.declared.refusal.Refusal.TheVariants.{NoMemory}
use Rattle.um_engine.proofs.engine.Engine.of.Goals as goal

pub returns-in-Ok-clause-some : goal.returns-in-Ok-clause-some
returns-in-Ok-clause-some c = (λ some. c.in-Ok.ensures.servable, λ held. refl)

pub returns-else-is_for_memory-clause-some : goal.returns-else-is_for_memory-clause-some
returns-else-is_for_memory-clause-some c =
    let differs : c.in-Err.refusal ≢ NoMemory = λ none. true≢false (sym (c.is_for_memory.ensures.1 none) ∙ c.if-is_for_memory.false) in
    (λ some. absurd (true≢false (sym some)), λ held. absurd (c.in-Err.ensures.refused differs held))
