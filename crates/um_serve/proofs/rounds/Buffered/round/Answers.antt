use Rattle.std.proofs.Common.{◌∙◌, refl, sym, ap, subst, inl, nat_lt}
use Rattle.std.specs.Bool.{IsTrue}
use Rattle.um_keeper.specs.Keepers.{disk_in, state_in}
use Rattle.um_manager.specs.Places.{place_in, log_in}
use Rattle.um_serve.proofs.RoundLaws.{unserved, same_now, untaken_round, done_round}
use Rattle.um_serve.proofs.rounds.Buffered.round.Goals as goal

pub returns-in-Err-clause-serves : goal.returns-in-Err-clause-serves
returns-in-Err-clause-serves g c = inl (refl, unserved c.in-Err.ensures.past c.in-Err.ensures.backlog c.in-Err.ensures.busy c.gather.ensures.turned c.gather.ensures.lost)

pub returns-then-wants_memory-clause-serves : goal.returns-then-wants_memory-clause-serves
returns-then-wants_memory-clause-serves g c =
    untaken_round c.args.self.now.was_busy (g.G.Gate.past c.args.self.now.gate) (g.G.Gate.past c.gather.new.self.gate) c.args.self.now.turned c.gather.new.self.turned (place_in (g.D.Disk.honest (disk_in c.args.manager.now.keeper)) c.args.manager.now.keeper) c.turn-turned.result
    c.in-Ok.ensures.gathers c.held_back-held.ensures c.moment-moment.ensures.given c.turn-turned.ensures.turns (sym c.wants_memory.ensures ∙ c.if-wants_memory.true) c.gather.ensures.turned c.if-self.false

pub returns-clause-serves : goal.returns-clause-serves
returns-clause-serves g c =
    let said = c.speak-is_stirred.ensures in
    let there = state_in c.args.manager.now.keeper in
    done_round c.args.self.now.was_busy (g.G.Gate.past c.args.self.now.gate) (g.G.Gate.past c.gather.new.self.gate) (g.G.Gate.past c.speak-is_stirred.new.gate) said.says.0 c.args.self.now.turned (place_in (g.D.Disk.honest (disk_in c.args.manager.now.keeper)) c.args.manager.now.keeper) c.turn-turned.result
    c.in-Ok.ensures.gathers (subst IsTrue (sym c.gather.ensures.gate.honest)) said.gate.whole c.held_back-held.ensures c.moment-moment.ensures.given
    c.turn-turned.ensures.turns (subst (λ x. IsTrue (g.C.Children.whole x)) said.children) (sym c.wants_memory.ensures ∙ c.if-wants_memory.false)
    said.says.1 said.says.2 refl said.stirred
    (c.has_moved-has_changed.ensures ∙ ap (λ m. nat_lt m (state_in c.speak-is_stirred.new.manager.keeper).clock) c.clock_of-before.ensures) said.empties
    (same_now c.turn-turned.new.self.sessions.items c.speak-is_stirred.new.manager.sessions.items (ap (λ k. state_in k) said.keeper) (ap (λ x. g.C.Children.past x) said.children) said.marks (ap (λ k. g.D.Disk.past (disk_in k)) said.keeper) (ap (λ k. log_in k) said.keeper))
    c.if-self.false c.gather.ensures.lost
