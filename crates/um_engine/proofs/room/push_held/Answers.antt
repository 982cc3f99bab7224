use Rattle.std.proofs.Common.{◌∙◌, sym, subst, true≢false}
use Rattle.um_graph.specs.Graph.{IsNumberOf}
use Rattle.um_state.specs.View.{state_of}
use Rattle.um_engine.proofs.HeldLaws.{adds_none, adds_one}
use Rattle.um_engine.proofs.room.push_held.Goals as goal

pub returns-then-not-holds : goal.returns-then-not-holds
returns-then-not-holds c name number =
    let there = subst (λ g. IsNumberOf g c.args.unit name) (sym c.requires) number in
    adds_none (state_of c.args.work.now.now) name c.args.names.now.items (λ held. true≢false (sym ((c.holds.ensures name there).1 held) ∙ c.if-not-holds.true))

pub returns : goal.returns
returns c name number =
    let there = subst (λ g. IsNumberOf g c.args.unit name) (sym c.requires) number in
    adds_one (state_of c.args.work.now.now) name c.args.names.now.items c.push_name.new.names.items ((c.holds.ensures name there).0 c.if-not-holds.false) (c.in_ok-push_name.ensures name number)
