use Rattle.std.proofs.Common.{sym, true≢false, ◌∙◌}
use Rattle.um_state.specs.View.{state_of}
use Rattle.um_falling.proofs.Carried.{carried_alone, carried_along, no_more_then}
use Rattle.um_falling.proofs.FallenLaws.{stops_then}
use Rattle.um_falling.proofs.WorkLaws.{keeps_then, number_on}
use Rattle.um_falling.proofs.carrying.carry.Goals as goal

pub returns-in_ok-take_along-clause-carries : goal.returns-in_ok-take_along-clause-carries
returns-in_ok-take_along-clause-carries c = λ name number.
    let v = c.args.work.now in
    let w = c.change.new.work in
    let then = number_on v w c.args.unit name c.in_ok-fails.ensures.keeps number in
    carried_along v.moment name c.args.event (state_of v.now) (state_of w.now) v.actions w.actions c.in_ok-fails.fails (c.in_ok-fails.ensures.changes name number)
    (state_of c.take_along.new.work.now) c.take_along.new.work.actions c.if-fails.true (c.in_ok-take_along.ensures.along name then) c.in_ok-take_along.ensures.actions

pub returns-in_ok-take_along-clause-waits : goal.returns-in_ok-take_along-clause-waits
returns-in_ok-take_along-clause-waits c = λ name number.
    no_more_then (state_of c.args.work.now.now) (state_of c.change.new.work.now) (state_of c.take_along.new.work.now) (c.in_ok-fails.ensures.waits name number) c.in_ok-take_along.ensures.waits

pub returns-else-fails-clause-carries : goal.returns-else-fails-clause-carries
returns-else-fails-clause-carries c = λ name number.
    let v = c.args.work.now in
    let w = c.change.new.work in
    carried_alone v.moment name c.args.event (state_of v.now) (state_of w.now) v.actions w.actions c.in_ok-fails.fails (c.in_ok-fails.ensures.changes name number) c.if-fails.false

pub returns-in_ok-take_along-clause-others : goal.returns-in_ok-take_along-clause-others
returns-in_ok-take_along-clause-others c = λ name number none. absurd (true≢false (sym c.if-fails.true ∙ none))

pub returns-in_ok-take_along-clause-stops : goal.returns-in_ok-take_along-clause-stops
returns-in_ok-take_along-clause-stops c = λ name number is.
    stops_then name (state_of c.args.work.now.now) (state_of c.change.new.work.now) (state_of c.take_along.new.work.now) (c.in_ok-fails.ensures.stops name number is) c.in_ok-take_along.ensures.subs

pub returns-in_ok-take_along-clause-ends : goal.returns-in_ok-take_along-clause-ends
returns-in_ok-take_along-clause-ends c = λ name number none. absurd (true≢false (sym c.if-fails.true ∙ none))

pub returns-in_ok-take_along-clause-keeps : goal.returns-in_ok-take_along-clause-keeps
returns-in_ok-take_along-clause-keeps c = keeps_then c.args.work.now c.change.new.work c.take_along.new.work c.in_ok-fails.ensures.keeps c.in_ok-take_along.ensures.keeps
