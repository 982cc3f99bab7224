use Rattle.std.proofs.Common.{◌∙◌, arith}
use Rattle.um_graph.specs.declared.row.Neighbour.{Neighbour}
use Rattle.um_state.specs.View.{state_of}
use Rattle.um_falling.specs.Along.{Taking, taken_all}
use Rattle.um_falling.proofs.WorkLaws.{keeps_then, next_taken}
use Rattle.um_falling.proofs.along.take_all.Goals as goal

-- the value of an index past the end
abbrev absent : Neighbour
absent = record { unit = 0; kinds = record { 0 = 0 } }

pub loop-neighbour-preserved : goal.loop-neighbour-preserved
loop-neighbour-preserved c =
    let v = c.args.work.now in
    let u = c.loop-neighbour.work in
    let w = c.take_next.new.work in
    let keeps = c.loop-neighbour.invariant.keeps in
    let row = c.neighbours-row.result.now in
    let before : Taking = (state_of u.now, c.loop-neighbour.list.items) in
    let after : Taking = (state_of w.now, c.take_next.new.list.items) in
    let whole : Taking = taken_all v.graph row (state_of v.now, c.args.list.now.items) in
    record {
      taken =
          next_taken v.graph u.graph row c.loop-neighbour.neighbour-index absent before after whole (omega arith) keeps.graph
          c.in_ok-take_next.ensures.taken c.loop-neighbour.invariant.taken;
      keeps = keeps_then v u w keeps c.in_ok-take_next.ensures.keeps;
      actions = c.in_ok-take_next.ensures.actions ∙ c.loop-neighbour.invariant.actions;
    }
