use Rattle.std.proofs.Common.{◌<◌, length, sym, arith}
use Rattle.um_answer.proofs.ListedLaws.{listed_more, none_listed}
use Rattle.um_state.specs.View.{state_of}
use Rattle.um_answer.proofs.listing.listed_in.Goals as goal
use Rattle.um_answer.proofs.listing.listed_in.Goals.{in-Some+in_ok-unit_listed+in_ok-push, in_default}

pub loop-unit-preserved : goal.loop-unit-preserved
loop-unit-preserved c =
    let s = state_of c.args.state.now in
    let names = c.args.graph.now.names in
    let low : c.loop-unit.unit < length names = omega (arith, c.loop-unit-test.true, c.len-unit-end.ensures.len) in
    elim c.match-name.branch [
      | in-Some+in_ok-unit_listed+in_ok-push w ↦ rw w.listed-is
          (listed_more s names c.loop-unit.unit w.in-Some.name.now c.loop-unit.listed.items w.push.new.self.items w.in_ok-unit_listed.field-0 low (sym (rw w.in-Some.is at c.name.ensures))
          w.in_ok-unit_listed.ensures w.in_ok-push.ensures.items c.loop-unit.invariant)
      | in_default w ↦ absurd (none_listed names c.loop-unit.unit low (sym (rw w.in_default.is at c.name.ensures)))
    ]
