use Rattle.std.proofs.Common.{◌∙◌, ap, flat_map}
use Rattle.std.proofs.lemmas.List.{take_all}
use Rattle.um_model.specs.Transitions.{live_numbers}
use Rattle.um_state.proofs.NumberLists.{numbers_more}
use Rattle.um_state.proofs.unit_bytes.processes_of.Goals as goal

pub loop-unit-preserved : goal.loop-unit-preserved
loop-unit-preserved c =
    numbers_more c.args.rows.now c.loop-unit.unit-index c.unit-item.result c.loop-unit.numbers.items c.push_process.new.told.items c.push_process-in-loop-unit.new.told.items
    c.loop-unit-test.true c.unit-item.is c.loop-unit.invariant c.in_ok-push_process.ensures c.in_ok-push_process-2.ensures

pub returns : goal.returns
returns c = c.loop-unit.invariant ∙ ap (flat_map live_numbers) (take_all c.loop-unit.unit-index c.args.rows.now c.loop-unit-test.false)
