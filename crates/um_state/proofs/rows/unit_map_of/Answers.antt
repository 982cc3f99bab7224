use Rattle.std.proofs.Common.{◌∙◌, ◌-◌, ap, sym, arith}
use Rattle.um_laws.proofs.NameMaps.{seen, seen_nothing}
use Rattle.um_model.specs.Service.{dead_unit, with_unit}
use Rattle.um_state.proofs.BackLaws.{all_passed, none_passed, one_passed}
use Rattle.um_name.specs.Names.{name_at}
use Rattle.um_state.proofs.FindingLaws.{row_is}
use Rattle.um_state.proofs.rows.unit_map_of.Goals as goal

pub loop-i-init : goal.loop-i-init
loop-i-init c = record {
  within = omega (arith, c.requires);
  put = seen_nothing c.new-entries.result c.new-entries.ensures.empty ∙ sym (none_passed dead_unit with_unit c.args.names.now c.args.rows.now c.requires);
}

pub loop-i-preserved : goal.loop-i-preserved
loop-i-preserved c = record {
  within = omega (arith, c.loop-i.invariant.within);
  put = one_passed dead_unit with_unit c.args.names.now c.args.rows.now c.requires c.loop-i.i (omega (arith, c.loop-i-test.true)) c.loop-i.invariant.within (seen c.loop-i.entries) (seen c.hold_row.new.entries)
      (c.in_ok-hold_row.ensures
      ∙ ap (with_unit (seen c.loop-i.entries) (name_at c.args.names.now (c.loop-i.i - 1))) (row_is c.args.rows.now (c.loop-i.i - 1) c.index-rows-i.result (omega arith) c.index-rows-i.is))
      c.loop-i.invariant.put;
}

pub returns : goal.returns
returns c = all_passed dead_unit with_unit c.args.names.now c.args.rows.now c.requires c.loop-i.i (omega (arith, c.loop-i-test.false)) (seen c.loop-i.entries) c.loop-i.invariant.put
