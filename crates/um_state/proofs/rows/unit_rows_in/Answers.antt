use Rattle.std.proofs.Common.{◌∙◌, arith}
use Rattle.std.proofs.lemmas.List.{length-set}
use Rattle.um_laws.proofs.NameMaps.{seen}
use Rattle.um_model.specs.Service.{dead_unit, state_of_unit}
use Rattle.um_name.specs.Names.{name_at}
use Rattle.um_state.proofs.RenumberLaws.{rows_set}
use Rattle.um_state.proofs.rows.unit_rows_in.Goals as goal

pub loop-i-preserved : goal.loop-i-preserved
loop-i-preserved c = record {
  len = length-set c.loop-i.rows.items c.loop-i.i c.state_numbered.result ∙ c.loop-i.invariant.len;
  rows = rows_set dead_unit c.loop-i.rows.items c.state_numbered.result c.loop-i.i (λ k. state_of_unit (seen c.args.entries.now) (name_at c.args.names.now k))
      (omega (arith, c.loop-i.invariant.len)) c.loop-i.invariant.rows c.state_numbered.ensures;
}
