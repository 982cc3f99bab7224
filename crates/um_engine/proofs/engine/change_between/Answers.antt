use Rattle.std.proofs.Common.{refl}
use Rattle.um_engine.proofs.engine.change_between.Goals as goal

pub rows_between-requires : goal.rows_between-requires
rows_between-requires c = c.requires

pub returns-clause-tells : goal.returns-clause-tells
returns-clause-tells c = record { effect = refl; rows = c.in_ok-rows.ensures.rows; tables = c.in_ok-rows.ensures.none }
