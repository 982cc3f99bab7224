use Rattle.std.proofs.Common.{[]}
use Rattle.um_engine.proofs.DoneLaws.{heavy_is}
use Rattle.um_engine.proofs.engine.Engine.with_tables.Goals as goal

pub change_to-requires : goal.change_to-requires
change_to-requires c = c.requires

pub returns-in_err-change-clause-refused : goal.returns-in_err-change-clause-refused
returns-in_err-change-clause-refused c =
    heavy_is c.args.self.now.size c.args.moment c.args.served.state [] c.from_residual.result c.in_err-change.field-0.0 c.from_residual.ensures.1
    c.in_err-change.ensures.refused
