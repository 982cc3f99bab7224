use Rattle.std.proofs.Common.{sym}
use Rattle.um_state.proofs.FindingLaws.{none_told, told_or_not}
use Rattle.um_state.proofs.finder.Finder.row.Goals as goal

pub returns-in-Some : goal.returns-in-Some
returns-in-Some c =
    told_or_not c.args.rows.now c.args.self.now c.args.number c.in-Some.row c.requires c.if-self.false (sym c.in-Some.ensures) c.row_with.result c.row_with.ensures

pub returns-in-None : goal.returns-in-None
returns-in-None c = none_told c.args.rows.now c.args.self.now c.args.number c.requires c.if-self.false (sym c.in-None.ensures)
