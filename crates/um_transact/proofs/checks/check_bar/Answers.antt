use Rattle.std.proofs.Common.{◌≡◌, ◌∙◌, true, ap, sym}
use Rattle.um_transact.specs.Checks.{is_started}
use Rattle.um_transact.specs.Walk.{marks_at}
use Rattle.um_transact.proofs.CheckLaws.{bars_by}
use Rattle.um_transact.proofs.checks.check_bar.Goals as goal

pub returns : goal.returns
returns c =
    let started : is_started (marks_at c.args.marks.now c.args.unit) ≡ true = ap is_started (sym c.marks_of.ensures) ∙ (sym c.is_started.ensures ∙ c.if-not-is_started.false) in
    bars_by c.args.graph.now c.args.marks.now c.args.unit c.check_unit.result started c.check_unit.ensures
