use Rattle.std.proofs.Common.{◌≡◌, false, ap, rules}
use Rattle.um_model.proofs.TreeLaws.{without_run_same}
use Rattle.um_model.specs.Profiles.{read_by}
use Rattle.um_model.specs.Tree.{has_run}
use Rattle.um_engine.proofs.known.lasting.Goals as goal

pub returns-then-not-has_run : goal.returns-then-not-has_run
returns-then-not-has_run c =
    let none : has_run c.args.reading.tree.now ≡ false = search rules in
    ap (read_by c.args.reading.profile) (without_run_same c.args.reading.tree.now none)
