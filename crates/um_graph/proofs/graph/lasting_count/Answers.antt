use Rattle.std.proofs.Common.{rules, ◌≡◌, ap, false}
use Rattle.um_model.specs.Profiles.{read_by}
use Rattle.um_model.proofs.TreeLaws.{without_run_same}
use Rattle.um_model.specs.Tree.{has_run}
use Rattle.um_graph.proofs.graph.lasting_count.Goals as goal

pub returns-then-not-has_run-clause-counts : goal.returns-then-not-has_run-clause-counts
returns-then-not-has_run-clause-counts c =
    let none : has_run c.args.reading.tree.now ≡ false = search rules in
    ap (read_by c.args.reading.profile) (without_run_same c.args.reading.tree.now none)
