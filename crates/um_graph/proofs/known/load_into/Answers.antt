use Rattle.std.proofs.Common.{◌∙◌, ap}
use Rattle.um_model.specs.Profiles.{read_by}
use Rattle.um_model.specs.Dependencies.{loadable_of}
use Rattle.um_model.specs.Units.{load}
use Rattle.um_graph.specs.Tells.{told_where}
use Rattle.um_graph.proofs.known.load_into.Goals as goal

pub returns-clause-told : goal.returns-clause-told
returns-clause-told c =
    let tree = c.args.resolved.now in
    let loads = c.in_ok-loading.ensures ∙ ap (λ t. load (read_by c.args.profile t) c.args.name) c.tree.ensures in
    c.in_ok-told.ensures.told ∙ ap (λ l. told_where tree (loadable_of l)) loads

pub returns-clause-loaded : goal.returns-clause-loaded
returns-clause-loaded c = (c.in_ok-loading.loading, c.in_ok-loading.ensures ∙ ap (λ t. load (read_by c.args.profile t) c.args.name) c.tree.ensures, c.in_ok-insert.ensures.updates)
