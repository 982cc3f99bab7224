use Rattle.std.proofs.Common.{◌++◌, ◌∙◌, ap}
use Rattle.std.specs.BTreeMap.{is_at}
use Rattle.std.specs.Cmp.Lexicographic.{slice_cmp}
use Rattle.std.specs.FinMap as map
use Rattle.std.specs.List.{flat_map}
use Rattle.std.specs.Map.{lookup}
use Rattle.std.specs.Ordering.{nat_cmp}
use Rattle.um_unit.specs.View.{tree_read}
use Rattle.um_graph.specs.Known.{links_told}
use Rattle.um_graph.specs.Tells.{entry_names}
use Rattle.um_graph.proofs.KnownLaws.{begun_by}
use Rattle.um_graph.proofs.known.Known.begin.Goals as goal

pub returns-clause-whole : goal.returns-clause-whole
returns-clause-whole c =
    let tree = c.args.reading.tree.now in
    begun_by (tree_read c.args.reading) c.args.extra.now c.new.result c.take.new.self.loaded c.add_tree.new.self.names.items c.take.new.self.left.items c.add_tree.new.self.told.items c.take.new.self.told.items
    (λ x. ap (lookup (is_at (slice_cmp nat_cmp x))) c.new.ensures.empty)
    c.in_ok-take.ensures.loaded
    (c.in_ok-add_tree.ensures.told ∙ ap (λ ts. ts ++ links_told tree) c.in_ok-found.ensures.told)
    (c.in_ok-take.ensures.told ∙ ap (λ ts. ts ++ c.add_tree.new.self.told.items) c.new-3.ensures.items)
    (c.in_ok-add_tree.ensures.names ∙ ap (λ ns. ns ++ flat_map entry_names (map.entries tree)) c.in_ok-found.ensures.names)
    c.in_ok-take.ensures.left
