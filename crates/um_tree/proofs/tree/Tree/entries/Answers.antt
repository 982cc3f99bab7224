use Rattle.std.proofs.Common.{length, map as each, ap, sym, ◌∙◌}
use Rattle.std.specs.Map.Iter.{TakesFirst}
use Rattle.std.proofs.iter.runs.Sources.{from_front}
use Rattle.std.specs.FinMap as map
use Rattle.um_tree.specs.View.{stored_entry, path_and_entry, path_with_entry}
use Rattle.um_tree.proofs.Folders.{all_between}
use Rattle.um_tree.proofs.TextMaps.{entries-map_of}
use Rattle.um_tree.proofs.tree.Tree.entries.Goals as goal

pub returns-clause-entries : goal.returns-clause-entries
returns-clause-entries c =
    c.of.ensures ∙ ap (each path_and_entry) (c.range.ensures.between tt ∙ all_between c.self.inside.entries.entries)
    ∙ sym (entries-map_of stored_entry c.self.inside.entries c.range.ensures.ordered) ∙ ap map.entries c.self.view_is

pub returns-clause-runs : goal.returns-clause-runs
returns-clause-runs c = from_front (TakesFirst path_with_entry) path_with_entry (λ rest. rest) (λ s t h. ap length h.0) (λ s x t h. h)
