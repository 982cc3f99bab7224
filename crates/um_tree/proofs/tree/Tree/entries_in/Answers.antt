use Rattle.std.proofs.Common.{length, map as each, filter, ap, sym, ◌∙◌}
use Rattle.std.specs.Map.Iter.{TakesFirst}
use Rattle.std.specs.List.{starts_with}
use Rattle.std.specs.Prelude.{nat_eq}
use Rattle.std.proofs.iter.runs.Sources.{from_front}
use Rattle.std.specs.FinMap as map
use Rattle.um_tree.specs.Folder.{with_slash}
use Rattle.um_tree.specs.View.{stored_entry, path_and_entry, path_with_entry}
use Rattle.um_tree.proofs.TextMaps.{entries-map_of}
use Rattle.um_tree.proofs.Folders.{is_forward, ranged}
use Rattle.um_tree.proofs.tree.Tree.entries_in.Goals as goal

pub returns-in_err-first-clause-runs : goal.returns-in_err-first-clause-runs
returns-in_err-first-clause-runs c = from_front (TakesFirst path_with_entry) path_with_entry (λ rest. rest) (λ s t h. ap length h.0) (λ s x t h. h)

pub returns-in_err-end-clause-runs : goal.returns-in_err-end-clause-runs
returns-in_err-end-clause-runs c = from_front (TakesFirst path_with_entry) path_with_entry (λ rest. rest) (λ s t h. ap length h.0) (λ s x t h. h)

pub range-requires : goal.range-requires
range-requires c = is_forward c.args.folder.now _ _ c.in_ok-first.ensures c.in_ok-end.ensures

pub returns-clause-entries : goal.returns-clause-entries
returns-clause-entries c =
    c.of.ensures ∙ ap (each path_and_entry) (c.range.ensures.between tt)
    ∙ ranged c.args.folder.now c.in_ok-first.first c.in_ok-end.end c.in_ok-first.ensures c.in_ok-end.ensures c.self.inside.entries.entries
    ∙ ap (filter (λ e. starts_with nat_eq e.0 (with_slash c.args.folder.now))) (sym (entries-map_of stored_entry c.self.inside.entries c.range.ensures.ordered) ∙ ap map.entries c.self.view_is)

pub returns-clause-runs : goal.returns-clause-runs
returns-clause-runs c = from_front (TakesFirst path_with_entry) path_with_entry (λ rest. rest) (λ s t h. ap length h.0) (λ s x t h. h)
