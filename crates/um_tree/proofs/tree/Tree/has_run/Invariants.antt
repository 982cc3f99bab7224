use Rattle.std.proofs.Common.{◌≡◌}
use Rattle.std.specs.List.{list_any}
use Rattle.um_model.specs.Tree.{is_volatile}
use Rattle.um_tree.proofs.tree.Tree.has_run.Given as goal

-- the remaining entries have one under `run/` exactly if all entries do
abbrev pub invariant-loop-path : goal.invariant-loop-path
invariant-loop-path l = list_any (λ e. is_volatile e.0) l.path-iterator ≡ list_any (λ e. is_volatile e.0) l.initial.path-iterator
