use Rattle.std.proofs.Common.{◌≡◌, map as each}
use Rattle.std.specs.List.{list_all}
use Rattle.um_model.specs.Tree.{is_fit_entry}
use Rattle.um_tree.specs.View.{path_and_entry}
use Rattle.um_tree.proofs.bytes.are_tree.Given as goal

-- the remaining entries all fit exactly if all entries fit
abbrev pub invariant-loop-path : goal.invariant-loop-path
invariant-loop-path l = list_all (λ e. is_fit_entry e.0 e.1) (each path_and_entry l.path-iterator) ≡ list_all (λ e. is_fit_entry e.0 e.1) (each path_and_entry l.initial.path-iterator)
