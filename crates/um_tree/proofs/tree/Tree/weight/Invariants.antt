use Rattle.std.proofs.Common.{◌≡◌, ◌+◌, ◌≤◌, ◌^◌, true}
use Rattle.std.specs.List.{sum_by, list_all}
use Rattle.um_model.specs.Tree.{is_fit_entry}
use Rattle.um_model.proofs.WeightLaws.{weight_by_entry}
use Rattle.um_tree.proofs.tree.Tree.weight.Given as goal

-- the weight so far and the weight of the rest add up to the weight of all, which is small; each entry of the rest is
-- allowed at its path
abbrev pub invariant-loop-path : goal.invariant-loop-path
invariant-loop-path l = record {
  whole : l.weight + sum_by weight_by_entry l.path-iterator ≡ sum_by weight_by_entry l.initial.path-iterator;
  light : sum_by weight_by_entry l.initial.path-iterator ≤ 2 ^ 29;
  fit : list_all (λ e. is_fit_entry e.0 e.1) l.path-iterator ≡ true;
}
