use Rattle.std.proofs.Common.{◌≡◌, map, take}
use Rattle.um_verify.specs.Findings.{tree_with}
use Rattle.um_verify.proofs.given.tree_of.Given as goal

-- the tree of the files so far
abbrev pub invariant-loop-path : goal.invariant-loop-path
invariant-loop-path l = l.tree ≡ tree_with (map (λ f. (f.0.now, f.1.now)) (take l.path-index l.files))
