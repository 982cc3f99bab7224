use Rattle.std.proofs.Common.{◌≡◌, drop, map as each, string_bytes}
use Rattle.um_install.specs.Changes.{removed}
use Rattle.um_install.proofs.disabling.without.Given as goal

-- the paths left, removed from the tree at hand, give the whole result
abbrev pub invariant-loop-path : goal.invariant-loop-path
invariant-loop-path l = removed l.left (each string_bytes (drop l.path-index l.paths)) ≡ removed l.tree (each string_bytes l.paths)
