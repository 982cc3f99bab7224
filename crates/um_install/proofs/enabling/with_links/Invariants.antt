use Rattle.std.proofs.Common.{◌≡◌, map as each}
use Rattle.um_install.specs.Changes.{linked}
use Rattle.um_install.specs.View.{path_and_target}
use Rattle.um_install.proofs.enabling.with_links.Given as goal

-- the links left, put into the tree at hand, give the whole result
abbrev pub invariant-loop-path : goal.invariant-loop-path
invariant-loop-path l = linked l.linked (each path_and_target l.path-iterator) ≡ linked l.tree (each path_and_target l.initial.path-iterator)
