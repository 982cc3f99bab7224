use Rattle.std.proofs.Common.{◌≡◌, drop, map as each}
use Rattle.std.specs.FinMap as map
use Rattle.um_install.specs.Checks.{with_targets}
use Rattle.um_install.specs.View.{link_of, targets_of}
use Rattle.um_install.proofs.links.targets_of.Given as goal

-- those left, added to the map at hand, are all
abbrev pub invariant-loop-link : goal.invariant-loop-link
invariant-loop-link l = with_targets (targets_of l.targets.entries) (each link_of (drop l.link-index l.links)) ≡ with_targets map.empty (each link_of l.links)
