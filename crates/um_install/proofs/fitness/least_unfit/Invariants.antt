use Rattle.std.proofs.Common.{◌≡◌, drop, None, option_map, map as each}
use Rattle.um_install.specs.Checks.{is_unfit, least_of}
use Rattle.um_install.specs.View.{link_of, text_of}
use Rattle.um_install.proofs.fitness.least_unfit.Given as goal

-- the least of the one found so far and of those left is the least of all
abbrev pub invariant-loop-link : goal.invariant-loop-link
invariant-loop-link l =
    least_of is_unfit (option_map text_of l.least) (each link_of (drop l.link-index l.links)) ≡ least_of is_unfit None (each link_of l.links)
