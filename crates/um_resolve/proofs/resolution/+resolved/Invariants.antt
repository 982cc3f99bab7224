use Rattle.um_resolve.proofs.resolution.+resolved.Given as goal

abbrev pub decreases-resolved : goal.decreases-resolved
decreases-resolved l = l.hops
