use Rattle.std.proofs.Common.{◌≡◌, ◌++◌, map as each}
use Rattle.std.specs.List.{flat_map}
use Rattle.um_model.specs.Install as model
use Rattle.um_unit.specs.View.{loading_of}
use Rattle.um_install.specs.View.{link_of}
use Rattle.um_install.proofs.links.links_of.Given as goal

-- those so far and those of the units that are left are all
abbrev pub invariant-loop-loading : goal.invariant-loop-loading
invariant-loop-loading l =
    each link_of l.links.items ++ flat_map model.links_of (each loading_of l.loading-iterator) ≡ flat_map model.links_of (each loading_of l.initial.loading-iterator)
