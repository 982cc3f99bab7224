use Rattle.std.proofs.Common.{◌≡◌, ◌++◌, map as each, string_bytes}
use Rattle.um_install.specs.Changes.{paths_unlinked}
use Rattle.um_install.specs.View.{units_of}
use Rattle.um_install.proofs.disabling.unlinked.Given as goal

-- those found and those of the entries that are left are all
abbrev pub invariant-loop-path : goal.invariant-loop-path
invariant-loop-path l =
    each string_bytes l.paths.items ++ paths_unlinked (units_of l.units.entries) l.path-iterator ≡ paths_unlinked (units_of l.units.entries) l.initial.path-iterator
