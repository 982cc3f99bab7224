use Rattle.std.proofs.Common.{◌≡◌}
use Rattle.std.specs.List.{list_any}
use Rattle.um_install.specs.Changes.{is_unlinked}
use Rattle.um_install.specs.View.{units_of}
use Rattle.um_install.proofs.enabled.is_linked.Given as goal

-- a path among those left is among all
abbrev pub invariant-loop-path : goal.invariant-loop-path
invariant-loop-path l = list_any (is_unlinked (units_of l.units.entries)) l.path-iterator ≡ list_any (is_unlinked (units_of l.units.entries)) l.initial.path-iterator
