use Rattle.std.proofs.Common.{◌↔◌, map as each}
use Rattle.um_model.specs.Refusals.{Refused}
use Rattle.um_install.specs.Checks.{RefusesFirst}
use Rattle.um_install.specs.View.{name_and_loading}
use Rattle.um_install.proofs.enabling.check_units.Given as goal

-- the first of those that are left is the first of all
abbrev pub invariant-loop-unit : goal.invariant-loop-unit
invariant-loop-unit l = (r : Refused) → RefusesFirst (each name_and_loading l.unit-iterator) r ↔ RefusesFirst (each name_and_loading l.initial.unit-iterator) r
