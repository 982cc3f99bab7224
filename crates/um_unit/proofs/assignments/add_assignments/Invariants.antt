use Rattle.std.proofs.Common.{◌≡◌, ◌++◌, map, drop, Some, None, option_map}
use Rattle.um_model.specs.FileForms.{in_sections}
use Rattle.um_syntax.specs.Items.{item_of}
use Rattle.um_unit.specs.Sources.{assigned_in, assigned_of}
use Rattle.um_unit.proofs.assignments.add_assignments.Given as goal

-- the assignments so far and those of the items left are all
abbrev pub invariant-loop-item : goal.invariant-loop-item
invariant-loop-item l =
    map assigned_of l.assigned.items ++ assigned_in (Some l.suffix) (in_sections (option_map (λ s. s.now) l.section) (map item_of (drop l.item-index l.items)))
    ≡ map assigned_of l.fn.assigned.items ++ assigned_in (Some l.suffix) (in_sections None (map item_of l.items))
