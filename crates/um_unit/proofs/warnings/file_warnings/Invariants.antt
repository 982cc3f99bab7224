use Rattle.std.proofs.Common.{◌≡◌, ◌++◌, map, drop, option_map}
use Rattle.std.specs.List.{flat_map}
use Rattle.um_model.specs.FileForms.{in_sections}
use Rattle.um_model.specs.Syntax.{line_number}
use Rattle.um_syntax.specs.Items.{item_of}
use Rattle.um_unit.specs.Sources.{source_of}
use Rattle.um_unit.specs.Tests as tests
use Rattle.um_unit.specs.View.{warning_of}
use Rattle.um_unit.proofs.warnings.file_warnings.Given as goal

-- the warnings so far and those of the items left are all
abbrev pub invariant-loop-item : goal.invariant-loop-item
invariant-loop-item l =
    map (warning_of l.source.path.now) l.warnings.items
    ++ flat_map (λ p. tests.warnings_at l.source.path.now (line_number p.item) (tests.warning_of l.profile l.unit p.section p.item)) (in_sections (option_map (λ s. s.now) l.section) (map item_of (drop l.item-index l.item-items)))
    ≡ tests.warned_in l.profile l.unit (source_of l.source)
