use Rattle.std.proofs.Common.{◌≡◌, ◌++◌, map, drop, Some, None, option_map}
use Rattle.um_model.specs.FileForms.{in_sections}
use Rattle.um_syntax.specs.Items.{item_of}
use Rattle.um_verify.specs.Findings.{spots_in}
use Rattle.um_verify.specs.View.{spot_of}
use Rattle.um_verify.proofs.spots.add_spots.Given as goal

-- the assignments so far and those of the rest are all
abbrev pub invariant-loop-item : goal.invariant-loop-item
invariant-loop-item l =
    map spot_of l.spots.items ++ spots_in (Some l.suffix) l.path (in_sections (option_map (λ s. s.now) l.section) (map item_of (drop l.item-index l.items)))
    ≡ map spot_of l.fn.spots.items ++ spots_in (Some l.suffix) l.path (in_sections None (map item_of l.items))
