use Rattle.std.proofs.Common.{◌≡◌, length, Some, sym, ap, ◌∙◌, arith}
use Rattle.um_model.specs.Names.{suffix_of}
use Rattle.um_model.proofs.NamesLaws.{length-suffix, is_unit_name-stem}
use Rattle.um_name.proofs.unit_name.named_suffix.Goals as goal

pub slice_bounds-stem-count : goal.slice_bounds-stem-count
slice_bounds-stem-count c =
    let ends : suffix_of c.args.text.now ≡ Some c.in_ok-suffix.suffix = sym c.suffix_of.ensures ∙ c.in_ok-suffix.was in
    omega (arith, length-suffix c.args.text.now c.in_ok-suffix.suffix ends, ap length c.text.ensures)

pub returns-then-is_stem : goal.returns-then-is_stem
returns-then-is_stem c =
    let ends : suffix_of c.args.text.now ≡ Some c.in_ok-suffix.suffix = sym c.suffix_of.ensures ∙ c.in_ok-suffix.was in
    let told = is_unit_name-stem c.args.text.now c.in_ok-suffix.suffix ends (omega arith) in
    record { name = grind (arith, told); ends = ends }

pub returns-else-is_stem : goal.returns-else-is_stem
returns-else-is_stem c =
    let ends : suffix_of c.args.text.now ≡ Some c.in_ok-suffix.suffix = sym c.suffix_of.ensures ∙ c.in_ok-suffix.was in
    let told = is_unit_name-stem c.args.text.now c.in_ok-suffix.suffix ends (omega arith) in
    grind (arith, told)
