use Rattle.std.proofs.Common.{◌≡◌, ◌-◌, ℕ, ◌++◌, Some, length, sym, ap, ◌∙◌, subst, arith, IsCharBoundary, length-append}
use Rattle.std.proofs.lemmas.Str.{IsCharBoundary-at_seam}
use Rattle.um_model.specs.Names.{suffix_of, stem_of}
use Rattle.um_model.proofs.NamesLaws.{length-suffix, stem_of-suffix, stem_of-take}
use Rattle.um_name.proofs.unit_name.UnitName.stem.Goals as goal

pub overflow_sub-text : goal.overflow_sub-text
overflow_sub-text c =
    let ends : suffix_of c.as_str-text.result.now ≡ Some c.self.inside.suffix = ap suffix_of (c.as_str-text.ensures.value ∙ sym c.self.view_is) ∙ c.self.invariant.ends in
    omega (arith, length-suffix c.as_str-text.result.now c.self.inside.suffix ends, ap length c.text.ensures)

pub range-requires-clause-end_boundary : goal.range-requires-clause-end_boundary
range-requires-clause-end_boundary c =
    let text = c.as_str-text.result.now in
    let ends : suffix_of text ≡ Some c.self.inside.suffix = ap suffix_of (c.as_str-text.ensures.value ∙ sym c.self.view_is) ∙ c.self.invariant.ends in
    let seam : text ≡ stem_of text ++ c.text.result.now = stem_of-suffix text c.self.inside.suffix ends ∙ ap (λ p. stem_of text ++ p) (sym c.text.ensures) in
    let place : length (stem_of text) ≡ length text - length c.text.result.now = omega (arith, ap length seam, length-append (stem_of text) c.text.result.now) in
    let P : ℕ → Type 0 = λ i. IsCharBoundary text i in
    subst P place (IsCharBoundary-at_seam text (stem_of text) c.text.result.now seam c.text.utf8)

pub returns : goal.returns
returns c =
    let whole = sym (stem_of-take (c.args.self.now) c.self.inside.suffix (ap suffix_of (sym c.self.view_is) ∙ c.self.invariant.ends)) in
    grind (arith, whole)
