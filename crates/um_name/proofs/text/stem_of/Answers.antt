use Rattle.std.proofs.Common.{◌≡◌, ◌-◌, ℕ, ◌++◌, Some, length, sym, ap, ◌∙◌, subst, arith, IsCharBoundary, length-append}
use Rattle.std.proofs.lemmas.Str.{IsCharBoundary-at_seam}
use Rattle.um_model.specs.Names.{suffix_of, stem_of}
use Rattle.um_model.proofs.NamesLaws.{length-suffix, stem_of-suffix, stem_of-take}
use Rattle.um_name.proofs.Stems.{stem_whole}
use Rattle.um_name.proofs.text.stem_of.Goals as goal

pub overflow_sub-text : goal.overflow_sub-text
overflow_sub-text c =
    omega (arith, length-suffix c.args.text.now c.in-Some.suffix (sym c.in-Some.ensures), ap length c.text.ensures)

pub range-requires-clause-end_boundary : goal.range-requires-clause-end_boundary
range-requires-clause-end_boundary c =
    let text = c.args.text.now in
    let ends : suffix_of text ≡ Some c.in-Some.suffix = sym c.in-Some.ensures in
    let seam : text ≡ stem_of text ++ c.text.result.now = stem_of-suffix text c.in-Some.suffix ends ∙ ap (λ p. stem_of text ++ p) (sym c.text.ensures) in
    let place : length (stem_of text) ≡ length text - length c.text.result.now = omega (arith, ap length seam, length-append (stem_of text) c.text.result.now) in
    let P : ℕ → Type 0 = λ i. IsCharBoundary text i in
    subst P place (IsCharBoundary-at_seam text (stem_of text) c.text.result.now seam c.text.utf8)

pub returns-in-Some : goal.returns-in-Some
returns-in-Some c =
    let whole = sym (stem_of-take c.args.text.now c.in-Some.suffix (sym c.in-Some.ensures)) in
    grind (arith, whole)

pub returns-in-None : goal.returns-in-None
returns-in-None c = stem_whole c.args.text.now (sym c.in-None.ensures)
