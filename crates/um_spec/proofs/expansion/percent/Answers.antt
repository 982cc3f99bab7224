use Rattle.std.proofs.Common.{◌≡◌, ◌<◌, ℕ, List, [], ◌∷◌, Some, length, get_or, slice_get, sym, ap, ◌∙◌, arith}
use Rattle.std.specs.Str.{IsUtf8, IsCharBoundary}
use Rattle.std.proofs.lemmas.Bool.Decides.{nat_tests}
use Rattle.std.proofs.lemmas.Option.{none-some, same_Some}
use Rattle.std.proofs.lemmas.Str.{IsCharBoundary-start, IsCharBoundary-after_ascii}
use Rattle.um_spec.proofs.expansion.percent.Goals as goal

first_is : (bytes : List ℕ) (b : ℕ) → Some b ≡ slice_get bytes 0 → (0 < length bytes) × (get_or bytes 0 0 ≡ b)
first_is [] b e = absurd (none-some b (sym e))
first_is (x ∷ xs) b e = (omega arith, sym (same_Some b x e))

-- a text may be cut after a first byte that is ASCII
behind_first : (text bytes : List ℕ) (b : ℕ) → IsUtf8 text → bytes ≡ text → Some b ≡ slice_get bytes 0 → b < 128 → IsCharBoundary text 1
behind_first text bytes b utf8 same first small =
    let at = first_is text b (first ∙ ap (λ t. slice_get t 0) same) in
    IsCharBoundary-after_ascii text 0 utf8 at.0 (omega (arith, at.1))

pub returns-in-Some-eq37-clause-boundary : goal.returns-in-Some-eq37-clause-boundary
returns-in-Some-eq37-clause-boundary c =
    behind_first c.args.after.now c.as_bytes.result.now c.in-Some-eq37.field-0.now c.utf8.after c.as_bytes.ensures.value c.in-Some-eq37.ensures.value (omega arith)

pub returns-in_ok-specified-in-Some-clause-boundary : goal.returns-in_ok-specified-in-Some-clause-boundary
returns-in_ok-specified-in-Some-clause-boundary c =
    behind_first c.args.after.now c.as_bytes.result.now c.in-Some.letter.now c.utf8.after c.as_bytes.ensures.value c.in-Some.ensures.value (grind (arith, nat_tests))

pub returns-in_default-clause-boundary : goal.returns-in_default-clause-boundary
returns-in_default-clause-boundary c = IsCharBoundary-start c.args.after.now c.utf8.after
