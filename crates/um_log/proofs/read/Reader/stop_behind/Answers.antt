use Rattle.std.proofs.Common.{◌∙◌, inl, inr, refl, sym, arith}
use Rattle.std.proofs.lemmas.Bool.{true≢false}
use Rattle.um_log.proofs.read.Reader.stop_behind.Goals as goal

pub returns-then-stop-j : goal.returns-then-stop-j
returns-then-stop-j c = inr ((λ same. absurd (omega (arith, same, c.if-stop-j.true))), refl)

pub returns-then-is_in_place : goal.returns-then-is_in_place
returns-then-is_in_place c = inl (omega (arith, c.if-stop-j.false), c.is_in_place.ensures.0 c.if-is_in_place.true, refl)

pub returns-else-is_in_place : goal.returns-else-is_in_place
returns-else-is_in_place c = inr ((λ same is. true≢false (sym (c.is_in_place.ensures.1 is) ∙ c.if-is_in_place.false)), refl)
