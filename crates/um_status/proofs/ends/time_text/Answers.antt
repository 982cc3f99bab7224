use Rattle.std.proofs.Common.{◌/◌, ◌<◌, ◌^◌, ◌*ℤ◌, pos, ap, ◌∙◌, arith, w64}
use Rattle.std.proofs.Math.IntN.{pos-*ℤ-pos, +ℤ_idr}
use Rattle.std.proofs.lemmas.Int.{to_z_pos}
use Rattle.um_status.proofs.ends.time_text.Goals as goal

pub returns : goal.returns
returns c =
    let seconds = c.args.moment / 1000000 in
    let small : seconds < 2 ^ 63 = omega arith in
    let nanos = c.in-Ok.ensures.value ∙ ap (λ z. z *ℤ pos 1000000000) (to_z_pos w64 seconds small) ∙ pos-*ℤ-pos seconds 1000000000 in
    (c.to_datetime-shown.result, c.to_datetime-shown.ensures ∙ +ℤ_idr _ ∙ nanos, c.in_ok-text.ensures.ok)
