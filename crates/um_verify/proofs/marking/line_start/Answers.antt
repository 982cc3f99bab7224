use Rattle.std.proofs.Common.{◌≡◌, ◌+◌, ◌==◌, true, slice_index_or, ap, sym, ◌∙◌, arith, inr, ◌-◌, Some, slice_get}
use Rattle.std.proofs.lemmas.Option.{slice_get-get_or}
use Rattle.std.proofs.lemmas.List.Sums.{count_by_more_yes}
use Rattle.um_verify.proofs.marking.line_start.Goals as goal

pub returns-then-feeds-line : goal.returns-then-feeds-line
returns-then-feeds-line c =
    let text = c.args.text.now in
    let place = c.loop-place.place in
    let same = c.as_bytes-byte-items.ensures.value in
    let is : slice_index_or text place 0 ≡ 10 = sym (ap (λ t. slice_index_or t place 0) same) ∙ c.if-byte-eq10.true in
    let below = (rw same at c.loop-place-test.true) in
    let is_feed : (slice_index_or text place 0 == 10) ≡ true = ap (λ b. b == 10) is in
    let counted = count_by_more_yes (λ b. b == 10) text place 0 below is_feed in
    let back : place + 1 - 1 ≡ place = omega arith in (
      omega arith,
      ap (λ n. n + 1) (counted ∙ ap (λ n. n + 1) (sym c.loop-place.invariant.counted)) ∙ c.if-feeds-line.true,
      inr (ap (slice_get text) back ∙ slice_get-get_or text place 0 below ∙ ap Some is),
    )
