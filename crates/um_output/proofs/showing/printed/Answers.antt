use Rattle.std.proofs.Common.{rules, ◌≡◌, ◌<◌, length}
use Rattle.std.proofs.lemmas.List.{nil_from_length}
use Rattle.um_output.proofs.ShownLaws.{shown_more, shown_last, size_some, size_within}
use Rattle.um_output.proofs.showing.printed.Goals as goal

pub split_at-requires : goal.split_at-requires
split_at-requires c = size_within c.loop-rest.rest.now _ c.decode-c.ensures.size

pub loop-rest-smaller : goal.loop-rest-smaller
loop-rest-smaller c =
    let some : 0 < length c.loop-rest.rest.now = search rules in
    let one = size_some c.loop-rest.rest.now _ c.decode-c.ensures.size some in search rules

pub loop-rest-preserved : goal.loop-rest-preserved
loop-rest-preserved c =
    let some : 0 < length c.loop-rest.rest.now = search rules in
    let more = shown_more _ c.loop-rest.rest.now _ _ _ c.decode-c.ensures.char c.decode-c.ensures.size some c.loop-rest.invariant in search rules

pub returns : goal.returns
returns c =
    let none : length c.loop-rest.rest.now ≡ 0 = search rules in shown_last _ _ _ (nil_from_length _ none) c.loop-rest.invariant
