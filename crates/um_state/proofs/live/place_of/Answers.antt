use Rattle.std.proofs.Common.{arith}
use Rattle.um_state.proofs.LiveLaws.{absent, one_told}
use Rattle.um_state.proofs.live.place_of.Goals.{else-i-list-via-then-i-list+else-list-i, else-i-list-via-else-i-list}
use Rattle.um_state.proofs.live.place_of.Goals as goal

pub returns-then-list-i : goal.returns-then-list-i
returns-then-list-i c =
    let has = c.if-list-i.true in
    record { within = omega arith; has = has; told = one_told c.args.list.now c.lower_than-i.result c.args.number c.requires (omega arith) has }

pub returns-else-i-list : goal.returns-else-i-list
returns-else-i-list c =
    absent c.args.list.now c.lower_than-i.result c.args.number c.requires c.lower_than-i.ensures.lower c.lower_than-i.ensures.others (λ l e. elim c.else-i-list.branch [
      | else-i-list-via-then-i-list+else-list-i w ↦ w.if-list-i.false e
      | else-i-list-via-else-i-list w ↦ absurd (omega (arith, l, w.if-i-list.false))
    ])
