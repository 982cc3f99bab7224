use Rattle.std.proofs.Common.{inl, inr, refl, arith}
use Rattle.um_keeper.proofs.Judged.{owed_most}
use Rattle.um_keeper.proofs.Results.{ok_from}
use Rattle.um_keeper.proofs.Underway.{still_begun}
use Rattle.um_keeper.proofs.recording.make_room.Goals as goal

pub returns-then-fits-clause-during : goal.returns-then-fits-clause-during
returns-then-fits-clause-during g c h s taken under = still_begun under

pub returns-then-fits-clause-rises : goal.returns-then-fits-clause-rises
returns-then-fits-clause-rises g c = inl (refl, refl, omega arith)

pub returns-clause-rises : goal.returns-clause-rises
returns-clause-rises g c =
    let owes = owed_most c.args.ahead.now.unsynced in
    ok_from c.renew.result (λ next. inr (next.1, omega (arith, c.renew.ensures.calls, owes), λ idle. let few = c.renew.ensures.none idle in omega (arith, few, owes))) c.renew.ensures.next
