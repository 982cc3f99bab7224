use Rattle.std.proofs.Common.{◌∙◌}
use Rattle.um_keeper.proofs.Results.{ok_from, ok_both}
use Rattle.um_keeper.proofs.Underway.{still_begun, during_begun, underway_settled, underway_clean}
use Rattle.um_keeper.proofs.recording.settle.Goals as goal

pub returns-then-ahead-clause-during : goal.returns-then-ahead-clause-during
returns-then-ahead-clause-during g c h s taken state under =
    let a = c.args.ahead.now in
    during_begun under (c.flush.ensures.during h a.home.slot a.home.generation under.body under.records under.more under.ahead)

pub returns-then-ahead-clause-ok : goal.returns-then-ahead-clause-ok
returns-then-ahead-clause-ok g c =
    let a = c.args.ahead.now in
    ok_from c.flush.result (λ both h s taken state under. underway_settled under (g.met.D.Disk.seen_is_image c.flush.new.disk (c.flush.ensures.honest ∙ h))
    (both.0 h a.home.slot a.home.generation under.body under.records under.more under.ahead) (both.1 h)) (ok_both c.flush.result _ _ c.flush.ensures.ok c.flush.ensures.read)

pub returns-clause-during : goal.returns-clause-during
returns-clause-during g c h s taken state under = still_begun under

pub returns-clause-ok : goal.returns-clause-ok
returns-clause-ok g c h s taken state under = underway_clean under c.if-ahead.false
