use Rattle.std.proofs.Common.{◌∙◌}
use Rattle.um_model.specs.Disk.{seen}
use Rattle.um_keeper.proofs.Replaying.{behind_same}
use Rattle.um_keeper.proofs.Results.{if_ok_all_four}
use Rattle.um_keeper.proofs.Telling.{remain_of, remain_there}
use Rattle.um_keeper.proofs.opening.replay_all.Goals as goal

-- of the log as it goes on after the records, and of the disk as it was given
pub returns-clause-remains : goal.returns-clause-remains
returns-clause-remains g c =
    let old = c.args.reader.now in
    let reader = c.replay.new.reader in
    if_ok_all_four c.remains.result _ _ _ _ _
    (λ remains greatest stop uncounted later h.
    let h1 = c.replay.ensures.honest ∙ h in
    let p0 = g.D.Disk.past c.args.disk.now in
    let p1 = g.D.Disk.past c.replay.new.disk in
    let same = c.replay.ensures.past h in
    let of = c.replay.ensures.of in
    remain_there old.format reader.format old.layout reader.layout old.generation reader.generation p0 p1 of.0 of.1 of.2 same remains
    (remain_of reader.format reader.layout reader.generation (seen p1) reader.number reader.next
    (behind_same old.format reader.format old.layout reader.layout old.generation reader.generation p0 p1 of.0 of.1 of.2 same reader.number reader.next (c.in_ok-replay.ensures.all h))
    remains (greatest h1) (stop h1) (uncounted h1) (later h1)))
    c.remains.ensures.greatest c.remains.ensures.stop c.remains.ensures.uncounted c.remains.ensures.later
