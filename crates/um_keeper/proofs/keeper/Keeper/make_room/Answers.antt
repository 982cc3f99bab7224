use Rattle.std.proofs.Common.{◌∙◌, [], refl, sym}
use Rattle.um_keeper.proofs.Kept.{held_at, keeps_for, on_disk_at}
use Rattle.um_keeper.proofs.Spent.{free_at}
use Rattle.um_keeper.proofs.Underway.{underway_kept, taken_none, kept_clean}
use Rattle.um_keeper.proofs.keeper.Keeper.make_room.Goals as goal

pub invariant_of-self : goal.invariant_of-self
invariant_of-self g c =
    let k = c.args.self.now in
    let clean = c.make_room.ensures.clean (k.synced c.requires.working) in
    record {
      holds = held_at k.holds c.make_room.ensures.layout refl refl;
      synced = λ f. clean;
      kept = λ f h.
          let old = sym c.make_room.ensures.honest ∙ h in
          let is = g.met.D.Disk.seen_is_image c.make_room.new.disk h in
          let before = k.kept c.requires.working old in
          let under = c.in-Ok.ensures.ok old _ [] (underway_kept k.ahead.unsynced (g.met.D.Disk.seen_is_image k.disk old) before) in
          keeps_for (kept_clean under clean is (on_disk_at c.make_room.ensures.layout before)) c.make_room.ensures.size refl;
    }

pub returns-in-Ok-clause-during : goal.returns-in-Ok-clause-during
returns-in-Ok-clause-during g c h =
    let k = c.args.self.now in
    taken_none (c.make_room.ensures.during h _ [] (underway_kept k.ahead.unsynced (g.met.D.Disk.seen_is_image k.disk h) (k.kept c.requires.working h)))

pub returns-in-Err-clause-during : goal.returns-in-Err-clause-during
returns-in-Err-clause-during g c h =
    let k = c.args.self.now in
    taken_none (c.make_room.ensures.during h _ [] (underway_kept k.ahead.unsynced (g.met.D.Disk.seen_is_image k.disk h) (k.kept c.requires.working h)))

pub returns-in-Ok-clause-free : goal.returns-in-Ok-clause-free
returns-in-Ok-clause-free g c from free = let there = c.make_room.ensures.free from (free_at free) in record { start = there.start; behind = there.behind }

pub returns-in-Err-clause-free : goal.returns-in-Err-clause-free
returns-in-Err-clause-free g c from free = let there = c.make_room.ensures.free from (free_at free) in record { start = there.start; behind = there.behind }
