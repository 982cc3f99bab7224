use Rattle.std.proofs.Common.{◌∙◌, [], refl, sym}
use Rattle.um_keeper.proofs.Kept.{held_at, keeps_for, on_disk_at}
use Rattle.um_keeper.proofs.Offered.{nothing_offered}
use Rattle.um_keeper.proofs.Underway.{underway_kept, taken_none, kept_clean, told_anew}
use Rattle.um_keeper.proofs.keeper.Keeper.checkpoint.Goals as goal

pub invariant_of-self : goal.invariant_of-self
invariant_of-self g c =
    let k = c.args.self.now in
    record {
      holds = held_at k.holds c.write_anew.ensures.layout refl refl;
      synced = λ f. c.in-Ok.ensures.unsynced;
      kept = λ f h.
          let old = sym c.write_anew.ensures.honest ∙ h in
          let is = g.met.D.Disk.seen_is_image c.write_anew.new.disk h in
          let before = k.kept c.if-self.false old in
          let under = c.in-Ok.ensures.ok old _ [] (underway_kept k.ahead.unsynced (g.met.D.Disk.seen_is_image k.disk old) before) in
          keeps_for (kept_clean under c.in-Ok.ensures.unsynced is (on_disk_at c.write_anew.ensures.layout before)) c.write_anew.ensures.size refl;
    }

pub returns-in-Ok-clause-during : goal.returns-in-Ok-clause-during
returns-in-Ok-clause-during g c f h =
    let k = c.args.self.now in
    taken_none (c.write_anew.ensures.during h _ [] (underway_kept k.ahead.unsynced (g.met.D.Disk.seen_is_image k.disk h) (k.kept f h)))

pub returns-in-Err-clause-during : goal.returns-in-Err-clause-during
returns-in-Err-clause-during g c f h =
    let k = c.args.self.now in
    taken_none (c.write_anew.ensures.during h _ [] (underway_kept k.ahead.unsynced (g.met.D.Disk.seen_is_image k.disk h) (k.kept f h)))

pub returns-in-Ok-clause-stored : goal.returns-in-Ok-clause-stored
returns-in-Ok-clause-stored g c h =
    let k = c.args.self.now in
    let is = g.met.D.Disk.seen_is_image c.write_anew.new.disk (c.write_anew.ensures.honest ∙ h) in
    let before = k.kept c.if-self.false h in
    let under = c.in-Ok.ensures.ok h _ [] (underway_kept k.ahead.unsynced (g.met.D.Disk.seen_is_image k.disk h) before) in
    told_anew is (kept_clean under c.in-Ok.ensures.unsynced is (on_disk_at c.write_anew.ensures.layout before)) c.write_anew.ensures.layout c.in-Ok.ensures.idle c.in-Ok.ensures.number

pub returns-in-Ok-clause-life : goal.returns-in-Ok-clause-life
returns-in-Ok-clause-life g c s before f h come = nothing_offered _ s _ before _ _ come (returns-in-Ok-clause-during g c f h)

pub returns-in-Err-clause-life : goal.returns-in-Err-clause-life
returns-in-Err-clause-life g c s before f h come = nothing_offered _ s _ before _ _ come (returns-in-Err-clause-during g c f h)
