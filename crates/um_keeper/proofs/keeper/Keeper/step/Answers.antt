use Rattle.std.proofs.Common.{◌∙◌, [], inr, refl, sym, ap}
use Rattle.std.proofs.lemmas.Bool.{true≢false}
use Rattle.um_log.specs.declared.write.Log.{Log}
use Rattle.um_keeper.proofs.Kept.{held_at, keeps_for, stores_at, on_disk_at}
use Rattle.um_keeper.proofs.Judged.{idle_left}
use Rattle.um_keeper.proofs.Offered.{nothing_offered}
use Rattle.um_keeper.proofs.Underway.{underway_kept, taken_none, kept_clean}
use Rattle.um_keeper.proofs.keeper.Keeper.step.Goals as goal

pub invariant_of-self : goal.invariant_of-self
invariant_of-self g c =
    let k = c.args.self.now in
    record {
      holds = held_at k.holds (ap (λ (l : Log). l.layout) c.advance.ensures.log) refl refl;
      synced = λ f. c.advance.ensures.unsynced ∙ k.synced f;
      kept = λ f h.
          let old = sym c.advance.ensures.honest ∙ h in
          let is = g.met.D.Disk.seen_is_image c.advance.new.disk h in
          let under = c.in-Ok.ensures.under old _ [] _ (underway_kept k.ahead.unsynced (g.met.D.Disk.seen_is_image k.disk old) (k.kept f old)) in
          keeps_for (kept_clean under (c.advance.ensures.unsynced ∙ k.synced f) is (on_disk_at (ap (λ (l : Log). l.layout) c.advance.ensures.log) (k.kept f old))) c.advance.ensures.size refl;
    }

pub returns-in-Ok-clause-during : goal.returns-in-Ok-clause-during
returns-in-Ok-clause-during g c f h =
    let k = c.args.self.now in
    taken_none (c.advance.ensures.during h _ [] _ (underway_kept k.ahead.unsynced (g.met.D.Disk.seen_is_image k.disk h) (k.kept f h)))

pub returns-in-Err-clause-during : goal.returns-in-Err-clause-during
returns-in-Err-clause-during g c f h =
    let k = c.args.self.now in
    taken_none (c.advance.ensures.during h _ [] _ (underway_kept k.ahead.unsynced (g.met.D.Disk.seen_is_image k.disk h) (k.kept f h)))

pub returns-in-Ok-clause-stored : goal.returns-in-Ok-clause-stored
returns-in-Ok-clause-stored g c f h =
    let k = c.args.self.now in
    let is = g.met.D.Disk.seen_is_image c.advance.new.disk (c.advance.ensures.honest ∙ h) in
    let under = c.in-Ok.ensures.under h _ [] _ (underway_kept k.ahead.unsynced (g.met.D.Disk.seen_is_image k.disk h) (k.kept f h)) in
    stores_at is (kept_clean under (c.advance.ensures.unsynced ∙ k.synced f) is (on_disk_at (ap (λ (l : Log). l.layout) c.advance.ensures.log) (k.kept f h))) (ap (λ (l : Log). l.layout) c.advance.ensures.log)

pub returns-in-Ok-clause-life : goal.returns-in-Ok-clause-life
returns-in-Ok-clause-life g c s before f h come = nothing_offered _ s _ before _ _ come (returns-in-Ok-clause-during g c f h)

pub returns-in-Err-clause-life : goal.returns-in-Err-clause-life
returns-in-Err-clause-life g c s before f h come = nothing_offered _ s _ before _ _ come (returns-in-Err-clause-during g c f h)

pub returns-in-Ok-clause-none : goal.returns-in-Ok-clause-none
returns-in-Ok-clause-none g c none f =
    let still = c.advance.ensures.none (idle_left c.args.self.now.ahead none) in
    (sym c.in-Ok.is ∙ still.0, still.1)

pub returns-in-Err-clause-stored : goal.returns-in-Err-clause-stored
returns-in-Err-clause-stored g c f h = absurd (true≢false (sym (c.noted.ensures.failed.1 (inr c.in-Err.ensures.refused)) ∙ f))
