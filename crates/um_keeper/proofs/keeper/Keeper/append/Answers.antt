use Rattle.std.proofs.Common.{◌∙◌, Ok, ap, sym}
use Rattle.um_log.specs.declared.write.Log.{Log}
use Rattle.um_keeper.proofs.Aside.{written_room}
use Rattle.um_keeper.proofs.Kept.{during_begun, kept_recorded, held_at, held_after, keeps_for}
use Rattle.um_keeper.proofs.Results.{err_ok, the_other}
use Rattle.um_keeper.proofs.Spent.{free_still}
use Rattle.um_keeper.proofs.keeper.Keeper.append.Goals as goal

pub invariant_of-self-in-Ok-true : goal.invariant_of-self-in-Ok-true
invariant_of-self-in-Ok-true g c =
    let k = c.args.self.now in
    let done = c.in-Ok-true.is ∙ ap Ok c.in-Ok-true.field-0-test in
    record {
      holds = held_at (held_after k.holds c.requires.has_bytes c.requires.step.step) c.append.ensures.of.0 c.commit-reply.ensures.size (ap (λ s. s.state) c.commit-reply.ensures.state);
      synced = k.synced;
      kept = λ f h.
          let old = sym c.append.ensures.honest ∙ h in
          keeps_for (kept_recorded (g.met.D.Disk.seen_is_image k.disk old) k.holds (k.kept f old) c.requires.has_bytes c.requires.step.step c.requires.bytes
          (c.append.ensures.ok done old) (g.met.D.Disk.seen_is_image c.append.new.disk h)
          (written_room k.ahead.log.layout k.ahead.aside.body.items k.ahead.aside.written k.ahead.aside.going k.ahead.aside.none k.ahead.short) c.requires.fits.within (c.append.ensures.read done old)
          c.append.ensures.of.0 c.append.ensures.of.1)
          c.append.ensures.size (ap (λ s. s.state) c.commit-reply.ensures.state);
    }

pub returns-in-Ok-true-clause-during : goal.returns-in-Ok-true-clause-during
returns-in-Ok-true-clause-during g c h =
    let k = c.args.self.now in
    during_begun (g.met.D.Disk.seen_is_image k.disk h) k.holds (k.kept c.requires.working h) c.requires.has_bytes c.requires.step.step c.requires.bytes (c.append.ensures.during h)

pub returns-in-Err-clause-during : goal.returns-in-Err-clause-during
returns-in-Err-clause-during g c h =
    let k = c.args.self.now in
    during_begun (g.met.D.Disk.seen_is_image k.disk h) k.holds (k.kept c.requires.working h) c.requires.has_bytes c.requires.step.step c.requires.bytes (c.append.ensures.during h)

pub returns-in-Err-clause-free : goal.returns-in-Err-clause-free
returns-in-Err-clause-free g c from free = free_still c.append.ensures.of.0 c.append.ensures.of.1 (ap (λ (z : Log). z.next) (the_other err_ok c.in-Err.ensures.same)) free
