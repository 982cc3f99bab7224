use Rattle.std.proofs.Common.{◌++◌, ◌∷◌, [], sym, ap, subst}
use Rattle.um_model.specs.Machine.{State}
use Rattle.um_model.specs.Standing.{Standing}
use Rattle.um_state.specs.View.{input_of}
use Rattle.um_keeper.specs.Underway.{UnderwayIn}
use Rattle.um_keeper.proofs.Kept.{held_at, held_after, record_short}
use Rattle.um_keeper.proofs.recording.record.Goals as goal

pub write-requires-clause-short : goal.write-requires-clause-short
write-requires-clause-short g c fits = record_short c.requires.held fits c.requires.step.step c.requires.step.accepted

pub returns-in-Ok-clause-during : goal.returns-in-Ok-clause-during
returns-in-Ok-clause-during g c h s taken under = c.write.ensures.during h c.args.next c.requires.step s taken under

pub returns-in-Err-clause-during : goal.returns-in-Err-clause-during
returns-in-Err-clause-during g c h s taken under = c.write.ensures.during h c.args.next c.requires.step s taken under

pub returns-in-Ok-clause-under : goal.returns-in-Ok-clause-under
returns-in-Ok-clause-under g c h s taken under =
    subst (λ (z : State). UnderwayIn s (taken ++ input_of c.args.input.now ∷ []) (g.D.Disk.past c.write.new.disk) c.write.new.ahead z) (sym (ap (λ (x : Standing). x.state) c.commit-reply.ensures.state))
    (c.in-Ok.ensures.under h c.args.next c.requires.step s taken under)

pub returns-in-Ok-clause-held : goal.returns-in-Ok-clause-held
returns-in-Ok-clause-held g c =
    held_at (held_after c.requires.held c.in-Ok.ensures.has_bytes c.requires.step.step) c.write.ensures.layout c.commit-reply.ensures.size (ap (λ (s : Standing). s.state) c.commit-reply.ensures.state)
