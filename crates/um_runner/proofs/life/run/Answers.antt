use Rattle.std.proofs.Common.{sym, subst, true, false}
use Rattle.std.specs.Prelude.{IsTrue}
use Rattle.um_runner.proofs.Living.{ours, yielded, failed, refused, ran}
use Rattle.um_runner.proofs.life.run.Goals as goal

pub returns-in_err-claim-clause-life : goal.returns-in_err-claim-clause-life
returns-in_err-claim-clause-life g c = λ h. failed _ _ _ _ _ c.from_residual.ensures.0 (c.in_err-claim.ensures.past h)

pub returns-then-not-branch-clause-life : goal.returns-then-not-branch-clause-life
returns-then-not-branch-clause-life g c = λ h. yielded _ _ _ _ _ c.if-not-branch.true (c.in_ok-claim.ensures.past h)

pub returns-in_default-clause-life : goal.returns-in_default-clause-life
returns-in_default-clause-life g c = λ h.
    let claimed = subst IsTrue (sym c.claim.ensures.honest) h in
    let started = subst IsTrue (sym c.start.ensures.honest) claimed in
    refused _ _ _ _ _ _ _ (ours _ _ _ c.if-not-branch.false (c.in_ok-claim.ensures.past h)) (c.in_default.ensures.past claimed) (c.write_status.ensures.past started)

pub returns-in-Ok-clause-life : goal.returns-in-Ok-clause-life
returns-in-Ok-clause-life g c = λ h.
    let claimed = subst IsTrue (sym c.claim.ensures.honest) h in
    let started = subst IsTrue (sym c.start.ensures.honest) claimed in
    let told = subst IsTrue (sym c.write_pid-told.ensures.honest) started in
    let ended = subst IsTrue (sym c.wait-end.ensures.honest) told in
    ran _ _ _ _ true _ _ _ _ _ _ _ (ours _ _ _ c.if-not-branch.false (c.in_ok-claim.ensures.past h)) (c.in-Some.ensures.past claimed) (c.in-Ok.ensures.past started)
    (c.wait-end.ensures.past told) (c.write_status-ended.ensures.past ended)

pub returns-in-Err-clause-life : goal.returns-in-Err-clause-life
returns-in-Err-clause-life g c = λ h.
    let claimed = subst IsTrue (sym c.claim.ensures.honest) h in
    let started = subst IsTrue (sym c.start.ensures.honest) claimed in
    let told = subst IsTrue (sym c.write_pid-told.ensures.honest) started in
    let ended = subst IsTrue (sym c.wait-end.ensures.honest) told in
    ran _ _ _ _ false _ _ _ _ _ _ _ (ours _ _ _ c.if-not-branch.false (c.in_ok-claim.ensures.past h)) (c.in-Some.ensures.past claimed) (c.in-Err.ensures.past started)
    (c.wait-end.ensures.past told) (c.write_status-ended.ensures.past ended)
