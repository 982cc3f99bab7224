use Rattle.std.proofs.Common.{◌+◌, refl, sym, ◌∙◌, ap, subst, take, arith}
use Rattle.um_model.specs.Disk.{seen}
use Rattle.um_sector.specs.Runs.{IsLaid}
use Rattle.um_model.specs.Disk.{one_more}
use Rattle.um_sector.proofs.RunLaws.{laid_start, laid_write, run_start, run_step, more-add_one, more-le, wrote_syncs}
use Rattle.um_sector.proofs.run.write_run.Goals as goal

pub loop-i-init : goal.loop-i-init
loop-i-init g c =
    let past = g.D.Disk.past c.args.disk.now in
    record {
      during = λ h. run_start past c.args.at c.args.run.now;
      laid = λ h. laid_start (seen past) c.args.at;
      calls = refl;
      syncs = λ h. refl;
      failures = refl;
      size = refl;
      honest = refl;
    }

pub returns-in_err-write-clause-during : goal.returns-in_err-write-clause-during
returns-in_err-write-clause-during g c h =
    run_step c.write.result (g.D.Disk.past c.args.disk.now) (g.D.Disk.past c.loop-i.disk) (g.D.Disk.past c.write.new.self) c.args.at c.args.run.now c.loop-i.i _
    c.loop-i-test.true refl (c.loop-i.invariant.during h) (c.write.ensures.past (c.loop-i.invariant.honest ∙ h))

pub loop-i-preserved : goal.loop-i-preserved
loop-i-preserved g c = record {
  during = λ h. run_step c.write.result (g.D.Disk.past c.args.disk.now) (g.D.Disk.past c.loop-i.disk) (g.D.Disk.past c.write.new.self) c.args.at c.args.run.now c.loop-i.i _
      c.loop-i-test.true refl (c.loop-i.invariant.during h) (c.write.ensures.past (c.loop-i.invariant.honest ∙ h));
  laid = λ h. subst (λ p. IsLaid (seen (g.D.Disk.past c.args.disk.now)) c.args.at (take (c.loop-i.i + 1) c.args.run.now) (seen p)) (sym (c.in_ok-write.ensures.past (c.loop-i.invariant.honest ∙ h)))
      (laid_write (seen (g.D.Disk.past c.args.disk.now)) c.args.at c.args.run.now (seen (g.D.Disk.past c.loop-i.disk)) c.loop-i.i _ c.loop-i-test.true refl (c.loop-i.invariant.laid h));
  calls = c.write.ensures.calls ∙ ap one_more c.loop-i.invariant.calls ∙ sym (more-add_one (g.D.Disk.calls c.args.disk.now) c.loop-i.i);
  syncs = λ h. wrote_syncs c.write.result (g.D.Disk.past c.loop-i.disk) _ _ (g.D.Disk.past c.write.new.self) (c.write.ensures.past (c.loop-i.invariant.honest ∙ h)) ∙ c.loop-i.invariant.syncs h;
  failures = c.in_ok-write.ensures.failures ∙ c.loop-i.invariant.failures;
  size = c.write.ensures.size ∙ c.loop-i.invariant.size;
  honest = c.write.ensures.honest ∙ c.loop-i.invariant.honest;
}

pub returns-in_err-write-clause-calls : goal.returns-in_err-write-clause-calls
returns-in_err-write-clause-calls g c =
    omega (arith, c.write.ensures.calls, c.loop-i.invariant.calls, more-le (g.D.Disk.calls c.args.disk.now) c.loop-i.i, c.loop-i-test.true)

pub returns-clause-calls : goal.returns-clause-calls
returns-clause-calls g c =
    omega (arith, c.loop-i.invariant.calls, more-le (g.D.Disk.calls c.args.disk.now) c.loop-i.i, c.loop-i.auto.i-end)

pub returns-in_err-write-clause-syncs : goal.returns-in_err-write-clause-syncs
returns-in_err-write-clause-syncs g c h =
    wrote_syncs c.write.result (g.D.Disk.past c.loop-i.disk) _ _ (g.D.Disk.past c.write.new.self) (c.write.ensures.past (c.loop-i.invariant.honest ∙ h)) ∙ c.loop-i.invariant.syncs h
