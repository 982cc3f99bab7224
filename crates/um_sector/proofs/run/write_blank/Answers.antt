use Rattle.std.specs.Prelude.{◌≡◌, ◌<◌, ℕ, [], length, replicate, slice_index_or}
use Rattle.std.proofs.lemmas.List.{get_or-replicate, length-replicate}
use Rattle.std.proofs.Common.{◌+◌, refl, sym, ◌∙◌, ap, subst, take, arith}
use Rattle.um_model.specs.Disk.{seen, one_more}
use Rattle.um_sector.specs.Runs.{IsLaid}
use Rattle.um_sector.proofs.RunLaws.{laid_start, laid_write, run_start, run_step, more-add_one}
use Rattle.um_sector.specs.Noted.{blank}
use Rattle.um_sector.proofs.run.write_blank.Goals as goal

-- each of the run's sectors is zero
below : (count i : ℕ) → i < count → i < length (replicate count blank)
below count i low = omega (arith, low, length-replicate count blank)

zeros : (count i : ℕ) → i < count → blank ≡ slice_index_or (replicate count blank) i []
zeros count i low = sym (get_or-replicate count i blank [] low)

pub loop-i-init : goal.loop-i-init
loop-i-init g c =
    let past = g.D.Disk.past c.args.disk.now in
    record {
      during = λ h. run_start past c.args.at (replicate c.args.count blank);
      laid = λ h. laid_start (seen past) c.args.at;
      calls = refl;
      failures = refl;
      size = refl;
      honest = refl;
    }

pub returns-in_err-write-clause-during : goal.returns-in_err-write-clause-during
returns-in_err-write-clause-during g c h =
    run_step c.write.result (g.D.Disk.past c.args.disk.now) (g.D.Disk.past c.loop-i.disk) (g.D.Disk.past c.write.new.self) c.args.at (replicate c.args.count blank) c.loop-i.i _
    (below c.args.count c.loop-i.i c.loop-i-test.true) (zeros c.args.count c.loop-i.i c.loop-i-test.true) (c.loop-i.invariant.during h) (c.write.ensures.past (c.loop-i.invariant.honest ∙ h))

pub loop-i-preserved : goal.loop-i-preserved
loop-i-preserved g c = record {
  during = λ h. run_step c.write.result (g.D.Disk.past c.args.disk.now) (g.D.Disk.past c.loop-i.disk) (g.D.Disk.past c.write.new.self) c.args.at (replicate c.args.count blank) c.loop-i.i _
      (below c.args.count c.loop-i.i c.loop-i-test.true) (zeros c.args.count c.loop-i.i c.loop-i-test.true) (c.loop-i.invariant.during h) (c.write.ensures.past (c.loop-i.invariant.honest ∙ h));
  laid = λ h. subst (λ p. IsLaid (seen (g.D.Disk.past c.args.disk.now)) c.args.at (take (c.loop-i.i + 1) (replicate c.args.count blank)) (seen p)) (sym (c.in_ok-write.ensures.past (c.loop-i.invariant.honest ∙ h)))
      (laid_write (seen (g.D.Disk.past c.args.disk.now)) c.args.at (replicate c.args.count blank) (seen (g.D.Disk.past c.loop-i.disk)) c.loop-i.i _ (below c.args.count c.loop-i.i c.loop-i-test.true) (zeros c.args.count c.loop-i.i c.loop-i-test.true) (c.loop-i.invariant.laid h));
  calls = c.write.ensures.calls ∙ ap one_more c.loop-i.invariant.calls ∙ sym (more-add_one (g.D.Disk.calls c.args.disk.now) c.loop-i.i);
  failures = c.in_ok-write.ensures.failures ∙ c.loop-i.invariant.failures;
  size = c.write.ensures.size ∙ c.loop-i.invariant.size;
  honest = c.write.ensures.honest ∙ c.loop-i.invariant.honest;
}
