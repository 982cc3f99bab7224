use Rattle.std.proofs.Common.{◌≡◌, ℕ, inr, sym, subst}
use Rattle.std.proofs.lemmas.List.Elements.{Contains-push}
use Rattle.um_model.specs.Disk.{Sector, Past, candidates, after, wrote, MaybeWrote}
use Rattle.um_sector.proofs.fuse.Fuse.fail_write.Goals as goal

-- a write that was made is one that may have been made
maybe_wrote : (old : Past) (k : ℕ) (value : Sector) (new : Past) → new ≡ after (wrote k value value) old → MaybeWrote old k value new
maybe_wrote old k value new is = record { kept = value; candidate = Contains-push (candidates old k) value; is = is }

pub returns-in_err-write-clause-made : goal.returns-in_err-write-clause-made
returns-in_err-write-clause-made g c makes = record { answer = c.write.result; counts = c.write.ensures.failures; wrote = c.write.ensures.past }

pub returns-clause-past : goal.returns-clause-past
returns-clause-past g c h =
    let inner = c.fail-2.ensures.inner in
    let past = g.D.Disk.past in
    inr (subst (λ d. MaybeWrote (past c.args.self.now.inner) c.args.k c.args.sector.now (past d)) (sym inner)
    (maybe_wrote (past c.args.self.now.inner) c.args.k c.args.sector.now (past c.write.new.self) (c.in_ok-write.ensures.past h)))

pub returns-clause-made : goal.returns-clause-made
returns-clause-made g c makes =
    let D = g.D.Disk in
    let old = c.args.self.now.inner in
    let inner = c.fail-2.ensures.inner in
    record {
      answer = c.write.result;
      counts = subst (λ d. Rattle.um_sector.specs.Runs.CountsFailure c.write.result (D.failures old) (D.failures d)) (sym inner) c.write.ensures.failures;
      wrote = λ h. subst (λ d. Rattle.um_model.specs.Disk.Wrote c.write.result (D.past old) c.args.k c.args.sector.now (D.past d)) (sym inner) (c.write.ensures.past h);
    }
