use Rattle.std.proofs.Common.{◌∙◌, sym, arith}
use Rattle.um_laws.proofs.NameMaps.{seen, seen_nothing}
use Rattle.um_model.specs.Jobs.{no_jobs, with_jobs}
use Rattle.um_state.proofs.BackLaws.{all_passed, none_passed, one_passed}
use Rattle.um_state.proofs.rows.job_map_of.Goals as goal

pub loop-i-init : goal.loop-i-init
loop-i-init c = record {
  within = omega (arith, c.requires);
  put = seen_nothing c.new-entries.result c.new-entries.ensures.empty ∙ sym (none_passed no_jobs with_jobs c.args.names.now c.args.rows.now c.requires);
}

pub loop-i-preserved : goal.loop-i-preserved
loop-i-preserved c = record {
  within = omega (arith, c.loop-i.invariant.within);
  put = one_passed no_jobs with_jobs c.args.names.now c.args.rows.now c.requires c.loop-i.i (omega (arith, c.loop-i-test.true)) c.loop-i.invariant.within (seen c.loop-i.entries) (seen c.hold_job_row.new.entries)
      c.in_ok-hold_job_row.ensures c.loop-i.invariant.put;
}

pub returns : goal.returns
returns c = all_passed no_jobs with_jobs c.args.names.now c.args.rows.now c.requires c.loop-i.i (omega (arith, c.loop-i-test.false)) (seen c.loop-i.entries) c.loop-i.invariant.put
