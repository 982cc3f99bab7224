use Rattle.um_laws.proofs.NameMaps.{seen}
use Rattle.um_model.specs.Jobs.{no_jobs, jobs_of_unit}
use Rattle.um_name.specs.Names.{name_at}
use Rattle.um_state.proofs.RenumberLaws.{rows_more, len_more}
use Rattle.um_state.proofs.rows.job_rows_in.Goals as goal

pub loop-i-preserved : goal.loop-i-preserved
loop-i-preserved c = record {
  len = len_more c.loop-i.rows.items c.push.new.self.items c.jobs_numbered.result c.loop-i.i c.in_ok-push.ensures.items c.loop-i.invariant.len;
  rows = rows_more no_jobs c.loop-i.rows.items c.push.new.self.items c.jobs_numbered.result c.loop-i.i (λ k. jobs_of_unit (seen c.args.entries.now) (name_at c.args.names.now k))
      c.in_ok-push.ensures.items c.loop-i.invariant.len c.loop-i.invariant.rows c.jobs_numbered.ensures;
}
