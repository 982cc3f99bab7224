use Rattle.std.proofs.Common.{◌∙◌, length, sym, arith}
use Rattle.um_jobs.proofs.KeptLaws.{counted_of, kept_so}
use Rattle.um_jobs.proofs.NamedLaws.{all_put}
use Rattle.um_jobs.proofs.marks.change_all.Goals as goal

pub recount_all-requires : goal.recount_all-requires
recount_all-requires c = record { counted = counted_of c.args.graph.now c.args.units.now c.args.held.now c.args.counts.now c.args.ready.now c.requires.kept }

pub returns-clause-whole : goal.returns-clause-whole
returns-clause-whole c = λ e.
    let is = c.recount_all.ensures in
    all_put c.args.plan.now c.recount_all.new.units (length c.args.units.now) is.each (omega (arith, is.len)) (e ∙ sym is.len)

pub returns-clause-kept : goal.returns-clause-kept
returns-clause-kept c = kept_so c.args.graph.now c.recount_all.new.units c.args.held.now c.recount_all.new.counts c.mark_all.new.ready c.recount_all.ensures.counted
    c.requires.kept.held_long (c.mark_all.ensures.len ∙ c.requires.kept.ready_long) c.mark_all.ensures.each
