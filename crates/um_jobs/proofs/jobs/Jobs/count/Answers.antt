use Rattle.std.proofs.Common.{◌≡◌, ◌∙◌, ◌++◌, length, take, drop, rules, sym, ap, arith}
use Rattle.std.proofs.Math.Seq.{take-append_seam}
use Rattle.um_jobs.proofs.FreshLaws.{kept_as, kept_of_none}
use Rattle.um_jobs.proofs.jobs.Jobs.count.Goals as goal

pub change_all-requires : goal.change_all-requires
change_all-requires c =
    let table = c.self.invariant.0 in
    record {
      kept = kept_of_none c.self.inside.graph.now table.graph c.len-len.result (omega (arith, c.len-len.ensures, table.units_long))
          c.deref.result.now (ap length c.deref.ensures.value ∙ table.held_long)
          c.deref_mut.result.now c.deref_mut-2.result.now c.in_ok-ready.ready (search rules) (search rules) (search rules);
    }

pub invariant_of-self : goal.invariant_of-self
invariant_of-self c =
    let table = c.self.invariant.0 in
    let kept = c.change_all.ensures.kept in
    let counts = c.change_all.new.counts in
    let rest = drop (length counts) c.in_ok-blockers.blockers.items in
    let long : c.in_ok-blockers.blockers.len ≡ length counts = omega (arith, c.in_ok-blockers.ensures.len, c.len-len.ensures, table.units_long, kept.counts_long) in
    let same_counts : take c.in_ok-blockers.blockers.len (counts ++ rest) ≡ counts = ap (λ n. take n (counts ++ rest)) long ∙ take-append_seam counts rest in
    let same_units : c.change_all.new.units ≡ c.self.inside.units.items =
    c.change_all.ensures.whole (omega (arith, ap length c.deref-2.ensures.value, table.units_long, kept.units_long, c.change_all.ensures.len)) ∙ c.deref-2.ensures.value in (
      table,
      kept_as c.self.inside.graph.now c.change_all.new.units c.self.inside.units.items c.deref.result.now c.self.inside.held.items
          counts (take c.in_ok-blockers.blockers.len (counts ++ rest)) c.change_all.new.ready same_units c.deref.ensures.value (sym same_counts) kept,
      c.self.invariant.2,
    )
