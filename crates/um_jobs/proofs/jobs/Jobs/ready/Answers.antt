use Rattle.std.proofs.Common.{◌≡◌, ◌∙◌, IfSome, true, false, sym, subst}
use Rattle.um_model.specs.Jobs.{IsToldBefore, Job}
use Rattle.um_model.specs.Least.{IsLeast}
use Rattle.um_model.specs.declared.jobs.JobKind.TheVariants.{Stop, Start}
use Rattle.um_jobs.specs.Counts.{IsKept, is_stop_free}
use Rattle.um_jobs.specs.Jobs.{IsReadyIn, JobsView, job_named}
use Rattle.um_jobs.proofs.FreeLaws.{none_least, start_least, stop_least}
use Rattle.um_jobs.proofs.jobs.Jobs.ready.Goals as goal

pub returns-in_default-least-clause-least : goal.returns-in_default-least-clause-least
returns-in_default-least-clause-least c =
    let s = c.self.inside in
    let k = c.in-Some.counted in
    let kept = subst (λ counted. IfSome counted (λ k. IsKept s.graph.now s.units.items s.held.items k.blockers.items k.ready)) c.in-Some.is c.self.invariant.1 in
    subst (λ (v : JobsView). (job : Job) → IsReadyIn v.graph v job → ⊥) c.self.view_is
    (none_least s.graph.now s.units.items s.held.items k.blockers.items k.ready kept c.in_default-least.ensures)

pub returns-then-is_stop_free-clause-least : goal.returns-then-is_stop_free-clause-least
returns-then-is_stop_free-clause-least c =
    let s = c.self.inside in
    let k = c.in-Some.counted in
    let kept = subst (λ counted. IfSome counted (λ k. IsKept s.graph.now s.units.items s.held.items k.blockers.items k.ready)) c.in-Some.is c.self.invariant.1 in
    let e : is_stop_free s.units.items k.blockers.items c.in-Some-least.unit ≡ true =
    (λ i. is_stop_free (sym c.deref-2.ensures.value i) (sym c.deref-3.ensures.value i) c.in-Some-least.unit) ∙ (sym c.is_stop_free.ensures ∙ c.if-is_stop_free.true) in
    subst (λ (v : JobsView). IsLeast IsToldBefore (IsReadyIn v.graph v) (job_named v.graph c.in-Some-least.unit Stop)) c.self.view_is
    (stop_least s.graph.now s.units.items s.held.items k.blockers.items k.ready kept c.in-Some-least.unit c.in-Some-least.ensures e)

pub returns-clause-least : goal.returns-clause-least
returns-clause-least c =
    let s = c.self.inside in
    let k = c.in-Some.counted in
    let kept = subst (λ counted. IfSome counted (λ k. IsKept s.graph.now s.units.items s.held.items k.blockers.items k.ready)) c.in-Some.is c.self.invariant.1 in
    let e : is_stop_free s.units.items k.blockers.items c.in-Some-least.unit ≡ false =
    (λ i. is_stop_free (sym c.deref-2.ensures.value i) (sym c.deref-3.ensures.value i) c.in-Some-least.unit) ∙ (sym c.is_stop_free.ensures ∙ c.if-is_stop_free.false) in
    subst (λ (v : JobsView). IsLeast IsToldBefore (IsReadyIn v.graph v) (job_named v.graph c.in-Some-least.unit Start)) c.self.view_is
    (start_least s.graph.now s.units.items s.held.items k.blockers.items k.ready kept c.in-Some-least.unit c.in-Some-least.ensures e)
