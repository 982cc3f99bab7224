use Rattle.std.proofs.Common.{◌≡◌, ◌-◌, suc, ap, sym, ◌∙◌, arith}
use Rattle.um_model.specs.Resolution.{Nowhere}
use Rattle.um_resolve.specs.View.{after_step}
use Rattle.um_resolve.proofs.ResolutionLemmas.{ended, led_on}
use Rattle.um_resolve.proofs.resolution.+resolved.Goals as goal

pub returns-in-Ends : goal.returns-in-Ends
returns-in-Ends t c =
    ended c.args.hops c.args.tree.now c.args.unit.now _ (λ follow. ap (λ s. after_step s follow) (sym c.in-Ends.is) ∙ c.in_ok-end.ensures follow)

pub returns-else-hops-eq0 : goal.returns-else-hops-eq0
returns-else-hops-eq0 t c =
    let one : c.args.hops ≡ suc (c.args.hops - 1) = omega (arith, c.if-hops-eq0.false) in
    rw (led_on c.args.hops (c.args.hops - 1) c.args.tree.now c.args.unit.now c.in-LeadsOn.other (λ follow. ap (λ s. after_step s follow) (sym c.in-LeadsOn.is) ∙ c.in_ok-end.ensures follow) one) at c.resolved.ensures

pub returns-then-hops-eq0 : goal.returns-then-hops-eq0
returns-then-hops-eq0 t c =
    let none : c.args.hops ≡ 0 = omega (arith, c.if-hops-eq0.true) in
    rw none (ap (λ s. after_step s (λ other. Nowhere)) (sym c.in-LeadsOn.is) ∙ c.in_ok-end.ensures (λ other. Nowhere))
