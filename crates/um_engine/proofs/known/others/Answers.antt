use Rattle.std.proofs.Common.{◌≡◌, ◌⊎◌, ◌∙◌, ◌<◌, length, Contains, get_or, inl, inr, ap, rules, subst, sym, arith}
use Rattle.std.proofs.lemmas.Bool.{cases_lt}
use Rattle.std.proofs.lemmas.List.{get_or_default}
use Rattle.std.proofs.lemmas.List.Elements.{Contains-get_or}
use Rattle.um_engine.proofs.known.others.Goals as goal

pub loop-unit-preserved : goal.loop-unit-preserved
loop-unit-preserved c =
    let items = c.args.units.now in
    let known = c.args.known.now in
    let later = c.push_other.new.others.items in
    let n = c.loop-unit.unit-index in
    let x = c.unit-item.result in
    let low : n < length items = omega (arith, c.loop-unit-test.true) in
    let here : get_or items n x ≡ x = search (rules, c.unit-item.is) in
    record {
      each = λ i h d.
          elim (cases_lt i n) as (λ _. Contains later (get_or items i d) ⊎ Contains known (get_or items i d)) [
            | inl lower ↦ elim (c.loop-unit.invariant.each i lower d) as (λ _. Contains later (get_or items i d) ⊎ Contains known (get_or items i d)) [
              | inl there ↦ inl (c.in_ok-push_other.ensures.keeps (get_or items i d) there)
              | inr among ↦ inr among
            ]
            | inr past ↦
                let same : i ≡ n = omega (arith, h, past) in
                let is : x ≡ get_or items n d = sym here ∙ get_or_default items n x d low in
                subst (λ x. Contains later x ⊎ Contains known x) (is ∙ ap (λ k. get_or items k d) (sym same)) c.in_ok-push_other.ensures.has
          ];
      only = λ name there.
          elim (c.in_ok-push_other.ensures.only name there) as (λ _. Contains items name) [
            | inl before ↦ c.loop-unit.invariant.only name before
            | inr is ↦ subst (Contains items) is (subst (Contains items) here (Contains-get_or items n x low))
          ];
    }

pub returns-clause-has : goal.returns-clause-has
returns-clause-has c = λ unit there.
    subst (λ x. Contains c.loop-unit.others.items x ⊎ Contains c.args.known.now x) there.2
    (c.loop-unit.invariant.each there.0 (omega (arith, there.1, c.loop-unit-test.false)) unit)
