use Rattle.std.proofs.Common.{◌≢◌, map as each, sym, ap, subst, ◌∙◌, rules}
use Rattle.std.specs.FinMap as map
use Rattle.um_model.specs.Install.{CannotEnable}
use Rattle.um_model.specs.Refusals.{Refused}
use Rattle.um_tree.proofs.TextMaps.{entries-map_of}
use Rattle.um_unit.specs.View.{loading_of}
use Rattle.um_wire.specs.Refusal.{refused_of}
use Rattle.um_wire.specs.declared.refusal.Refusal.TheVariants.{NoMemory}
use Rattle.um_install.specs.Checks.{RefusesFirst, here}
use Rattle.um_install.specs.View.{name_and_loading, units_of}
use Rattle.um_install.proofs.StepLaws.{passed_over, none_first}
use Rattle.um_install.proofs.enabling.check_units.Goals as goal

pub loop-unit-preserved : goal.loop-unit-preserved
loop-unit-preserved c = λ r.
    let free : (q : Refused) → ¬ CannotEnable (name_and_loading (c.in-Some.unit.now, c.in-Some.loading.now)).0 (loading_of c.in-Some.loading.now) q =
    subst (λ n. (q : Refused) → ¬ CannotEnable n (loading_of c.in-Some.loading.now) q) c.as_str.ensures.value c.in_ok-check_unit.ensures in
    let p = passed_over (name_and_loading (c.in-Some.unit.now, c.in-Some.loading.now)) (each name_and_loading c.next.new.self) free r in
    let i = c.loop-unit.invariant r in (
      λ h. i.0 (subst (λ es. RefusesFirst (each name_and_loading es) r) (sym c.in-Some.ensures.steps) (p.0 h)),
      λ h. p.1 (subst (λ es. RefusesFirst (each name_and_loading es) r) c.in-Some.ensures.steps (i.1 h)),
    )

pub returns-in_err-check_unit : goal.returns-in_err-check_unit
returns-in_err-check_unit c =
    let all = c.into_iter-unit-iterator.ensures.into_iter_gives ∙ c.iter-unit-items.ensures.rest in
    let r = refused_of c.in_err-check_unit.field-0.0 in
    let step : c.in_err-check_unit.field-0.0 ≢ NoMemory → RefusesFirst (map.entries (units_of c.args.units.now.entries)) r =
    λ differs.
    subst (λ es. RefusesFirst es r) (ap (each name_and_loading) all ∙ sym (entries-map_of loading_of c.args.units.now c.iter-unit-items.ensures.ordered))
    ((c.loop-unit.invariant r).0
    (subst (λ es. RefusesFirst (each name_and_loading es) r) (sym c.in-Some.ensures.steps)
    (here {e = name_and_loading (c.in-Some.unit.now, c.in-Some.loading.now)}
    (subst (λ n. CannotEnable n (loading_of c.in-Some.loading.now) r) c.as_str.ensures.value (c.in_err-check_unit.ensures differs))))) in
    search (rules, step)

pub returns : goal.returns
returns c = λ r h.
    let all = c.into_iter-unit-iterator.ensures.into_iter_gives ∙ c.iter-unit-items.ensures.rest in
    none_first r
    (subst (λ es. RefusesFirst (each name_and_loading es) r) c.in-None.ensures.steps.0
    ((c.loop-unit.invariant r).1
    (subst (λ es. RefusesFirst es r) (sym (ap (each name_and_loading) all ∙ sym (entries-map_of loading_of c.args.units.now c.iter-unit-items.ensures.ordered))) h)))
