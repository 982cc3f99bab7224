use Rattle.std.proofs.Common.{sym, subst}
use Rattle.um_model.specs.Install.{CannotEnable}
use Rattle.um_unit.specs.View.{loading_of}
use Rattle.um_wire.specs.Refusal.{refused_of}
use Rattle.um_wire.specs.Gives.{RefusesBy}
use Rattle.um_install.proofs.StepLaws.{nowhere, behind_a_mask, of_bad_setting}
use Rattle.um_install.proofs.enabling.check_unit.Goals as goal

pub returns-in-Found : goal.returns-in-Found
returns-in-Found c = subst (λ l. RefusesBy (CannotEnable c.args.unit.now (loading_of l)) c.check_found.result) (sym c.in-Found.is) c.check_found.ensures

pub returns-in_ok-not_found-in-NotFound : goal.returns-in_ok-not_found-in-NotFound
returns-in_ok-not_found-in-NotFound c = λ differs.
    let e = c.in_ok-not_found-in-NotFound.field-0 in
    subst (λ l. CannotEnable c.args.unit.now (loading_of l) (refused_of e)) (sym c.in-NotFound.is) (nowhere c.args.unit.now (refused_of e) c.in_ok-not_found-in-NotFound.ensures)

pub returns-in_ok-masked-in-Masked : goal.returns-in_ok-masked-in-Masked
returns-in_ok-masked-in-Masked c = λ differs.
    let e = c.in_ok-masked-in-Masked.field-0 in
    subst (λ l. CannotEnable c.args.unit.now (loading_of l) (refused_of e)) (sym c.in-Masked.is)
    (behind_a_mask c.args.unit.now c.in-Masked.unit (refused_of e) (rw c.as_str.ensures.value at c.in_ok-masked-in-Masked.ensures))

pub returns-in_ok-bad_setting-in-BadSetting : goal.returns-in_ok-bad_setting-in-BadSetting
returns-in_ok-bad_setting-in-BadSetting c = λ differs.
    let e = c.in_ok-bad_setting-in-BadSetting.field-0 in
    subst (λ l. CannotEnable c.args.unit.now (loading_of l) (refused_of e)) (sym c.in-BadSetting.is)
    (of_bad_setting c.args.unit.now c.in-BadSetting.unit _ (refused_of e)
    (rw (c.as_str-in-BadSetting.ensures.value, c.as_str-in-BadSetting-2.ensures.value) at c.in_ok-bad_setting-in-BadSetting.ensures))
