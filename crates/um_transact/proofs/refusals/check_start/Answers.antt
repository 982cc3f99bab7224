use Rattle.um_transact.proofs.CheckLaws.{nowhere, behind_a_mask, of_bad_setting}
use Rattle.um_transact.proofs.refusals.check_start.Goals as goal

pub returns-in-Found : goal.returns-in-Found
returns-in-Found c = rw c.in-Found.is c.check_found.ensures

pub returns-in_ok-not_found-in-NotFound : goal.returns-in_ok-not_found-in-NotFound
returns-in_ok-not_found-in-NotFound c =
    rw c.in-NotFound.is (λ differs. nowhere c.args.asked.now _ (rw c.as_str.ensures.value at c.in_ok-not_found-in-NotFound.ensures))

pub returns-in_ok-masked-in-Masked : goal.returns-in_ok-masked-in-Masked
returns-in_ok-masked-in-Masked c =
    rw c.in-Masked.is (λ differs. behind_a_mask c.args.asked.now _ _ (rw c.as_str-in-Masked.ensures.value at c.in_ok-masked-in-Masked.ensures))

pub returns-in_ok-bad_setting-in-BadSetting : goal.returns-in_ok-bad_setting-in-BadSetting
returns-in_ok-bad_setting-in-BadSetting c =
    rw c.in-BadSetting.is (λ differs. of_bad_setting c.args.asked.now _ _ _
    (rw (c.as_str-in-BadSetting.ensures.value, c.as_str-in-BadSetting-2.ensures.value) at c.in_ok-bad_setting-in-BadSetting.ensures))
