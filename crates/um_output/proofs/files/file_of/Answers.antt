use Rattle.std.proofs.Common.{rules, ◌≡◌, ◌++◌, ◌⊎◌, ◌≤◌, ◌<◌, ◌^◌}
use Rattle.std.specs.Prelude.{decimal}
use Rattle.um_model.specs.Moments.{process_limit}
use Rattle.um_output.proofs.FileNames.{other_number}
use Rattle.um_output.specs.Files.{ending}
use Rattle.um_output.proofs.files.file_of.Goals as goal

pub returns-in_err-number : goal.returns-in_err-number
returns-in_err-number c =
    let splits : c.args.name.now ≡ c.in_ok-digits.digits.now ++ ending c.args.part = search rules in
    let tells : c.in_ok-digits.digits.now ≡ decimal c.in_ok-number_in.field-0 = search rules in
    let past : (c.in_ok-number_in.field-0 ≡ 0) ⊎ (process_limit ≤ c.in_ok-number_in.field-0) = search rules in
    let fits : c.in_ok-number_in.field-0 < 2 ^ 64 = search rules in
    rw c.from_residual-in_err-number.ensures (other_number _ _ _ _ splits tells fits past)
