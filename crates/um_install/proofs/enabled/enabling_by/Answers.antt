use Rattle.std.proofs.Common.{string_bytes, vec_len, sym, ◌∙◌, arith}
use Rattle.um_install.proofs.StepLaws.{asks_some, not_empty}
use Rattle.um_install.proofs.enabled.enabling_by.Goals as goal

pub returns-then-not-is_empty : goal.returns-then-not-is_empty
returns-then-not-is_empty c =
    let some = not_empty (vec_len c.args.install.now.alias) (sym c.is_empty.ensures ∙ c.if-not-is_empty.true) in
    asks_some string_bytes c.args.install.now.alias.items _ _ _ (omega (arith, some))
