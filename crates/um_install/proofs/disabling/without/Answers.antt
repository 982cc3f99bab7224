use Rattle.std.proofs.Common.{◌≢◌, ◌≡◌, ◌∙◌, ◌+◌, drop, Err, map as each, string_bytes, sym, ap, rules, arith}
use Rattle.um_model.specs.Tree.{remove_at}
use Rattle.um_wire.specs.Refusal.{refused_of}
use Rattle.um_wire.specs.declared.refusal.Refusal.TheVariants.{NoMemory}
use Rattle.um_install.specs.Changes.{and_then, removed}
use Rattle.um_install.proofs.StepLaws.{drop_front}
use Rattle.um_install.proofs.disabling.without.Goals as goal

pub returns-in_err-remove : goal.returns-in_err-remove
returns-in_err-remove c =
    let step : c.in_err-remove.field-0.0 ≢ NoMemory → removed c.args.tree.now (each string_bytes c.args.paths.now) ≡ Err (refused_of c.in_err-remove.field-0.0) =
    λ differs.
    sym c.loop-path.invariant
    ∙ ap (λ xs. removed c.loop-path.left (each string_bytes xs)) (drop_front c.args.paths.now c.loop-path.path-index c.path-item.result (omega (arith, c.loop-path-test.true)) (sym c.path-item.is))
    ∙ ap (λ r. and_then r (λ next. removed next (each string_bytes (drop (c.loop-path.path-index + 1) c.args.paths.now))))
    (ap (remove_at c.loop-path.left) (sym c.as_str.ensures.value) ∙ c.in_err-remove.ensures.refused differs) in
    search (rules, step)
