use Rattle.std.proofs.Common.{rules, ◌≡◌, ◌+◌, ◌-◌, ◌^◌, ◌∷◌, [], drop, length, map, string_bytes, sym, ap, ◌∙◌, arith}
use Rattle.std.specs.Prelude.{min}
use Rattle.std.proofs.lemmas.List.{drop_more, length-append}
use Rattle.um_service.specs.Variables.{variable_text}
use Rattle.um_words.specs.Environment.{variable_of, variables_of}
use Rattle.um_words.proofs.RoomLemmas.{left_more}
use Rattle.um_service.proofs.starting.room_after_environment.Goals as goal

pub loop-variable-preserved : goal.loop-variable-preserved
loop-variable-preserved c =
    let environment = c.args.environment.now in
    let i = c.loop-variable.variable-index in
    let variable = c.variable-item.result in
    let text = variable_text (variable_of variable) in
    let here : drop i environment ≡ variable ∷ drop (i + 1) environment =
    drop_more environment i variable c.loop-variable-test.true ∙ ap (λ v. v ∷ drop (i + 1) environment) (search (rules, c.variable-item.is)) in
    let size : c.saturating_add.result ≡ min (length text) (2 ^ 64 - 1) =
    omega (
      arith,
      c.len.ensures,
      c.saturating_add-length.ensures,
      c.len-in-loop-variable.ensures,
      c.saturating_add.ensures,
      length-append (string_bytes variable.name) (61 ∷ string_bytes variable.value),
    ) in
    left_more c.loop-variable.free c.in_ok-free.free (text ∷ []) (map variable_text (variables_of (drop (i + 1) environment))) _ _
    (ap (λ vs. map variable_text (variables_of vs)) here) (sym (c.after.ensures text size) ∙ c.in_ok-free.was) c.loop-variable.invariant
