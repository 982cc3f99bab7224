use Rattle.std.proofs.Common.{rules, ◌<◌, ◌++◌, not, length, ap, ◌∙◌}
use Rattle.std.proofs.lemmas.List.{map-append}
use Rattle.um_words.specs.Commands.{command_seen, commands_seen}
use Rattle.um_words.proofs.CommandLemmas.{command_cut}
use Rattle.um_words.proofs.command.push_command.Goals as goal

pub returns : goal.returns
returns c =
    let items = c.args.words.items in
    let some : 0 < length items = search rules in
    ap commands_seen c.in_ok-push.ensures.items ∙ map-append command_seen c.args.commands.now.items _
    ∙ ap (λ r. commands_seen c.args.commands.now.items ++ r)
    (command_cut items c.in-Some.first.now c.in_ok-word.word c.as_str.result.now c.split_signs.result.0.now c.split_signs.result.1.now c.has-ignores_failure.result (not c.has-substitutes.result)
    some c.in-Some.ensures.value c.as_str.ensures.value c.split_signs.ensures.signs c.split_signs.ensures.rest c.in_ok-word.ensures.ok c.has-ignores_failure.ensures (ap not c.has-substitutes.ensures))
