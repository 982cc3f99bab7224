use Rattle.std.proofs.Common.{◌≡◌, ◌++◌, [], List, map, string_bytes}
use Rattle.um_model.specs.Words.{Word}
use Rattle.um_model.proofs.WordsLaws.{commands_after}
use Rattle.um_words.specs.Views.{word_of}
use Rattle.um_words.specs.Commands.{commands_seen}
use Rattle.um_words.proofs.command.commands.Given as goal

-- whatever words follow, the commands are those so far, then those of the waiting words and of the words that follow
abbrev pub invariant-loop-word : goal.invariant-loop-word
invariant-loop-word l =
    (more : List Word) → commands_after [] (map word_of l.yielded ++ more) ≡ commands_seen l.commands.items ++ commands_after (map string_bytes l.words.items) more
