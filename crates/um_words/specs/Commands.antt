-- Commands, as the code holds them.
use Rattle.std.specs.Prelude.{List, ℕ, map, string_bytes, take_while}
use Rattle.um_model.specs.Commands as pure
use Rattle.um_model.specs.Commands.{is_sign}
use Rattle.um_words.specs.declared.command.Command.{Command}

-- a command's words, as texts, and its signs
abbrev pub command_seen : Command → pure.Command
command_seen c = record { words = map string_bytes c.words.items; ignores_failure = c.ignores_failure; substitutes = c.substitutes }

-- commands, in order
abbrev pub commands_seen : List Command → List pure.Command
commands_seen commands = map command_seen commands

-- the signs in front of a first word
abbrev pub signs_of : List ℕ → List ℕ
signs_of first = take_while is_sign first
